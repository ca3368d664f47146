-- The loop of `measure`.
use Prim.Native.Nat.{ℕ, ◌*◌, ◌-◌, ◌≤◌, ◌<◌}
use mathlib.Core.Path.{◌≡◌}
use mathlib.Core.List.{List}
use lib.ListN.{length}
use Rattle.join.proofs.Going.{Going}
use Rattle.join.proofs.measure.Given as goal

abbrev pub invariant-loop-field : goal.invariant-loop-field
invariant-loop-field l =
    (text : List ℕ)
    × Going l.lain.parts.now l.lain.lengths.now l.cursors l.step text
    × (l.size ≡ length text)
    × (l.size ≤ l.step * 13)
    × (l.step < 4294967296)

abbrev pub decreases-loop-field : goal.decreases-loop-field
decreases-loop-field l = 4294967296 - l.step
