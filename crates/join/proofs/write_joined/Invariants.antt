-- The loop of `write_joined`.
use Prim.Native.Nat.{ℕ, ◌-◌}
use mathlib.Core.List.{List}
use Rattle.text.specs.Text.{Written}
use Rattle.join.proofs.Going.{Going}
use Rattle.join.proofs.write_joined.Given as goal

abbrev pub invariant-loop-field : goal.invariant-loop-field
invariant-loop-field l =
    (text : List ℕ)
    × Going l.lain.parts.now l.lain.lengths.now l.cursors l.step text
    × Written l.initial.out l.initial.at text l.at l.out

abbrev pub decreases-loop-field : goal.decreases-loop-field
decreases-loop-field l = 4294967296 - l.step
