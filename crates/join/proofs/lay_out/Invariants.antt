-- The loop of `lay_out`.
use Prim.Native.Nat.{ℕ, ◌<◌}
use mathlib.Core.Path.{◌≡◌}
use lib.ListN.{length}
use Rattle.join.specs.Merge.{start_of, cursor_at}
use Rattle.join.proofs.Laid.{LaidAt}
use Rattle.join.proofs.lay_out.Given as goal

abbrev pub invariant-loop-i : goal.invariant-loop-i
invariant-loop-i l =
    (length l.cursors ≡ 9)
    × (l.start ≡ start_of l.lain.lengths.now l.i)
    × ((j : ℕ) → j < l.i → LaidAt l.first l.lain.parts.now l.lain.lengths.now (cursor_at l.cursors j) j)
