-- The loop of `take_next`.
use Prim.Native.Nat.{ℕ, ◌<◌}
use mathlib.Core.Path.{◌≡◌}
use Rattle.std.specs.Prelude.{None}
use Rattle.join.specs.Merge.{cursor_at, EventHere}
use Rattle.join.proofs.take_next.Given as goal

abbrev pub invariant-loop-cursor : goal.invariant-loop-cursor
invariant-loop-cursor l = (l.cursors ≡ l.initial.cursors) × ((j : ℕ) → j < l.cursor-index → EventHere l.parts (cursor_at l.cursors j) l.step None)
