-- The loop of `mark.join_standing`.
use Prim.Native.Nat.{ℕ, ◌*◌, ◌≤◌, ◌<◌}
use mathlib.Core.Path.{◌≡◌}
use lib.ListN.{get_or, drop}
use Rattle.tables.specs.Bits.{number, stands}
use Rattle.tables.proofs.mark.join_standing.Given as goal

abbrev pub invariant-loop-i : goal.invariant-loop-i
invariant-loop-i g l =
    ((k : ℕ) → k < l.i → goal.F-post g l.join (get_or l.initial.words k 0) (number 64 (stands l.x (drop (k * 64) l.numbers))) (get_or l.words k 0))
    × ((k : ℕ) → l.i ≤ k → get_or l.words k 0 ≡ get_or l.initial.words k 0)
