-- The loop of `mark.word_of`.
use Prim.Native.Nat.{ℕ, ◌+◌}
use mathlib.Core.Bool.{Bool}
use Rattle.tables.proofs.Standing.{Half}
use Rattle.tables.proofs.mark.word_of.Given as goal

abbrev pub invariant-loop-i : goal.invariant-loop-i
invariant-loop-i g l =
    Half (λ (k : ℕ) (b : Bool). goal.F-post g l.test k b) l.i l.low × Half (λ (k : ℕ) (b : Bool). goal.F-post g l.test (k + 32) b) l.i l.high
