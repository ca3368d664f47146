-- The loop of `passed_over`.
use Prim.Native.Nat.{ℕ, ◌+◌, ◌-◌, ◌*◌, ◌≤◌, ◌<◌}
use mathlib.Core.Path.{◌≡◌}
use mathlib.Core.Bool.{false}
use lib.ListN.{length}
use Rattle.reclaim.specs.Raw.{may_wait}
use Rattle.reclaim.proofs.passed_over.Given as goal

abbrev pub invariant-loop-word : goal.invariant-loop-word
invariant-loop-word l =
    (l.rest < 64)
    × (l.a ≤ l.word * 64 + l.rest + 1)
    × (l.word < length l.used → l.word * 64 + l.rest ≤ l.n)
    × ((b : ℕ) → l.a ≤ b → b ≤ l.word * 64 + l.rest → may_wait l.used l.held l.candidates (b - 1) ≡ false)
