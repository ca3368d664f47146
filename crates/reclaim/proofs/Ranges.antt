-- What `all` and `any` over the numbers below n answer, by what each answer of the test tells.
--     all_below, any_below     it is b, where b follows from either case
-- Assumes nothing.
use Prim.Native.Nat.{ℕ, ◌<◌, zero-le}
use mathlib.Core.Path.{◌≡◌, sym, subst, ◌∙◌}
use mathlib.Core.Bool.{Bool, true, false}
use mathlib.Core.List.{List}
use native.Mathlib.Omega.{arith}
use lib.ListN.{length}
use Rattle.std.specs.Bool.{MatchBool}
use Rattle.std.specs.List.{AllWithin, HoldsAt, range_with_len}
use Rattle.std.proofs.lemmas.List.FromFn.{get_or-range_with_len, length-range_with_len}

module _ (n : ℕ) where
  abbrev below : List ℕ
  below = range_with_len 0 n

  abbrev Each : (ℕ → Type 0) → Type 0
  Each R = AllWithin R below 0 (length below)

  abbrev Some : (ℕ → Type 0) → Type 0
  Some R = (k : ℕ) × (k < length below) × HoldsAt R below k

  each : (R : ℕ → Type 0) → Each R → (f : ℕ) → f < n → R f
  each R h f low = subst R (get_or-range_with_len 0 n f 0 low ∙ omega arith) (h f 0 zero-le (omega (arith, length-range_with_len 0 n)))

  some_low : (R : ℕ → Type 0) (x : Some R) → x.0 < n
  some_low R x = omega (arith, x.1, length-range_with_len 0 n)

  some : (R : ℕ → Type 0) (x : Some R) → R x.0
  some R x = subst R (get_or-range_with_len 0 n x.0 0 (some_low R x) ∙ omega arith) (x.2 0)

  pub all_below : (P Q : ℕ → Type 0) (r b : Bool) → MatchBool r (Each P) (Some Q) → (((f : ℕ) → f < n → P f) → b ≡ true) → ((f : ℕ) → f < n → Q f → b ≡ false)
      → r ≡ b
  all_below P Q true b h holds fails = sym (holds (each P h))
  all_below P Q false b h holds fails = sym (fails h.0 (some_low Q h) (some Q h))

  pub any_below : (P Q : ℕ → Type 0) (r b : Bool) → MatchBool r (Some P) (Each Q) → ((f : ℕ) → f < n → P f → b ≡ true) → (((f : ℕ) → f < n → Q f) → b ≡ false)
      → r ≡ b
  any_below P Q true b h holds fails = sym (holds h.0 (some_low P h) (some P h))
  any_below P Q false b h holds fails = sym (fails (each Q h))
