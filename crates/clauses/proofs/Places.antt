-- Laws on lists that speak of no test.
--     everywhere, each_everywhere      what holds at every place of a list, and past its end
--     everywhere_record, every_record  the same by record numbers: record a stands at place a - 1
-- Assumes nothing.
use Prim.Native.Nat.{ℕ, zero, suc, ◌≤◌, ◌<◌}
use mathlib.Core.Path.{sym, subst}
use mathlib.Core.Logic.{◌↔◌, ⊎_elim}
use mathlib.Core.List.{List}
use native.Mathlib.Nat.{not-suc-le-zero}
use lib.ListN.{length, get_or, get_or-eq_default}
use Rattle.rules.specs.declared.RecordNumber.{RecordNumber}
use Rattle.rules.specs.Pool.{of_record}
use Rattle.rules.specs.Sound.{Each}
use Rattle.tables.specs.Lie.{record_number}
use Rattle.laws.proofs.Tests.{below_or_not}
use Rattle.laws.proofs.Lists.{Each-at, Each-places}

module _ {A : Type 0} (P : A → Type 0) (d : A) (past : P d) where
  pub everywhere : (xs : List A) → ((i : ℕ) → i < length xs → P (get_or xs i d)) → (i : ℕ) → P (get_or xs i d)
  everywhere xs h i =
      ⊎_elim (λ k. h i k) (λ k. subst P (sym (get_or-eq_default xs d k)) past) (below_or_not i (length xs))

  pub each_everywhere : (xs : List A) → Each P xs ↔ ((i : ℕ) → P (get_or xs i d))
  each_everywhere xs = (λ h. everywhere xs (λ i k. Each-at P xs i d k h), λ h. Each-places P d xs (λ i k. h i))

  pub everywhere_record : (xs : List A) → ((i : ℕ) → P (get_or xs i d)) → (i : ℕ) → P (of_record xs i d)
  everywhere_record xs h zero = past
  everywhere_record xs h (suc i) = h i

pub every_record : (P : RecordNumber → Type 0) (n : ℕ) → ((i : ℕ) → i < n → P (record_number (suc i))) → (a : RecordNumber) → 1 ≤ a.0 → a.0 ≤ n → P a
every_record P n h a some low = at a.0 some low
  where
    at : (i : ℕ) → 1 ≤ i → i ≤ n → P (record_number i)
    at zero some low = absurd (not-suc-le-zero some)
    at (suc i) some low = h i low
