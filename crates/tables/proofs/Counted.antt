-- A record's number and mark, by its place in a table.
--     number_here     what a table has for a record stands at its place
--     changed_here    a number is written there that is made of the one that stood there
--     marked_here     a mark is written there
--     fallen_on, fallen_off     the candidate marks where a count falls to 0, and where it does not
-- Assumes nothing.
use Prim.Native.Nat.{ℕ, zero, suc, ◌-◌, ◌≤◌}
use mathlib.Core.Path.{◌≡◌, sym, ap, ◌∙◌}
use mathlib.Core.Bool.{true, cond}
use mathlib.Core.List.{List}
use native.Mathlib.Omega.{arith}
use native.Mathlib.Nat.{not-suc-le-zero}
use borrow.Author.Tests.{eq-eqb, ne_eqb}
use lib.ListN.{get_or, set}
use Rattle.rules.specs.Pool.{of_record, with_record}
use Rattle.tables.specs.Bits.{mark_record}
use Rattle.tables.specs.Counted.{fallen}

module _ (xs : List ℕ) where
  pub number_here : (a place : ℕ) → 1 ≤ a → place ≡ a - 1 → get_or xs place 0 ≡ of_record xs a 0
  number_here zero place h e = absurd (not-suc-le-zero h)
  number_here (suc i) place h e = ap (λ (k : ℕ). get_or xs k 0) (let same : place ≡ i = omega arith in same)

  pub marked_here : (a place x : ℕ) → 1 ≤ a → place ≡ a - 1 → set xs place x ≡ with_record xs a x
  marked_here zero place x h e = absurd (not-suc-le-zero h)
  marked_here (suc i) place x h e = ap (λ (k : ℕ). set xs k x) (let same : place ≡ i = omega arith in same)

  pub changed_here : (f : ℕ → ℕ) (a place : ℕ) → 1 ≤ a → place ≡ a - 1 → set xs place (f (get_or xs place 0)) ≡ with_record xs a (f (of_record xs a 0))
  changed_here f a place h e =
      ap (λ (x : ℕ). set xs place (f x)) (number_here a place h e) ∙ marked_here a place (f (of_record xs a 0)) h e

pub fallen_on : (a : ℕ) (counts candidates : List ℕ) → of_record counts a 0 - 1 ≡ 0 → mark_record candidates a true ≡ fallen a counts candidates
unfolding fallen
fallen_on a counts candidates e = ap (λ b. cond b (mark_record candidates a true) candidates) (sym (eq-eqb (of_record counts a 0 - 1) 0 e))

pub fallen_off : (a : ℕ) (counts candidates : List ℕ) → (of_record counts a 0 - 1 ≡ 0 → ⊥) → candidates ≡ fallen a counts candidates
unfolding fallen
fallen_off a counts candidates n = ap (λ b. cond b (mark_record candidates a true) candidates) (sym (ne_eqb (of_record counts a 0 - 1) 0 n))
