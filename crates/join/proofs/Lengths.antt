-- The table of lengths: sums of the first of them, and the places that are filled in one after another.
--     sum_next, sum_most            the sum of the first lengths
--     none_lent, too_many, adds_up, left-over, all_lent     the test that the parts lie end to end
--     PartEnd, part_end             where a part ends
--     below_next                    what holds below an index, one index further
-- Assumes nothing.
use Prim.Native.Nat.{ℕ, zero, suc, ◌+◌, ◌≤◌, ◌<◌}
use mathlib.Core.Path.{◌≡◌, sym, ◌∙◌, subst}
use mathlib.Core.Logic.{⊎_elim}
use mathlib.Core.Bool.{Bool, true, false, ◌&&◌}
use mathlib.Core.List.{List, [], ◌∷◌}
use native.Mathlib.Omega.{arith}
use native.Mathlib.Nat.{eq-or-lt_of_le, le_of_suc-le-suc, not-suc-le-zero}
use borrow.Author.Tests.{leb-true, eqb-true, le-leb, lt-leb, eq-eqb, ne_eqb}
use lib.Dec.{eqb, leb}
use lib.ListN.{length, get_or, take}
use Rattle.laws.proofs.Tests.{eqb_cases, and_left, and_right}
use Rattle.join.specs.Joined.{sum, end_to_end}

pub sum_next : (lengths : List ℕ) (i : ℕ) → i < length lengths → sum (take (suc i) lengths) ≡ sum (take i lengths) + get_or lengths i 0
unfolding sum
sum_next [] i h = absurd (not-suc-le-zero h)
sum_next (n ∷ lengths) zero h = omega arith
sum_next (n ∷ lengths) (suc i) h = omega (arith, sum_next lengths i (le_of_suc-le-suc h))

pub sum_most : (lengths : List ℕ) (i : ℕ) → sum (take i lengths) ≤ sum lengths
unfolding sum
sum_most [] zero = omega arith
sum_most [] (suc i) = omega arith
sum_most (n ∷ lengths) zero = omega arith
sum_most (n ∷ lengths) (suc i) = omega (arith, sum_most lengths i)

module _ (parts lengths : List ℕ) where
  pub none_lent : length lengths < 1 → false ≡ end_to_end parts lengths
  unfolding end_to_end
  none_lent few = rw (lt-leb 1 (length lengths) few)

  pub too_many : 9 < length lengths → false ≡ end_to_end parts lengths
  unfolding end_to_end
  too_many many = rw (le-leb 1 (length lengths) (omega arith), lt-leb (length lengths) 9 many)

  pub adds_up : 1 ≤ length lengths → length lengths ≤ 9 → {b : Bool} → eqb (sum lengths) (length parts) ≡ b → b ≡ end_to_end parts lengths
  unfolding end_to_end
  adds_up some few test = rw (le-leb 1 (length lengths) some, le-leb (length lengths) 9 few) (sym test)

  -- what is left behind all of them
  pub left_over : 1 ≤ length lengths → length lengths ≤ 9 → (left : ℕ) → sum lengths + left ≡ length parts → eqb left 0 ≡ end_to_end parts lengths
  left_over some few left adds =
      adds_up some few
      (⊎_elim
      (λ e. eq-eqb (sum lengths) (length parts) (let all = e.0 in omega arith) ∙ sym e.1)
      (λ e. ne_eqb (sum lengths) (length parts) (λ all. e.0 (omega arith)) ∙ sym e.1)
      (eqb_cases left 0))

  pub record Lent : Type 0 where
    pub some : 1 ≤ length lengths
    pub few : length lengths ≤ 9
    pub adds : sum lengths ≡ length parts

  pub all_lent : end_to_end parts lengths ≡ true → Lent
  unfolding end_to_end
  all_lent h =
      let ranged = and_left (leb 1 (length lengths) && leb (length lengths) 9) (eqb (sum lengths) (length parts)) h in
      record {
        some = leb-true 1 (length lengths) (and_left (leb 1 (length lengths)) (leb (length lengths) 9) ranged);
        few = leb-true (length lengths) 9 (and_right (leb 1 (length lengths)) (leb (length lengths) 9) ranged);
        adds = eqb-true (sum lengths) (length parts) (and_right (leb 1 (length lengths) && leb (length lengths) 9) (eqb (sum lengths) (length parts)) h);
      }

-- where a part ends, and that it ends in the slice
pub record PartEnd (parts lengths : List ℕ) (i start : ℕ) : Type 0 where
  pub is : start + get_or lengths i 0 ≡ sum (take (suc i) lengths)
  pub inside : start + get_or lengths i 0 ≤ length parts

pub part_end : (parts lengths : List ℕ) → end_to_end parts lengths ≡ true → {i start : ℕ} → i < length lengths → start ≡ sum (take i lengths)
    → PartEnd parts lengths i start
part_end parts lengths h {i} {start} inside from =
    let is : start + get_or lengths i 0 ≡ sum (take (suc i) lengths) = omega (arith, sum_next lengths i inside) in
    record { is = is; inside = omega (arith, is, sum_most lengths (suc i), (all_lent parts lengths h).adds) }

pub below_next : (P : ℕ → Type 0) (i : ℕ) → ((j : ℕ) → j < i → P j) → P i → (j : ℕ) → j < i + 1 → P j
below_next P i below here j h =
    ⊎_elim (λ (e : j ≡ i). subst P (sym e) here) (below j) (eq-or-lt_of_le (let k : j ≤ i = omega arith in k))
