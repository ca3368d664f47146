-- The lines of some cycles, whose numbers stand in a list.
--     taken_at, freed_at, net_at     the three numbers of a cycle
--     Three, three                   what is known of them, and the lines from it on
--     unsigned                       a number that is not below nought
--     no_cycle                       no cycle is left
--     cycle_most                     how long a line is at most
-- Assumes nothing.
use Prim.Native.Nat.{ℕ, suc, ◌+◌, ◌*◌, ◌/◌, ◌≤◌, ◌<◌}
use mathlib.Core.Path.{◌≡◌, refl, sym, ap, ◌∙◌, subst}
use mathlib.Core.List.{List, [], ◌∷◌, ◌++◌}
use native.Mathlib.Omega.{arith}
use native.Mathlib.Nat.{add-zero}
use native.Mathlib.Numerals.{add-one, towards_suc}
use lib.Dec.{T}
use lib.IntN.{ℤ, pos, negsuc, nat_abs}
use lib.ListN.{length, get_or, drop, length-append, length-drop}
use lib.Seq.{drop-cons}
use lib.Signed.{mag, non_neg}
use mir.Syntax.{w64}
use mir.Val.{Fits, SFits, to_z, of_z}
use Rattle.std.proofs.lemmas.Int.{ints, to_z-of_z}
use Rattle.std.specs.Simd.{first_chunks}
use Rattle.text.specs.Cycle.{cycle_text, cycles_text, Printable}
use Rattle.text.proofs.Digits.{decimal_20}
use Rattle.text.proofs.Below.{net_most}
use Rattle.text.proofs.Chunks.{chunk_at}

pub record Three (numbers : List ℤ) (i before : ℕ) (taken freed net : ℤ) : Type 0 where
  pub taken-up : T (non_neg taken)
  pub freed-up : T (non_neg freed)
  pub few : mag net ≤ 2147483646
  pub rest : Printable (drop ((i + 1) * 3) numbers)
  pub text : cycles_text before (drop (i * 3) numbers) ≡ cycle_text (before + 1) (nat_abs taken) (nat_abs freed) net ++ cycles_text (before + 1) (drop ((i + 1) * 3) numbers)

-- the next three
next : (numbers : List ℤ) (i : ℕ) → i + 2 < length numbers
    → drop i numbers ≡ get_or numbers i (pos 0) ∷ get_or numbers (i + 1) (pos 0) ∷ get_or numbers (i + 2) (pos 0) ∷ drop (i + 3) numbers
next numbers i inside =
    simp towards_suc
    (drop-cons numbers i (pos 0) (omega arith)
    ∙ ap (λ (xs : List ℤ). get_or numbers i (pos 0) ∷ xs)
    (drop-cons numbers (suc i) (pos 0) (omega arith)
    ∙ ap (λ (xs : List ℤ). get_or numbers (suc i) (pos 0) ∷ xs) (drop-cons numbers (suc (suc i)) (pos 0) (omega arith))))

module _ (numbers : List ℤ) (cycles : List (List ℤ)) (i : ℕ) (are : cycles ≡ first_chunks 3 (length numbers / 3) numbers) (here : i < length numbers / 3) where
  abbrev number_at : ℕ → ℤ
  number_at j = get_or (get_or cycles i []) j (pos 0)

  abbrev pub taken_at : ℤ
  taken_at = number_at 0

  abbrev pub freed_at : ℤ
  freed_at = number_at 1

  abbrev pub net_at : ℤ
  net_at = number_at 2

  number_is : (j : ℕ) → j < 3 → number_at j ≡ get_or numbers (i * 3 + j) (pos 0)
  number_is j inside = ap (λ (cs : List (List ℤ)). get_or (get_or cs i []) j (pos 0)) are ∙ chunk_at 3 _ numbers i j (pos 0) here inside

  its_numbers : drop (i * 3) numbers ≡ taken_at ∷ freed_at ∷ net_at ∷ drop ((i + 1) * 3) numbers
  its_numbers =
      let first : taken_at ≡ get_or numbers (i * 3) (pos 0) = number_is 0 (omega arith) ∙ ap (λ (m : ℕ). get_or numbers m (pos 0)) (add-zero (i * 3)) in
      let more : i * 3 + 3 ≡ (i + 1) * 3 = omega arith in
      next numbers (i * 3) (omega arith)
      ∙ (λ j. sym first j ∷ sym (number_is 1 (omega arith)) j ∷ sym (number_is 2 (omega arith)) j ∷ drop (more j) numbers)

  pub three : (before : ℕ) → Printable (drop (i * 3) numbers) → Three numbers i before taken_at freed_at net_at
  unfolding cycles_text
  three before printable =
      let fits = subst Printable its_numbers printable in
      record {
        taken-up = fits.0;
        freed-up = fits.1;
        few = fits.2;
        rest = fits.3;
        text = ap (cycles_text before) its_numbers ∙ rw (add-one before);
      }

-- a number of 64 bits with a sign, as the machine holds it
module _ (z : ℤ) (fits : SFits w64 z) (up : T (non_neg z)) where
  pub unsigned : T (non_neg (to_z w64 (of_z w64 z))) × Fits w64 (nat_abs (to_z w64 (of_z w64 z)))
  unsigned = rw (to_z-of_z w64 z fits) (up, record { fits = omega (arith, ints, size z fits.sfits) })
    where
      size : (z : ℤ) → mag z < 9223372036854775808 → nat_abs z ≤ 9223372036854775808
      size (pos n) few = omega arith
      size (negsuc n) few = omega arith

pub no_cycle : (numbers : List ℤ) (i before : ℕ) → length numbers ≤ i + 2 → i ≤ length numbers → cycles_text before (drop i numbers) ≡ []
unfolding cycles_text
no_cycle numbers i before over inside = short (drop i numbers) (omega (arith, length-drop i numbers))
  where
    short : (xs : List ℤ) → length xs ≤ 2 → cycles_text before xs ≡ []
    short [] few = refl
    short (x ∷ []) few = refl
    short (x ∷ y ∷ []) few = refl
    short (x ∷ y ∷ z ∷ xs) few = absurd (omega arith)

pub cycle_most : (ordinal taken freed : ℕ) (net : ℤ) → length (cycle_text ordinal taken freed net) ≤ 114
unfolding cycle_text
cycle_most ordinal taken freed net = simp length-append (omega (arith, decimal_20 ordinal, decimal_20 taken, decimal_20 freed, net_most net))
