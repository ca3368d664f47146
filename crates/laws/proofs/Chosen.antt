-- What a make picks.
--     chosen-low       it is a record number
--     chosen_free      where it is not none, it is a free record
--     chosen_first     "the first free record above the last one made": where it is above, every record between is used
--     chosen-lowest    "else the lowest": where it is not above, every record above the last made and every one below it is used
--     chosen_none      it is none only where no record is free
--     chosen_cases     it is the one or the other
-- Assumes nothing.
use Prim.Native.Nat.{ℕ, zero, suc, ◌+◌, ◌-◌, ◌≤◌, ◌<◌, zero-le}
use mathlib.Core.Path.{◌≡◌, refl, sym, ap, ◌∙◌}
use mathlib.Core.Logic.{◌⊎◌, ⊎_elim}
use mathlib.Core.Bool.{Bool, true, false, cond}
use mathlib.Core.List.{List, [], ◌∷◌}
use native.Mathlib.Omega.{arith}
use native.Mathlib.Nat.{le_of_suc-le-suc, not-suc-le-zero}
use borrow.Author.Tests.{eqb-true, eqb-false}
use lib.Dec.{eqb}
use lib.ListN.{length, get_or, drop, length-drop}
use lib.Seq.{get_or-drop}
use Rattle.rules.specs.declared.RecordNumber.{RecordNumber}
use Rattle.rules.specs.Pool.{Pool, of_record, used_at}
use Rattle.rules.specs.Worker.{first_free, first_above, lowest, chosen}

-- where the search from a + 1 on finds a record, it is at a place of the marks that is off, and all before it are on
pub record Found (a : ℕ) (used : List Bool) : Type 0 where
  pub place : ℕ
  pub number : (first_free (suc a) used).0 ≡ suc (a + place)
  pub inside : place < length used
  pub free : get_or used place false ≡ false
  pub lowest : (j : ℕ) → j < place → get_or used j false ≡ true

found : (a : ℕ) (used : List Bool) → 1 ≤ (first_free (suc a) used).0 → Found a used
unfolding first_free
found a [] h = absurd (not-suc-le-zero h)
found a (false ∷ used) h =
    record { place = 0; number = omega arith; inside = omega arith; free = refl; lowest = λ j k. absurd (not-suc-le-zero k) }
found a (true ∷ used) h = next (found (suc a) used h)
  where
    before : (i : ℕ) → ((j : ℕ) → j < i → get_or used j false ≡ true) → (j : ℕ) → j < suc i → get_or (true ∷ used) j false ≡ true
    before i all zero k = refl
    before i all (suc j) k = all j (le_of_suc-le-suc k)

    next : Found (suc a) used → Found a (true ∷ used)
    next f =
        record {
          place = suc f.place;
          number = omega (arith, f.number);
          inside = omega (arith, f.inside);
          free = f.free;
          lowest = before f.place f.lowest;
        }

none_found : (a : ℕ) (used : List Bool) → (first_free (suc a) used).0 ≡ 0 → (j : ℕ) → j < length used → get_or used j false ≡ true
unfolding first_free
none_found a [] h j k = absurd (not-suc-le-zero k)
none_found a (false ∷ used) h j k = absurd (omega arith)
none_found a (true ∷ used) h zero k = refl
none_found a (true ∷ used) h (suc j) k = none_found (suc a) used h j (le_of_suc-le-suc k)

-- ---- the search from the marks of the records above m on

module _ (used : List Bool) (m : ℕ) where
  abbrev from : RecordNumber
  from = first_free (suc m) (drop m used)

  from_low : from.0 ≤ length used
  from_low = by_number from.0 refl
    where
      by_number : (n : ℕ) → from.0 ≡ n → n ≤ length used
      by_number zero e = zero-le
      by_number (suc n) e =
          let f : Found m (drop m used) = found m (drop m used) (omega arith) in omega (arith, f.number, f.inside, length-drop m used)

  -- the mark of record m + 1 + i
  mark_there : (i : ℕ) → get_or (drop m used) i false ≡ of_record used (suc (m + i)) false
  mark_there i = get_or-drop m used i false

  from_free : 1 ≤ from.0 → (m < from.0) × (of_record used from.0 false ≡ false)
  from_free h =
      let f : Found m (drop m used) = found m (drop m used) h in (
        omega (arith, f.number),
        ap (λ (i : ℕ). of_record used i false) f.number ∙ sym (mark_there f.place) ∙ f.free,
      )

  from_first : (i : ℕ) → m < i → i < from.0 → of_record used i false ≡ true
  from_first i h k =
      let f : Found m (drop m used) = found m (drop m used) (omega arith) in
      let at : i ≡ suc (m + (i - suc m)) = omega arith in
      ap (λ (j : ℕ). of_record used j false) at
      ∙ sym (mark_there (i - suc m))
      ∙ f.lowest (i - suc m) (omega (arith, f.number))

  from_none : from.0 ≡ 0 → (i : ℕ) → m < i → i ≤ length used → of_record used i false ≡ true
  from_none z i h k =
      let at : i ≡ suc (m + (i - suc m)) = omega arith in
      ap (λ (j : ℕ). of_record used j false) at
      ∙ sym (mark_there (i - suc m))
      ∙ none_found m (drop m used) z (i - suc m) (omega (arith, length-drop m used))

-- ---- what a make picks

module _ (p : Pool) where
  abbrev used : List Bool
  used = p.records.used

  pub chosen_cases : (P : RecordNumber → Type 0) → ((first_above p).0 ≡ 0 → P (lowest p)) → (1 ≤ (first_above p).0 → P (first_above p)) → P (chosen p)
  unfolding chosen
  chosen_cases P round above = by_test (eqb (first_above p).0 0) refl
    where
      by_test : (b : Bool) → eqb (first_above p).0 0 ≡ b → P (cond b (lowest p) (first_above p))
      by_test true e = round (eqb-true (first_above p).0 0 e)
      by_test false e = above (let some = eqb-false (first_above p).0 0 e in omega arith)

  pub chosen-low : (chosen p).0 ≤ length used
  unfolding first_above lowest
  chosen-low = chosen_cases (λ a. a.0 ≤ length used) (λ z. from_low used 0) (λ h. from_low used p.last.0)

  pub chosen_free : 1 ≤ (chosen p).0 → used_at p (chosen p) ≡ false
  unfolding first_above lowest
  chosen_free = chosen_cases (λ a. 1 ≤ a.0 → used_at p a ≡ false) (λ z h. (from_free used 0 h).1) (λ k h. (from_free used p.last.0 h).1)

  -- "the first free record above the last one made"
  pub chosen_first : p.last.0 < (chosen p).0 → (a : RecordNumber) → p.last.0 < a.0 → a.0 < (chosen p).0 → used_at p a ≡ true
  unfolding first_above lowest
  chosen_first =
      chosen_cases (λ b. p.last.0 < b.0 → (a : RecordNumber) → p.last.0 < a.0 → a.0 < b.0 → used_at p a ≡ true)
      (λ z h a k l. from_none used p.last.0 z a.0 k (omega (arith, from_low used 0)))
      (λ some h a k l. from_first used p.last.0 a.0 k l)

  -- "else the lowest": none above the last made is free, and none below what is picked
  pub chosen-lowest : (chosen p).0 ≤ p.last.0 → (a : RecordNumber) → 1 ≤ a.0 → a.0 ≤ length used → (a.0 < (chosen p).0) ⊎ (p.last.0 < a.0) → used_at p a ≡ true
  unfolding first_above lowest
  chosen-lowest =
      chosen_cases (λ b. b.0 ≤ p.last.0 → (a : RecordNumber) → 1 ≤ a.0 → a.0 ≤ length used → (a.0 < b.0) ⊎ (p.last.0 < a.0) → used_at p a ≡ true)
      (λ z h a some low. ⊎_elim (λ below. from_first used 0 a.0 some below) (λ above. from_none used p.last.0 z a.0 above low))
      (λ there h. absurd (let above = (from_free used p.last.0 there).0 in omega arith))

  pub chosen_none : (chosen p).0 ≡ 0 → (a : RecordNumber) → 1 ≤ a.0 → a.0 ≤ length used → used_at p a ≡ true
  unfolding first_above lowest
  chosen_none =
      chosen_cases (λ b. b.0 ≡ 0 → (a : RecordNumber) → 1 ≤ a.0 → a.0 ≤ length used → used_at p a ≡ true)
      (λ z none a some low. from_none used 0 none a.0 some low)
      (λ some none. absurd (omega arith))
