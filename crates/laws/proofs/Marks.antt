-- What the collector's steps do to the makers, candidate marks and held marks of the records.
--     on_some, on_low, maker_some      a record that has a mark or a maker is a record
--     made_other, made_own, made_candidate, made_candidate_own     phase 2: the records of which a worker is maker, and the others
--     on_grows                         a mark goes on: the others stay
--     held_by_grows, held_by_other, held_by_each     phase 4: held marks stay, and each record of the registers is held
--     falls_cases, falls_other, falls_candidate, falls_own     phases 5 and 6: a count that falls makes its record a candidate at 0, and no other
--     closes_held, closes_stays, closes_candidate     the close
-- Assumes nothing.
use Prim.Native.Nat.{ℕ, zero, suc, ◌+◌, ◌-◌, ◌≤◌}
use mathlib.Core.Path.{◌≡◌, refl, sym, ap, ◌∙◌}
use mathlib.Core.Logic.{◌⊎◌, inl, ⊎_elim}
use mathlib.Core.Bool.{Bool, true, false, cond, ◌&&◌, ◌||◌, true≢false}
use mathlib.Core.List.{List, [], ◌∷◌, map, zip_with}
use native.Mathlib.Omega.{arith}
use native.Mathlib.Nat.{not-suc-le-zero}
use borrow.Author.Tests.{eq-eqb, ne_eqb}
use lib.Dec.{eqb}
use lib.ListN.{length, get_or, get_or-map, get_or-eq_default}
use Rattle.rules.specs.declared.RecordNumber.{RecordNumber}
use Rattle.rules.specs.Pool.{Pool, none, of_record, with_record, count_at, held_at, candidate_at, maker_at}
use Rattle.rules.specs.Collect.{made_by, held_by, falls, closes}
use Rattle.laws.proofs.Tests.{below_or_not}
use Rattle.laws.proofs.Lists.{with_record_cases, of_record_same, of_record_other, length-with_record, get_d_zip_with}

-- ---- none has nothing

pub on_some : (marks : List Bool) (i : ℕ) → of_record marks i false ≡ true → 1 ≤ i
on_some marks zero e = absurd (true≢false (sym e))
on_some marks (suc i) e = omega arith

pub on_low : (marks : List Bool) (i : ℕ) → of_record marks i false ≡ true → i ≤ length marks
on_low marks zero e = omega arith
on_low marks (suc i) e =
    ⊎_elim (λ h. h) (λ (h : length marks ≤ i). absurd (true≢false (sym e ∙ get_or-eq_default marks false h))) (below_or_not i (length marks))

-- none has no maker
pub maker_some : (p : Pool) (a : RecordNumber) (w : ℕ) → maker_at p a ≡ suc w → 1 ≤ a.0
maker_some p a w e = at a.0 e
  where
    at : (i : ℕ) → of_record p.records.maker i 0 ≡ suc w → 1 ≤ i
    at zero z = absurd (omega arith)
    at (suc i) z = omega arith

-- ---- phase 2

module _ (w : ℕ) (p : Pool) where
  -- the maker of each record: none where it was w + 1
  abbrev unmade : ℕ → ℕ
  unmade m = cond (eqb m (w + 1)) 0 m

  unmade-zero : unmade 0 ≡ 0
  unmade-zero = ap (λ b. cond b 0 0) (ne_eqb 0 (w + 1) (λ e. omega arith))

  maker_after : (a : RecordNumber) → maker_at (made_by w p) a ≡ unmade (maker_at p a)
  unfolding made_by
  maker_after a = at a.0
    where
      at : (i : ℕ) → of_record (map unmade p.records.maker) i 0 ≡ unmade (of_record p.records.maker i 0)
      at zero = sym unmade-zero
      at (suc i) = ap (get_or (map unmade p.records.maker) i) (sym unmade-zero) ∙ get_or-map unmade p.records.maker i 0

  abbrev joined : ℕ → Bool → Bool
  joined m c = eqb m (w + 1) || c

  joined_none : joined 0 false ≡ false
  joined_none = ap (λ b. b || false) (ne_eqb 0 (w + 1) (λ e. omega arith))

  candidate_after : length p.records.maker ≡ length p.records.candidate → (a : RecordNumber) → candidate_at (made_by w p) a ≡ joined (maker_at p a) (candidate_at p a)
  unfolding made_by
  candidate_after h a = at a.0
    where
      at : (i : ℕ) → of_record (zip_with joined p.records.maker p.records.candidate) i false ≡ joined (of_record p.records.maker i 0) (of_record p.records.candidate i false)
      at zero = sym joined_none
      at (suc i) =
          ap (get_or (zip_with joined p.records.maker p.records.candidate) i) (sym joined_none)
          ∙ get_d_zip_with joined p.records.maker p.records.candidate i 0 false h

  pub made_own : (a : RecordNumber) → maker_at p a ≡ w + 1 → maker_at (made_by w p) a ≡ 0
  made_own a e = maker_after a ∙ ap (λ b. cond b 0 (maker_at p a)) (eq-eqb (maker_at p a) (w + 1) e)

  pub made_other : (a : RecordNumber) → (maker_at p a ≡ w + 1 → ⊥) → maker_at (made_by w p) a ≡ maker_at p a
  made_other a n = maker_after a ∙ ap (λ b. cond b 0 (maker_at p a)) (ne_eqb (maker_at p a) (w + 1) n)

  pub made_candidate : length p.records.maker ≡ length p.records.candidate → (a : RecordNumber) → (maker_at p a ≡ w + 1 → ⊥)
      → candidate_at (made_by w p) a ≡ candidate_at p a
  made_candidate h a n = candidate_after h a ∙ ap (λ b. b || candidate_at p a) (ne_eqb (maker_at p a) (w + 1) n)

  -- the records of which w is maker become candidates
  pub made_candidate_own : length p.records.maker ≡ length p.records.candidate → (a : RecordNumber) → maker_at p a ≡ w + 1 → candidate_at (made_by w p) a ≡ true
  made_candidate_own h a e = candidate_after h a ∙ ap (λ b. b || candidate_at p a) (eq-eqb (maker_at p a) (w + 1) e)

-- ---- phase 4

pub on_grows : (marks : List Bool) (i j : ℕ) → of_record marks j false ≡ true → of_record (with_record marks i true) j false ≡ true
on_grows marks i j h = ⊎_elim (λ e. e ∙ h) (λ e. e.1) (with_record_cases marks i true j false)

pub held_by_grows : (registers : List RecordNumber) (marks : List Bool) (j : ℕ) → of_record marks j false ≡ true → of_record (held_by registers marks) j false ≡ true
unfolding held_by
held_by_grows [] marks j h = h
held_by_grows (a ∷ registers) marks j h = held_by_grows registers (with_record marks a.0 true) j (on_grows marks a.0 j h)

-- a record that is in no register stays as it was
pub held_by_other : (registers : List RecordNumber) (marks : List Bool) (j : ℕ) → ((r : ℕ) → (get_or registers r none).0 ≡ j → ⊥) → of_record (held_by registers marks) j false ≡ of_record marks j false
unfolding held_by
held_by_other [] marks j n = refl
held_by_other (a ∷ registers) marks j n =
    held_by_other registers (with_record marks a.0 true) j (λ r. n (suc r)) ∙ of_record_other marks a.0 j true false (n zero)

pub held_by_each : (registers : List RecordNumber) (marks : List Bool) (r : ℕ) → 1 ≤ (get_or registers r none).0 → (get_or registers r none).0 ≤ length marks
    → of_record (held_by registers marks) (get_or registers r none).0 false ≡ true
unfolding held_by
held_by_each [] marks r h k = absurd (not-suc-le-zero h)
held_by_each (a ∷ registers) marks zero h k =
    held_by_grows registers (with_record marks a.0 true) a.0 (of_record_same marks a.0 true false h k)
held_by_each (a ∷ registers) marks (suc r) h k =
    held_by_each registers (with_record marks a.0 true) r h (omega (arith, length-with_record marks a.0 true))

-- ---- phases 5 and 6

-- a candidate mark is what it was, or it is of the record whose count falls and goes on
pub falls_cases : (a b : RecordNumber) (p : Pool) → (candidate_at (falls a p) b ≡ candidate_at p b) ⊎ ((b.0 ≡ a.0) × (candidate_at (falls a p) b ≡ true))
unfolding falls
falls_cases a b p = by_count (eqb (count_at p a - 1) 0)
  where
    by_count : (x : Bool) → let marks : List Bool = cond x (with_record p.records.candidate a.0 true) p.records.candidate in
        (of_record marks b.0 false ≡ candidate_at p b) ⊎ ((b.0 ≡ a.0) × (of_record marks b.0 false ≡ true))
    by_count true = with_record_cases p.records.candidate a.0 true b.0 false
    by_count false = inl refl

pub falls_other : (a b : RecordNumber) (p : Pool) → (a.0 ≡ b.0 → ⊥) → candidate_at (falls a p) b ≡ candidate_at p b
falls_other a b p n = ⊎_elim (λ e. e) (λ e. absurd (n (sym e.0))) (falls_cases a b p)

pub falls_candidate : (a b : RecordNumber) (p : Pool) → candidate_at p b ≡ true → candidate_at (falls a p) b ≡ true
falls_candidate a b p h = ⊎_elim (λ e. e ∙ h) (λ e. e.1) (falls_cases a b p)

-- at 0 it goes on
pub falls_own : (a : RecordNumber) (p : Pool) → 1 ≤ a.0 → a.0 ≤ length p.records.candidate → count_at p a - 1 ≡ 0 → candidate_at (falls a p) a ≡ true
unfolding falls
falls_own a p some low e =
    ap (λ x. of_record (cond x (with_record p.records.candidate a.0 true) p.records.candidate) a.0 false) (eq-eqb (count_at p a - 1) 0 e)
    ∙ of_record_same p.records.candidate a.0 true false some low

-- ---- the close

-- all held marks are off
pub closes_held : (p : Pool) (a : RecordNumber) → held_at (closes p) a ≡ false
unfolding closes
closes_held p a = at a.0 p.records.held
  where
    off : (marks : List Bool) (i : ℕ) → get_or (map (λ h. false) marks) i false ≡ false
    off [] i = refl
    off (h ∷ marks) zero = refl
    off (h ∷ marks) (suc i) = off marks i

    at : (i : ℕ) (marks : List Bool) → of_record (map (λ h. false) marks) i false ≡ false
    at zero marks = refl
    at (suc i) marks = off marks i

-- "candidate marks off where the count is not 0"
closes-marks : (p : Pool) → length p.records.candidate ≡ length p.records.count → (a : RecordNumber) → candidate_at (closes p) a ≡ (candidate_at p a && eqb (count_at p a) 0)
unfolding closes
closes-marks p h a = at a.0
  where
    at : (i : ℕ) → of_record (zip_with (λ c n. c && eqb n 0) p.records.candidate p.records.count) i false ≡ (of_record p.records.candidate i false && eqb (of_record p.records.count i 0) 0)
    at zero = refl
    at (suc i) = get_d_zip_with (λ c n. c && eqb n 0) p.records.candidate p.records.count i false 0 h

pub closes_stays : (p : Pool) → length p.records.candidate ≡ length p.records.count → (a : RecordNumber) → candidate_at p a ≡ true → count_at p a ≡ 0 → candidate_at (closes p) a ≡ true
closes_stays p h a on z = closes-marks p h a ∙ (λ j. on j && eq-eqb (count_at p a) 0 z j)

pub closes_candidate : (p : Pool) → length p.records.candidate ≡ length p.records.count → (a : RecordNumber) → candidate_at p a ≡ false → candidate_at (closes p) a ≡ false
closes_candidate p h a off = closes-marks p h a ∙ ap (λ c. c && eqb (count_at p a) 0) off
