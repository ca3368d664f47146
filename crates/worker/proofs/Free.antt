-- The search for a free record.
--     free_at, free_nowhere     the first mark that is off from a place on is a record's, or there is none
--     above_is, lowest_is, chosen_is     the two searches of a make, and both together
-- Assumes nothing.
use Prim.Native.Nat.{ℕ, zero, suc, ◌+◌, ◌-◌, ◌*◌, ◌≤◌, ◌<◌}
use mathlib.Core.Path.{◌≡◌, refl, sym, ap, ◌∙◌}
use mathlib.Core.Bool.{Bool}
use mathlib.Core.List.{List, [], ◌∷◌}
use native.Mathlib.Omega.{arith}
use lib.ListN.{length, take, drop, length-drop}
use lib.Seq.{length-take-le}
use Rattle.std.proofs.Common.{Option, Some, None, MatchOption}
use Rattle.rules.specs.declared.RecordNumber.{RecordNumber}
use Rattle.rules.specs.Pool.{Pool}
use Rattle.rules.specs.Worker.{first_free, first_above, lowest, chosen}
use Rattle.laws.proofs.Chosen.{chosen_cases}
use Rattle.tables.specs.Bits.{bits_of, marks_in, first_off}
use Rattle.tables.specs.Lie.{record_number}
use Rattle.tables.specs.There.{record_there}
use Rattle.tables.proofs.There.{there_some, some-there, none-there}
use Rattle.tables.proofs.Words.{length-bits}
use Rattle.tables.proofs.Searched.{off_among, off_past, free_found, free_none}
use Rattle.worker.specs.Raw.{free_from}

drop-take : (m n : ℕ) (xs : List Bool) → drop m (take n xs) ≡ take (n - m) (drop m xs)
drop-take zero n xs = ap (λ (k : ℕ). take k xs) (let e : n ≡ n - 0 = omega arith in e)
drop-take (suc m) zero xs = ap (λ (k : ℕ). take k (drop (suc m) xs)) (let e : 0 ≡ 0 - suc m = omega arith in e)
drop-take (suc m) (suc n) [] = nothing (suc n - suc m)
  where
    nothing : (k : ℕ) → ◌≡◌ {A = List Bool} [] (take k [])
    nothing zero = refl
    nothing (suc k) = refl
drop-take (suc m) (suc n) (x ∷ xs) = drop-take m n xs ∙ ap (λ (k : ℕ). take k (drop m xs)) (let e : n - m ≡ suc n - suc m = omega arith in e)

module _ (n : ℕ) (used : List ℕ) (from : ℕ) (enough : n ≤ length used * 64) (low : from ≤ n) where
  -- the bits from the place on, and those of them that are marks
  abbrev rest : List Bool
  rest = drop from (bits_of used)

  length_rest : length rest ≡ length used * 64 - from
  length_rest = length-drop from (bits_of used) ∙ ap (λ (k : ℕ). k - from) (length-bits 64 used)

  pub free_at : (i : ℕ) → i ≡ from + first_off rest → i < n → Some (record_number (i + 1)) ≡ record_there (free_from n used from)
  free_at i e h =
      let among : first_off (take (n - from) rest) ≡ first_off rest = off_among (n - from) rest (omega arith) (omega (arith, length_rest)) in
      there_some (record_number (i + 1)) (omega arith)
      ∙ sym
      (ap record_there
      (ap (first_free (suc from)) (drop-take from n (bits_of used))
      ∙ free_found from (take (n - from) rest) (omega (arith, among, length-take-le (n - from) rest (omega (arith, length_rest))))
      ∙ ap record_number (let same : suc (from + first_off (take (n - from) rest)) ≡ i + 1 = omega (arith, among) in same)))

  pub free_nowhere : n ≤ from + first_off rest → None ≡ record_there (free_from n used from)
  free_nowhere h =
      sym
      (ap record_there
      (ap (first_free (suc from)) (drop-take from n (bits_of used)) ∙ free_none from (take (n - from) rest) (off_past (n - from) rest (omega arith))))

-- ---- the two searches of a make

module _ (n : ℕ) (used : List ℕ) (p : Pool) (marks_are : p.records.used ≡ marks_in n used) where
  pub above_is : (last : ℕ) → p.last.0 ≡ last → free_from n used last ≡ first_above p
  unfolding first_above
  above_is last last_is = sym (λ j. first_free (suc (last_is j)) (drop (last_is j) (marks_are j)))

  pub lowest_is : free_from n used 0 ≡ lowest p
  unfolding lowest
  lowest_is = ap (first_free 1) (sym marks_are)

  -- what both find together
  pub chosen_is : (last : ℕ) → p.last.0 ≡ last → (first found : Option RecordNumber) → first ≡ record_there (free_from n used last)
      → MatchOption first (found ≡ record_there (free_from n used 0)) (λ a. found ≡ Some a) → found ≡ record_there (chosen p)
  chosen_is last last_is first found e h = by_first first (e ∙ ap record_there (above_is last last_is)) h
    where
      by_first : (first : Option RecordNumber) → first ≡ record_there (first_above p)
          → MatchOption first (found ≡ record_there (free_from n used 0)) (λ a. found ≡ Some a) → found ≡ record_there (chosen p)
      by_first None e h =
          let nothing : (first_above p).0 ≡ 0 = none-there (first_above p) e in
          chosen_cases p (λ x. found ≡ record_there x) (λ z. h ∙ ap record_there lowest_is) (λ some. absurd (omega arith))
      by_first (Some a) e h =
          let there = some-there a (first_above p) e in
          let number : a.0 ≡ (first_above p).0 = ap (λ (x : RecordNumber). x.0) there.0 in
          chosen_cases p (λ x. found ≡ record_there x) (λ z. absurd (omega (arith, there.1))) (λ some. h ∙ e)
