-- The four tallies together count the links for each record.
--     tallied_is     a record's number in all four is its tally
-- Assumes nothing.
use Prim.Native.Nat.{ℕ, zero, suc, ◌+◌, ◌*◌, ◌%◌, ◌<◌}
use mathlib.Core.Path.{◌≡◌, refl, sym, ap, ◌∙◌}
use mathlib.Core.Logic.{⊎_elim}
use mathlib.Core.Bool.{cond}
use mathlib.Core.List.{List}
use native.Mathlib.Omega.{arith}
use native.Mathlib.Nat.{mod-lt, mod-eq_of_lt}
use borrow.Author.Tests.{eq-eqb, ne_eqb}
use lib.Dec.{eqb}
use lib.ListN.{length, get_or, replicate, length-set, length-replicate, get_or-replicate}
use Rattle.rules.specs.View.{bit}
use Rattle.rules.specs.Sound.{tally}
use Rattle.tables.specs.Lie.{record_number}
use Rattle.laws.proofs.Tests.{eqb_cases}
use Rattle.clauses.specs.Tallied.{tally_place, tallied, tally_of}
use Rattle.clauses.proofs.Entered.{raised}

-- the place of a value in tally q is that of a record in tally j only where both are the same
hit_in : (v a : ℕ) → v < 2048 → a < 2048 → (q j : ℕ) → bit (eqb (q * 2080 + v) (j * 2080 + a)) ≡ cond (eqb q j) (bit (eqb v a)) 0
hit_in v a hv ha q j =
    ⊎_elim
    (λ same. rw same.1 (hit_shifted same.0))
    (λ other. rw other.1 (ap bit (ne_eqb (q * 2080 + v) (j * 2080 + a) (λ e. other.0 (omega arith)))))
    (eqb_cases q j)
  where
    hit_shifted : q ≡ j → bit (eqb (q * 2080 + v) (j * 2080 + a)) ≡ bit (eqb v a)
    hit_shifted e =
        ⊎_elim
        (λ same. ap bit (eq-eqb (q * 2080 + v) (j * 2080 + a) (omega (arith, same.0))) ∙ sym (ap bit same.1))
        (λ other. ap bit (ne_eqb (q * 2080 + v) (j * 2080 + a) (λ k. other.0 (omega arith))) ∙ sym (ap bit other.1))
        (eqb_cases v a)

-- a value in one of the tallies is a hit there alone
hit_once : (v a : ℕ) → v < 2048 → a < 2048 → (q : ℕ) → q < 4
    → bit (eqb (q * 2080 + v) a) + bit (eqb (q * 2080 + v) (2080 + a)) + bit (eqb (q * 2080 + v) (4160 + a)) + bit (eqb (q * 2080 + v) (6240 + a)) ≡ bit (eqb v a)
hit_once v a hv ha q hq =
    (λ j. (first ∙ hit_in v a hv ha q 0) j + hit_in v a hv ha q 1 j + hit_in v a hv ha q 2 j + hit_in v a hv ha q 3 j) ∙ by_tally q hq
  where
    first : bit (eqb (q * 2080 + v) a) ≡ bit (eqb (q * 2080 + v) (0 * 2080 + a))
    first = ap (λ (i : ℕ). bit (eqb (q * 2080 + v) i)) (let e : a ≡ 0 * 2080 + a = omega arith in e)

    -- what tally j adds
    part : ℕ → ℕ → ℕ
    part q j = cond (eqb q j) (bit (eqb v a)) 0

    by_tally : (q : ℕ) → q < 4 → part q 0 + part q 1 + part q 2 + part q 3 ≡ bit (eqb v a)
    by_tally zero h = omega arith
    by_tally (suc zero) h = omega arith
    by_tally (suc (suc zero)) h = omega arith
    by_tally (suc (suc (suc zero))) h = omega arith
    by_tally (suc (suc (suc (suc q)))) h = absurd (omega arith)

length-tallied : (values : List ℕ) (m : ℕ) (start : List ℕ) → length (tallied values m start) ≡ length start
unfolding tallied
length-tallied values zero start = refl
length-tallied values (suc m) start = length-set (tallied values m start) _ _ ∙ length-tallied values m start

module _ (values : List ℕ) (a : ℕ) (k : a < 2048) where
  tallied-more : (start : List ℕ) → length start ≡ 8320 → (m : ℕ) → ((l : ℕ) → l < m → get_or values l 0 < 2048)
      → tally_of (tallied values m start) a ≡ tally_of start a + tally (λ l. record_number (get_or values l.0 0)) m (record_number a)
  unfolding tallied tally
  tallied-more start room zero low = omega arith
  tallied-more start room (suc m) low =
      let v : ℕ = get_or values m 0 in
      let before : List ℕ = tallied values m start in
      let place : ℕ = tally_place m v in
      let inside : place < length before = omega (arith, length-tallied values m start) in
      omega (
        arith,
        tallied-more start room m (λ l h. low l (omega arith)),
        raised before place 1 a inside,
        raised before place 1 (2080 + a) inside,
        raised before place 1 (4160 + a) inside,
        raised before place 1 (6240 + a) inside,
        hit_once (v % 2048) a (mod-lt v (omega arith)) k (m % 4) (mod-lt m (omega arith)),
        ap (λ (n : ℕ). bit (eqb n a)) (mod-eq_of_lt (low m (omega arith))),
      )

  pub tallied_is : (m : ℕ) → ((l : ℕ) → l < m → get_or values l 0 < 2048)
      → tally_of (tallied values m (replicate 8320 0)) a ≡ tally (λ l. record_number (get_or values l.0 0)) m (record_number a)
  tallied_is m low =
      omega (
        arith,
        tallied-more (replicate 8320 0) (length-replicate {A = ℕ} 8320 0) m low,
        get_or-replicate {A = ℕ} 8320 a 0 0 (omega arith),
        get_or-replicate {A = ℕ} 8320 (2080 + a) 0 0 (omega arith),
        get_or-replicate {A = ℕ} 8320 (4160 + a) 0 0 (omega arith),
        get_or-replicate {A = ℕ} 8320 (6240 + a) 0 0 (omega arith),
      )
