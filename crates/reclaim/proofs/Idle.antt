-- Words in which no used, unheld candidate is left.
--     and_bit, not-bit, shifted_off     a bit of two words, of a complement, of a word of which nothing is left
--     word_idle                         the records of such a word
--     idle_waits                        none of them waits
-- Assumes nothing.
use Prim.Native.Nat.{ℕ, zero, suc, ◌+◌, ◌-◌, ◌*◌, ◌/◌, ◌%◌, ◌^◌, ◌≤◌, ◌<◌, min}
use mathlib.Core.Path.{◌≡◌, refl, sym, ap, ◌∙◌}
use mathlib.Core.Bool.{Bool, true, false, not, ◌&&◌, true≢false}
use mathlib.Core.List.{List}
use native.Mathlib.Omega.{arith}
use native.Mathlib.Nat.{pow-suc, mod-lt, zero-lt-suc, not-suc-le-zero, le_of_suc-le-suc}
use lib.Dec.{eqb}
use lib.Bits.{bit_and, and_step}
use lib.Pow.{shr-shr, shr_le}
use lib.ListN.{length, get_or}
use Rattle.tables.specs.Bits.{digits, mark_at}
use Rattle.tables.proofs.Digits.{odd, shifted_bit}
use Rattle.tables.proofs.Words.{bit_at}
use Rattle.reclaim.specs.Raw.{waits, may_wait}

-- ---- one bit

lowest-both : (x y : ℕ) → x < 2 → y < 2 → eqb (min x y) 1 ≡ (eqb x 1 && eqb y 1)
lowest-both zero zero h k = refl
lowest-both zero (suc zero) h k = refl
lowest-both zero (suc (suc y)) h k = absurd (omega arith)
lowest-both (suc zero) zero h k = refl
lowest-both (suc zero) (suc zero) h k = refl
lowest-both (suc zero) (suc (suc y)) h k = absurd (omega arith)
lowest-both (suc (suc x)) y h k = absurd (omega arith)

lowest-not : (x : ℕ) → x < 2 → eqb (1 - x) 1 ≡ not (eqb x 1)
lowest-not zero h = refl
lowest-not (suc zero) h = refl
lowest-not (suc (suc x)) h = absurd (omega arith)

and_bit : (k x y r : ℕ) → r < k → get_or (digits k (bit_and x y)) r false ≡ (get_or (digits k x) r false && get_or (digits k y) r false)
unfolding digits
and_bit zero x y r h = absurd (not-suc-le-zero h)
and_bit (suc k) x y zero h =
    let low : min (x % 2) (y % 2) < 2 = omega (arith, mod-lt x (zero-lt-suc 1), mod-lt y (zero-lt-suc 1)) in
    ap (λ (b : ℕ). eqb b 1) (let e : bit_and x y % 2 ≡ min (x % 2) (y % 2) = omega (arith, and_step x y) in e)
    ∙ lowest-both (x % 2) (y % 2) (mod-lt x (zero-lt-suc 1)) (mod-lt y (zero-lt-suc 1))
and_bit (suc k) x y (suc r) h =
    let low : min (x % 2) (y % 2) < 2 = omega (arith, mod-lt x (zero-lt-suc 1), mod-lt y (zero-lt-suc 1)) in
    ap (λ (z : ℕ). get_or (digits k z) r false) (let e : bit_and x y / 2 ≡ bit_and (x / 2) (y / 2) = omega (arith, and_step x y) in e)
    ∙ and_bit k (x / 2) (y / 2) r (le_of_suc-le-suc h)

not-bit : (k x r : ℕ) → x < 2 ^ k → r < k → get_or (digits k ((2 ^ k - 1) - x)) r false ≡ not (get_or (digits k x) r false)
unfolding digits
not-bit zero x r low h = absurd (not-suc-le-zero h)
not-bit (suc k) x zero low h =
    ap (λ (b : ℕ). eqb b 1) (let e : ((2 ^ suc k - 1) - x) % 2 ≡ 1 - x % 2 = omega (arith, pow-suc 2 k) in e) ∙ lowest-not (x % 2) (mod-lt x (zero-lt-suc 1))
not-bit (suc k) x (suc r) low h =
    ap (λ (z : ℕ). get_or (digits k z) r false) (let e : ((2 ^ suc k - 1) - x) / 2 ≡ (2 ^ k - 1) - x / 2 = omega (arith, pow-suc 2 k) in e)
    ∙ not-bit k (x / 2) r (omega (arith, pow-suc 2 k)) (le_of_suc-le-suc h)

zero_shifted : (n : ℕ) → 0 / 2 ^ n ≡ 0
zero_shifted n = let low = shr_le 0 n in omega arith

-- nothing is left above some bits
shifted_off : (k x rest r : ℕ) → x / 2 ^ rest ≡ 0 → rest ≤ r → r < k → get_or (digits k x) r false ≡ false
shifted_off k x rest r e h l =
    shifted_bit k x r l
    ∙ ap odd
    (ap (λ (n : ℕ). x / 2 ^ n) (let s : r ≡ rest + (r - rest) = omega arith in s)
    ∙ sym (shr-shr x rest (r - rest))
    ∙ ap (λ (y : ℕ). y / 2 ^ (r - rest)) e
    ∙ zero_shifted (r - rest))

-- ---- the records of a word

module _ (used held candidates : List ℕ) (q : ℕ) (in-used : q < length used) (in_held : q < length held) (in-candidates : q < length candidates) (low : get_or held q 0 < 2 ^ 64) where
  pub word_idle : (rest r : ℕ) → bit_and (bit_and (get_or used q 0) (get_or candidates q 0)) ((2 ^ 64 - 1) - get_or held q 0) / 2 ^ rest ≡ 0 → rest ≤ r → r < 64
      → may_wait used held candidates (q * 64 + r) ≡ false
  unfolding may_wait
  word_idle rest r e h l =
      let u : ℕ = get_or used q 0 in
      let c : ℕ = get_or candidates q 0 in
      let x : ℕ = get_or held q 0 in
      (λ j. bit_at 64 used q r in-used l j && bit_at 64 candidates q r in-candidates l j && not (bit_at 64 held q r in_held l j))
      ∙ (λ j. sym (and_bit 64 u c r l) j && sym (not-bit 64 x r low l) j)
      ∙ sym (and_bit 64 (bit_and u c) ((2 ^ 64 - 1) - x) r l)
      ∙ shifted_off 64 (bit_and (bit_and u c) ((2 ^ 64 - 1) - x)) rest r e h l

pub idle_waits : (used counts held candidates : List ℕ) (place : ℕ) → may_wait used held candidates place ≡ false → waits used counts held candidates place ≡ false
unfolding may_wait waits
idle_waits used counts held candidates place idle = by_marks (mark_at used place) (mark_at candidates place) (not (mark_at held place)) (eqb (get_or counts place 0) 0) idle
  where
    by_marks : (u c h n : Bool) → (u && c && h) ≡ false → (u && c && n && h) ≡ false
    by_marks true true true n e = absurd (true≢false e)
    by_marks true true false true e = refl
    by_marks true true false false e = refl
    by_marks true false h n e = refl
    by_marks false c h n e = refl
