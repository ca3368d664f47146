-- The lowest bits of a number, as a list.
--     odd_bit                         a bit, and the number below 2 that it is
--     length_digits                   there are as many as were asked for
--     digits_number, number_digits    the number of bits and the bits of a number undo each other
--     number-low                      a number of k bits is below 2 ^ k
--     same_number                     only the first k bits make the number
--     mask_is                         one bit, as the machine shifts it
--     or_set, and_set                 one bit on, one bit off
--     shifted_bit                     one bit asked
-- Assumes nothing.
use Prim.Native.Nat.{ℕ, zero, suc, ◌+◌, ◌-◌, ◌*◌, ◌/◌, ◌%◌, ◌^◌, ◌≤◌, ◌<◌}
use mathlib.Core.Path.{◌≡◌, refl, sym, ap, ◌∙◌}
use mathlib.Core.Bool.{Bool, true, false}
use mathlib.Core.List.{List, [], ◌∷◌, ◌++◌}
use native.Mathlib.Omega.{arith}
use native.Mathlib.Nat.{pow-suc, div-one, mod-lt, not-suc-le-zero, le_of_suc-le-suc, zero-lt-suc, mod-eq_of_lt, one-mul}
use lib.Dec.{eqb, lit<}
use lib.Bits.{bit_and, bit_or, or_step, and_step, or_zero_r, and_mask}
use lib.Pow.{pow_pos, pow-lt, shr-shr, shl_exact}
use lib.ListN.{length, get_or, drop, set}
use lib.Seq.{get_or-drop}
use Rattle.rules.specs.View.{bit}
use Rattle.tables.specs.Bits.{digits, number}

-- ---- one bit

abbrev pub odd : ℕ → Bool
odd x = eqb (x % 2) 1

below_two : (r : ℕ) → r < 2 → bit (eqb r 1) ≡ r
below_two zero h = refl
below_two (suc zero) h = refl
below_two (suc (suc r)) h = absurd (omega arith)

pub odd_bit : (x : ℕ) → bit (odd x) ≡ x % 2
odd_bit x = below_two (x % 2) (mod-lt x (zero-lt-suc 1))

-- a number of a lowest bit and the rest
pub odd_of : (b : Bool) (m : ℕ) → odd (bit b + m * 2) ≡ b
odd_of true m = ap (λ (r : ℕ). eqb r 1) (let e : (1 + m * 2) % 2 ≡ 1 = omega arith in e)
odd_of false m = ap (λ (r : ℕ). eqb r 1) (let e : (0 + m * 2) % 2 ≡ 0 = omega arith in e)

pub half_of : (b : Bool) (m : ℕ) → (bit b + m * 2) / 2 ≡ m
half_of true m = omega arith
half_of false m = omega arith

-- ---- there and back

pub length_digits : (k x : ℕ) → length (digits k x) ≡ k
unfolding digits
length_digits zero x = refl
length_digits (suc k) x = ap suc (length_digits k (x / 2))

pub number_digits : (k x : ℕ) (rest : List Bool) → x < 2 ^ k → number k (digits k x ++ rest) ≡ x
unfolding digits number
number_digits zero x rest h = omega arith
number_digits (suc k) x rest h =
    omega (arith, number_digits k (x / 2) rest (omega (arith, pow-suc 2 k)), odd_bit x)

pub digits_number : (k : ℕ) (bs : List Bool) → length bs ≡ k → digits k (number k bs) ≡ bs
unfolding digits number
digits_number zero [] h = refl
digits_number zero (b ∷ bs) h = absurd (omega arith)
digits_number (suc k) [] h = absurd (omega arith)
digits_number (suc k) (b ∷ bs) h =
    λ j. odd_of b (number k bs) j ∷ (ap (digits k) (half_of b (number k bs)) ∙ digits_number k bs (omega arith)) j

pub number-low : (k : ℕ) (bs : List Bool) → number k bs < 2 ^ k
unfolding number
number-low zero bs = omega arith
number-low (suc k) bs = omega (arith, number-low k (drop 1 bs), pow-suc 2 k, bit-low (get_or bs 0 false))
  where
    bit-low : (b : Bool) → bit b ≤ 1
    bit-low true = omega arith
    bit-low false = omega arith

pub same_number : (k : ℕ) (bs cs : List Bool) → ((i : ℕ) → i < k → get_or bs i false ≡ get_or cs i false) → number k bs ≡ number k cs
unfolding number
same_number zero bs cs same = refl
same_number (suc k) bs cs same =
    λ j.
    bit (same zero (zero-lt-suc k) j)
    + same_number k (drop 1 bs) (drop 1 cs)
    (λ i h.
    get_or-drop 1 bs i false ∙ same (1 + i) (omega arith) ∙ sym (get_or-drop 1 cs i false)) j
    * 2

-- ---- one bit of a number

-- asked: the number is shifted until the bit is the lowest
pub shifted_bit : (k x i : ℕ) → i < k → get_or (digits k x) i false ≡ odd (x / 2 ^ i)
unfolding digits
shifted_bit zero x i h = absurd (not-suc-le-zero h)
shifted_bit (suc k) x zero h = ap odd (sym (div-one x))
shifted_bit (suc k) x (suc i) h =
    shifted_bit k (x / 2) i (le_of_suc-le-suc h) ∙ ap odd (shr-shr x 1 i ∙ ap (λ (n : ℕ). x / 2 ^ n) (let e : 1 + i ≡ suc i = omega arith in e))

-- one bit, as the machine shifts it
pub mask_is : (k i : ℕ) → i < k → 1 * 2 ^ i % 2 ^ k ≡ 2 ^ i
mask_is k i h = shl_exact {a = 1} 1 i k (lit< tt) (omega arith) ∙ one-mul (2 ^ i)

-- on
pub or_set : (k x i : ℕ) → i < k → digits k (bit_or x (2 ^ i)) ≡ set (digits k x) i true
unfolding digits
or_set zero x i h = absurd (not-suc-le-zero h)
or_set (suc k) x zero h =
    λ j.
    ap (λ (r : ℕ). eqb r 1) (let e : bit_or x 1 % 2 ≡ 1 = omega (arith, or_step x 1) in e) j
    ∷ ap (digits k) (let e : bit_or x 1 / 2 ≡ x / 2 = omega (arith, or_step x 1, or_zero_r (x / 2)) in e) j
or_set (suc k) x (suc i) h =
    let half : 2 ^ suc i / 2 ≡ 2 ^ i = omega (arith, pow-suc 2 i) in
    let even : 2 ^ suc i % 2 ≡ 0 = omega (arith, pow-suc 2 i) in
    let step = or_step x (2 ^ suc i) in
    let same = ap (bit_or (x / 2)) half in
    λ j.
    ap (λ (r : ℕ). eqb r 1) (let e : bit_or x (2 ^ suc i) % 2 ≡ x % 2 = omega (arith, step) in e) j
    ∷ (ap (digits k) (let e : bit_or x (2 ^ suc i) / 2 ≡ bit_or (x / 2) (2 ^ i) = omega (arith, step, same) in e) ∙ or_set k (x / 2) i (le_of_suc-le-suc h)) j

-- off
pub and_set : (k x i : ℕ) → x < 2 ^ k → i < k → digits k (bit_and x ((2 ^ k - 1) - 2 ^ i)) ≡ set (digits k x) i false
unfolding digits
and_set zero x i low h = absurd (not-suc-le-zero h)
and_set (suc k) x zero low h =
    let mask = (2 ^ suc k - 1) - 1 in
    let half : mask / 2 ≡ 2 ^ k - 1 = omega (arith, pow-suc 2 k, pow_pos k) in
    let even : mask % 2 ≡ 0 = omega (arith, pow-suc 2 k, pow_pos k) in
    let step = and_step x mask in
    let same = ap (bit_and (x / 2)) half ∙ and_mask (x / 2) k ∙ mod-eq_of_lt (let l : x / 2 < 2 ^ k = omega (arith, pow-suc 2 k) in l) in
    λ j.
    ap (λ (r : ℕ). eqb r 1) (let e : bit_and x mask % 2 ≡ 0 = omega (arith, step) in e) j
    ∷ ap (digits k) (let e : bit_and x mask / 2 ≡ x / 2 = omega (arith, step, same) in e) j
and_set (suc k) x (suc i) low h =
    let mask = (2 ^ suc k - 1) - 2 ^ suc i in
    let less : 2 ^ i < 2 ^ k = pow-lt (le_of_suc-le-suc h) in
    let half : mask / 2 ≡ (2 ^ k - 1) - 2 ^ i = omega (arith, pow-suc 2 k, pow-suc 2 i) in
    let uneven : mask % 2 ≡ 1 = omega (arith, pow-suc 2 k, pow-suc 2 i) in
    let step = and_step x mask in
    let same = ap (bit_and (x / 2)) half in
    let rest : x % 2 < 2 = mod-lt x (zero-lt-suc 1) in
    λ j.
    ap (λ (r : ℕ). eqb r 1) (let e : bit_and x mask % 2 ≡ x % 2 = omega (arith, step) in e) j
    ∷ (ap (digits k) (let e : bit_and x mask / 2 ≡ bit_and (x / 2) ((2 ^ k - 1) - 2 ^ i) = omega (arith, step, same) in e)
    ∙ and_set k (x / 2) i (omega (arith, pow-suc 2 k)) (le_of_suc-le-suc h)) j
