-- Marks one after another, in the lowest bits of a word.
--     bit_right                       a bit of a number that is shifted down
--     block-low, block-high, bit_mod  a bit of a number of two parts, and of its lower part
--     joined_parts                    two words, the first shifted down and the second up
--     marks_one, marks_two            the marks of places that stand in one word, and in two
-- Assumes nothing.
use Prim.Native.Nat.{ℕ, zero, suc, ◌+◌, ◌-◌, ◌*◌, ◌/◌, ◌%◌, ◌^◌, ◌≤◌, ◌<◌}
use mathlib.Core.Path.{◌≡◌, sym, ap, ◌∙◌, subst}
use mathlib.Core.Bool.{false}
use mathlib.Core.List.{List}
use mathlib.Core.Logic.{⊎_elim}
use native.Mathlib.Omega.{arith}
use native.Mathlib.Nat.{add-zero, not-suc-le-zero, le_of_suc-le-suc}
use lib.Dec.{eqb}
use lib.Bits.{bit_or, block_half, block_odd, or_shifted_r}
use lib.Pow.{pow_pos, shr_lt, shr-shr, shl-shr, split, high, low, mod-pow-add}
use lib.ListN.{length, get_or}
use Rattle.laws.proofs.Tests.{below_or_not}
use Rattle.tables.specs.Bits.{digits, mark_at}
use Rattle.tables.proofs.Digits.{odd, shifted_bit}
use Rattle.tables.proofs.Words.{bit_at}

-- ---- a bit of a number

pub bit_right : (k x r i : ℕ) → r + i < k → get_or (digits k (x / 2 ^ r)) i false ≡ get_or (digits k x) (r + i) false
bit_right k x r i h = shifted_bit k (x / 2 ^ r) i (omega arith) ∙ ap odd (shr-shr x r i) ∙ sym (shifted_bit k x (r + i) h)

block-low : (k m hi lo i : ℕ) → i < m → i < k → get_or (digits k (hi * 2 ^ m + lo)) i false ≡ get_or (digits k lo) i false
unfolding digits
block-low zero m hi lo i h l = absurd (not-suc-le-zero l)
block-low (suc k) zero hi lo i h l = absurd (not-suc-le-zero h)
block-low (suc k) (suc m) hi lo zero h l = ap (λ (r : ℕ). eqb r 1) (block_odd hi m lo)
block-low (suc k) (suc m) hi lo (suc i) h l =
    ap (λ (x : ℕ). get_or (digits k x) i false) (block_half hi m lo) ∙ block-low k m hi (lo / 2) i (le_of_suc-le-suc h) (le_of_suc-le-suc l)

block-high : (k m hi lo i : ℕ) → lo < 2 ^ m → m + i < k → get_or (digits k (hi * 2 ^ m + lo)) (m + i) false ≡ get_or (digits k hi) i false
block-high k m hi lo i small h =
    shifted_bit k (hi * 2 ^ m + lo) (m + i) h
    ∙ ap odd (sym (shr-shr (hi * 2 ^ m + lo) m i) ∙ ap (λ (x : ℕ). x / 2 ^ i) (high hi m small))
    ∙ sym (shifted_bit k hi i (omega arith))

bit_mod : (k y r i : ℕ) → i < r → i < k → get_or (digits k (y % 2 ^ r)) i false ≡ get_or (digits k y) i false
bit_mod k y r i h l = sym (block-low k r (y / 2 ^ r) (y % 2 ^ r) i h l) ∙ ap (λ (x : ℕ). get_or (digits k x) i false) (split y r)

-- ---- two words

-- shifted up, what is above the word is gone
shifted_up : (y r m : ℕ) → y * 2 ^ m % 2 ^ (r + m) ≡ y % 2 ^ r * 2 ^ m
shifted_up y r m =
    mod-pow-add (y * 2 ^ m) r m
    ∙ (λ j. shl-shr y m j % 2 ^ r * 2 ^ m + (ap (λ (x : ℕ). x % 2 ^ m) (sym (add-zero (y * 2 ^ m))) ∙ low y m (pow_pos m)) j)
    ∙ add-zero (y % 2 ^ r * 2 ^ m)

joined_parts : (x y r m : ℕ) → x < 2 ^ (m + r) → bit_or (x / 2 ^ r) (y * 2 ^ m % 2 ^ (r + m)) ≡ y % 2 ^ r * 2 ^ m + x / 2 ^ r
joined_parts x y r m small = ap (bit_or (x / 2 ^ r)) (shifted_up y r m) ∙ or_shifted_r (y % 2 ^ r) m (x / 2 ^ r) (shr_lt m r small)

-- ---- the marks

module _ (words : List ℕ) (q r : ℕ) where
  pub marks_one : q < length words → (i : ℕ) → r + i < 64 → get_or (digits 64 (get_or words q 0 / 2 ^ r)) i false ≡ mark_at words (q * 64 + r + i)
  marks_one inside i h =
      bit_right 64 (get_or words q 0) r i h
      ∙ sym (bit_at 64 words q (r + i) inside h)
      ∙ ap (mark_at words) (let e : q * 64 + (r + i) ≡ q * 64 + r + i = omega arith in e)

  pub marks_two : r < 64 → q + 1 < length words → get_or words q 0 < 2 ^ 64 → (i : ℕ) → i < 64
      → get_or (digits 64 (bit_or (get_or words q 0 / 2 ^ r) (get_or words (q + 1) 0 * 2 ^ (64 - r) % 2 ^ 64))) i false ≡ mark_at words (q * 64 + r + i)
  marks_two above inside small i h =
      let m : ℕ = 64 - r in
      let x : ℕ = get_or words q 0 in
      let y : ℕ = get_or words (q + 1) 0 in
      let up : r + m ≡ 64 = omega arith in
      let down : m + r ≡ 64 = omega arith in
      let fits : x < 2 ^ (m + r) = subst (λ (n : ℕ). x < 2 ^ n) (sym down) small in
      ap (λ (z : ℕ). get_or (digits 64 z) i false) (ap (λ (n : ℕ). bit_or (x / 2 ^ r) (y * 2 ^ m % 2 ^ n)) (sym up) ∙ joined_parts x y r m fits)
      ∙ ⊎_elim
      (λ (here : i < m). block-low 64 m (y % 2 ^ r) (x / 2 ^ r) i here h ∙ marks_one (omega arith) i (omega arith))
      (λ (next : m ≤ i).
      let j : ℕ = i - m in
      ap (λ (n : ℕ). get_or (digits 64 (y % 2 ^ r * 2 ^ m + x / 2 ^ r)) n false) (let e : i ≡ m + j = omega arith in e)
      ∙ block-high 64 m (y % 2 ^ r) (x / 2 ^ r) j (shr_lt m r fits) (omega arith)
      ∙ bit_mod 64 y r j (omega arith) (omega arith)
      ∙ sym (bit_at 64 words (q + 1) j inside (omega arith))
      ∙ ap (mark_at words) (let e : (q + 1) * 64 + j ≡ q * 64 + r + i = omega arith in e))
      (below_or_not i m)
