-- The unused bits of words.
--     digits-drop          the bits above some
--     off_tells            they are all off exactly if the number is 0
--     packed_whole         where every bit of the last word is a mark, none is unused
--     packed_last          else those above the last mark in the last word
-- Assumes nothing.
use Prim.Native.Nat.{ℕ, zero, suc, ◌+◌, ◌-◌, ◌*◌, ◌/◌, ◌%◌, ◌^◌, ◌≤◌, ◌<◌}
use mathlib.Core.Path.{◌≡◌, refl, sym, ap, ◌∙◌, subst}
use mathlib.Core.Bool.{Bool, true, false, not, ◌&&◌}
use mathlib.Core.List.{List, [], ◌∷◌, flatten, append-nil}
use mathlib.Core.Logic.Iff
use native.Mathlib.Omega.{arith}
use native.Mathlib.Nat.{pow-suc, div-one, div-add-mod', mod-lt, zero-lt-suc, not-suc-le-zero, le_of_suc-le-suc}
use lib.Dec.{eqb}
use lib.Pow.{shr-shr, shr_lt}
use lib.ListN.{length, get_or, drop, drop_of_length-le}
use lib.Seq.{drop-drop, drop-cons}
use Rattle.rules.specs.Sound.{Each}
use Rattle.laws.proofs.Lists.{Each-at}
use Rattle.tables.specs.Bits.{digits, bits_by, bits_of, word_count}
use Rattle.tables.proofs.Words.{bits-drop}
use Rattle.clauses.specs.IsSound.{every, is_packed}
use Rattle.clauses.proofs.Tests.{Tells, equal_tells, less_tells, ◌and◌, every_tells, same_told}

pub digits-drop : (k x r : ℕ) → r ≤ k → drop r (digits k x) ≡ digits (k - r) (x / 2 ^ r)
unfolding digits
digits-drop k x zero h = λ j. digits ((let e : k ≡ k - 0 = omega arith in e) j) (sym (div-one x) j)
digits-drop zero x (suc r) h = absurd (not-suc-le-zero h)
digits-drop (suc k) x (suc r) h =
    digits-drop k (x / 2) r (le_of_suc-le-suc h)
    ∙ (λ j.
    digits ((let e : k - r ≡ suc k - suc r = omega arith in e) j)
    ((shr-shr x 1 r ∙ ap (λ (n : ℕ). x / 2 ^ n) (let e : 1 + r ≡ suc r = omega arith in e)) j))

even_tells : (r : ℕ) → r < 2 → Tells (not (eqb r 1)) (r ≡ 0)
even_tells zero h = (λ e. refl, λ e. refl)
even_tells (suc zero) h = (λ e. absurd (omega (arith, ap number e)), λ e. absurd (omega arith))
  where
    number : Bool → ℕ
    number true = 1
    number false = 0
even_tells (suc (suc r)) h = absurd (omega arith)

pub off_tells : (k x : ℕ) → x < 2 ^ k → Tells (every not (digits k x)) (x ≡ 0)
unfolding every digits
off_tells zero x h = (λ e. omega arith, λ e. refl)
off_tells (suc k) x h =
    Iff.trans (even_tells (x % 2) (mod-lt x (zero-lt-suc 1)) and off_tells k (x / 2) (omega (arith, pow-suc 2 k)))
    (λ (even, half). omega arith, λ e. (omega arith, omega arith))

one_word : (x : ℕ) → bits_of (x ∷ []) ≡ digits 64 x
unfolding bits_by flatten
one_word x = append-nil (digits 64 x)

nothing : every not (bits_of []) ≡ true
unfolding every bits_by flatten
nothing = refl

module _ (n : ℕ) (words : List ℕ) (exact : length words ≡ word_count n) (low : Each (λ x. x < 2 ^ 64) words) where
  -- the bits behind the marks
  behind : drop n (bits_of words) ≡ drop (n % 64) (bits_of (drop (n / 64) words))
  behind =
      ap (λ (m : ℕ). drop m (bits_of words)) (sym (div-add-mod' n 64))
      ∙ sym (drop-drop (n % 64) (n / 64 * 64) (bits_of words))
      ∙ ap (drop (n % 64)) (bits-drop 64 words (n / 64))

  packed_by : (b : Bool) → every not (drop (n % 64) (bits_of (drop (n / 64) words))) ≡ b → is_packed n words ≡ b
  unfolding is_packed
  packed_by b e = (λ j. (every_tells (λ x. less_tells x (2 ^ 64)) words).1 low j && (ap (every not) behind ∙ e) j)

  pub packed_whole : n % 64 ≡ 0 → is_packed n words ≡ true
  packed_whole whole =
      packed_by true
      ((λ j. every not (drop (whole j) (bits_of (drop_of_length-le words (let few : length words ≤ n / 64 = omega arith in few) j)))) ∙ nothing)

  pub packed_last : 1 ≤ n % 64 → is_packed n words ≡ eqb (get_or words (n / 64) 0 / 2 ^ (n % 64)) 0
  packed_last some =
      let q : ℕ = n / 64 in
      let r : ℕ = n % 64 in
      let x : ℕ = get_or words q 0 in
      let inside : q < length words = omega arith in
      let whole : 64 - r + r ≡ 64 = omega (arith, mod-lt n (zero-lt-suc 63)) in
      let high : x / 2 ^ r < 2 ^ (64 - r) = shr_lt (64 - r) r (subst (λ (m : ℕ). x < 2 ^ m) (sym whole) (Each-at (λ y. y < 2 ^ 64) words q 0 inside low)) in
      packed_by (eqb (x / 2 ^ r) 0)
      (ap (λ (ws : List ℕ). every not (drop r (bits_of ws))) (drop-cons words q 0 inside ∙ ap (λ (ws : List ℕ). x ∷ ws) (drop_of_length-le words (let few : length words ≤ suc q = omega arith in few)))
      ∙ ap (λ (bs : List Bool). every not (drop r bs)) (one_word x)
      ∙ ap (every not) (digits-drop 64 x r (omega (arith, mod-lt n (zero-lt-suc 63))))
      ∙ same_told (off_tells (64 - r) (x / 2 ^ r) high) (equal_tells (x / 2 ^ r) 0))
