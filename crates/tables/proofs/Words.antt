-- Words of one width, and their bits one after another.
--     length-bits                 how many bits words have
--     bit_at, bits-set            one bit, in its word; bit_here: of words of 64
--     bits-drop                   the bits behind some words
--     words_back, bits_back       the words of bits and the bits of words undo each other
--     length_words, words_low     words that are made of bits: how many, and each below 2 ^ k
--     same_words                  only which bits are on makes the words
--     off_behind, bits_padded     bits that end before the last word does: the others are off
--     words_off                   the words of bits that are all off
-- Assumes nothing.
use Prim.Native.Nat.{ℕ, zero, suc, ◌+◌, ◌-◌, ◌*◌, ◌/◌, ◌%◌, ◌^◌, ◌≤◌, ◌<◌}
use mathlib.Core.Path.{◌≡◌, refl, sym, ap, ◌∙◌}
use mathlib.Core.Bool.{Bool, false}
use mathlib.Core.List.{List, [], ◌∷◌, ◌++◌, map, flatten}
use native.Mathlib.Omega.{arith}
use native.Mathlib.Nat.{suc-mul, zero-mul, mod-lt, zero-lt-suc, div-add-mod'}
use lib.ListN.{length, get_or, take, drop, set, replicate, length-append, length-map, length-drop, length-replicate, take-append-drop}
use lib.Seq.{length-take-le, get_or-take, get_or-drop, drop_at, drop-append-add, drop-nil}
use Rattle.rules.specs.Sound.{Each}
use Rattle.laws.proofs.Lists.{map-set, map_at}
use Rattle.tables.specs.Bits.{digits, number, bits_by, words_by, mark_at}
use Rattle.tables.proofs.Blocks.{Sized, length_joined, joined_at, joined_set}
use Rattle.tables.proofs.Digits.{length_digits, number_digits, digits_number, number-low, same_number}

-- bits that are off, behind others
pub off_behind : (bs : List Bool) (m i : ℕ) → get_or (bs ++ replicate m false) i false ≡ get_or bs i false
off_behind [] zero i = refl
off_behind [] (suc m) zero = refl
off_behind [] (suc m) (suc i) = off_behind [] m i
off_behind (b ∷ bs) m zero = refl
off_behind (b ∷ bs) m (suc i) = off_behind bs m i

module _ (k : ℕ) where
  -- ---- the bits of words

  digits-sized : (words : List ℕ) → Sized k (map (digits k) words)
  digits-sized [] = tt
  digits-sized (x ∷ words) = (length_digits k x, digits-sized words)

  pub length-bits : (words : List ℕ) → length (bits_by k words) ≡ length words * k
  unfolding bits_by
  length-bits words = length_joined k (map (digits k) words) (digits-sized words) ∙ ap (λ (n : ℕ). n * k) (length-map words (digits k))

  pub bit_at : (words : List ℕ) (q r : ℕ) → q < length words → r < k → get_or (bits_by k words) (q * k + r) false ≡ get_or (digits k (get_or words q 0)) r false
  unfolding bits_by
  bit_at words q r h l =
      joined_at k (map (digits k) words) q r false (digits-sized words) (omega (arith, length-map words (digits k))) l
      ∙ ap (λ (bs : List Bool). get_or bs r false) (map_at (digits k) words q 0 [] h)

  -- a word is another, in one bit
  pub bits-set : (words : List ℕ) (q r x : ℕ) (b : Bool) → q < length words → r < k → digits k x ≡ set (digits k (get_or words q 0)) r b
      → bits_by k (set words q x) ≡ set (bits_by k words) (q * k + r) b
  unfolding bits_by
  bits-set words q r x b h l e =
      ap flatten
      (map-set (digits k) words q x ∙ ap (set (map (digits k) words) q) (e ∙ ap (λ (bs : List Bool). set bs r b) (sym (map_at (digits k) words q 0 [] h))))
      ∙ joined_set k (map (digits k) words) q r b (digits-sized words) (omega (arith, length-map words (digits k))) l

  pub bits-drop : (words : List ℕ) (q : ℕ) → drop (q * k) (bits_by k words) ≡ bits_by k (drop q words)
  unfolding bits_by flatten
  bits-drop words zero = ap (λ (n : ℕ). drop n (bits_by k words)) (zero-mul k)
  bits-drop [] (suc q) = nothing (suc q * k)
    where
      nothing : (n : ℕ) → ◌≡◌ {A = List Bool} (drop n []) []
      nothing zero = refl
      nothing (suc n) = refl
  bits-drop (x ∷ words) (suc q) =
      ap (λ (n : ℕ). drop n (digits k x ++ bits_by k words)) (let e : suc q * k ≡ length (digits k x) + q * k = omega (arith, suc-mul q k, length_digits k x) in e)
      ∙ drop-append-add (digits k x) (bits_by k words) (q * k)
      ∙ bits-drop words q

  -- ---- there and back

  pub words_back : (words : List ℕ) → Each (λ x. x < 2 ^ k) words → words_by k (length words) (bits_by k words) ≡ words
  unfolding bits_by words_by flatten
  words_back [] low = refl
  words_back (x ∷ words) low =
      λ j.
      number_digits k x (bits_by k words) low.0 j
      ∷ (ap (words_by k (length words)) (drop_at (digits k x) (bits_by k words) k (length_digits k x)) ∙ words_back words low.1) j

  pub bits_back : (n : ℕ) (bs : List Bool) → length bs ≡ n * k → bits_by k (words_by k n bs) ≡ bs
  unfolding bits_by words_by flatten
  bits_back zero [] h = refl
  bits_back zero (b ∷ bs) h = absurd (omega (arith, zero-mul k))
  bits_back (suc n) bs h =
      let first : length (take k bs) ≡ k = length-take-le k bs (omega (arith, suc-mul n k)) in
      (λ j.
      (ap (digits k) (same_number k bs (take k bs) (λ i l. sym (get_or-take k bs i false l))) ∙ digits_number k (take k bs) first) j
      ++ bits_back n (drop k bs) (omega (arith, length-drop k bs, suc-mul n k)) j)
      ∙ take-append-drop k bs

  pub length_words : (n : ℕ) (bs : List Bool) → length (words_by k n bs) ≡ n
  unfolding words_by
  length_words zero bs = refl
  length_words (suc n) bs = ap suc (length_words n (drop k bs))

  pub words_low : (n : ℕ) (bs : List Bool) → Each (λ x. x < 2 ^ k) (words_by k n bs)
  unfolding words_by
  words_low zero bs = tt
  words_low (suc n) bs = (number-low k bs, words_low n (drop k bs))

  pub same_words : (n : ℕ) (bs cs : List Bool) → ((i : ℕ) → get_or bs i false ≡ get_or cs i false) → words_by k n bs ≡ words_by k n cs
  unfolding words_by
  same_words zero bs cs same = refl
  same_words (suc n) bs cs same =
      λ j.
      same_number k bs cs (λ i l. same i) j
      ∷ same_words n (drop k bs) (drop k cs) (λ i. get_or-drop k bs i false ∙ same (k + i) ∙ sym (get_or-drop k cs i false)) j

  pub bits_padded : (n : ℕ) (bs : List Bool) → length bs ≤ n * k → bits_by k (words_by k n bs) ≡ bs ++ replicate (n * k - length bs) false
  bits_padded n bs h =
      let m : ℕ = n * k - length bs in
      ap (bits_by k) (same_words n bs (bs ++ replicate m false) (λ i. sym (off_behind bs m i)))
      ∙ bits_back n (bs ++ replicate m false) (omega (arith, length-append bs (replicate m false), length-replicate m false))

  number_off : (m : ℕ) → number m [] ≡ 0
  unfolding number
  number_off zero = refl
  number_off (suc m) = omega (arith, number_off m)

  nothing_on : (n : ℕ) → words_by k n [] ≡ replicate n 0
  unfolding words_by
  nothing_on zero = refl
  nothing_on (suc n) = λ j. number_off k j ∷ (ap (words_by k n) (drop-nil k) ∙ nothing_on n) j

  pub words_off : (n m : ℕ) → words_by k n (replicate m false) ≡ replicate n 0
  words_off n m = same_words n (replicate m false) [] (off_behind [] m) ∙ nothing_on n

-- ---- of words of 64 bits

pub bit_here : (words : List ℕ) (place : ℕ) → place < length words * 64 → get_or (digits 64 (get_or words (place / 64) 0)) (place % 64) false ≡ mark_at words place
bit_here words place h =
    sym (bit_at 64 words (place / 64) (place % 64) (omega arith) (mod-lt place (zero-lt-suc 63))) ∙ ap (mark_at words) (div-add-mod' place 64)
