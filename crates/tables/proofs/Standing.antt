-- The marks where a number stands, by whole words.
--     either_at, both_at            one place of two lists of marks
--     number_next, number_short     a word that gets a bit more, from the lowest on; and one whose other bits are off
--     byte_joined, halves_joined    the same as the machine does it, and a word of two halves
--     Half; half-start, half-next, halves-told     a word of 64 tests, in two halves; word_is: a word is the number of its bits
--     or_word, and_word             one word of two lists of marks, from the words of each
--     with_words, only_words        all words, from one word at a time
--     with_marks, only_marks        of the marks of a kind
-- Assumes nothing.
use Prim.Native.Nat.{ℕ, zero, suc, ◌+◌, ◌-◌, ◌*◌, ◌%◌, ◌^◌, ◌≤◌, ◌<◌, max, min}
use mathlib.Core.Path.{◌≡◌, refl, sym, ap, ◌∙◌, subst}
use mathlib.Core.Bool.{Bool, true, false, ◌&&◌, ◌||◌}
use mathlib.Core.List.{List, [], ◌∷◌, ◌++◌, map, zip_with, append-nil}
use mathlib.Core.Logic.{⊎_elim}
use native.Mathlib.Omega.{arith}
use native.Mathlib.Nat.{pow-suc, mul_assoc, suc-mul, zero-mul, not-suc-le-zero, le_of_suc-le-suc}
use native.Mathlib.Numerals.{add-one}
use mir.Val.{bool_byte}
use lib.Dec.{eqb}
use lib.Bits.{bit_and, bit_or, or_step, and_step, or_shifted_r}
use lib.Pow.{shl_exact}
use lib.ListN.{length, get_or, drop, set, replicate, length-map, length-set, length-append, get_or-append, get_or-eq_default}
use lib.Seq.{get_or-drop, get_or-set_same, get_or-set_other, get_or-append_right, drop-append_seam, drop-drop, ext_get_or}
use Rattle.rules.specs.View.{bit}
use Rattle.rules.specs.Sound.{Each}
use Rattle.laws.proofs.Lists.{Each-places, map_at, zip_with_at, length-zip_with}
use Rattle.laws.proofs.Tests.{below_or_not}
use Rattle.tables.specs.Bits.{digits, number, words_by, bits_of, word_count, marks_in, words_of, mark_at, Packed, stands, either, both, with_standing, only_standing}
use Rattle.tables.proofs.Digits.{half_of, number-low, digits_number, number_digits, same_number}
use Rattle.tables.proofs.Words.{words_back, same_words, length_words}
use Rattle.tables.proofs.Packed.{length-marks_in, same_mark}

-- ---- one place of two lists

or_off : (b : Bool) → b ≡ (b || false)
or_off true = refl
or_off false = refl

and_off : (b : Bool) → false ≡ (b && false)
and_off true = refl
and_off false = refl

or_turned : (a b : Bool) → (a || b) ≡ (b || a)
or_turned true true = refl
or_turned true false = refl
or_turned false true = refl
or_turned false false = refl

either_at : (xs ys : List Bool) (i : ℕ) → get_or (either xs ys) i false ≡ (get_or xs i false || get_or ys i false)
unfolding either
either_at [] ys i = refl
either_at (x ∷ xs) [] zero = or_off x
either_at (x ∷ xs) [] (suc i) = or_off (get_or xs i false)
either_at (x ∷ xs) (y ∷ ys) zero = refl
either_at (x ∷ xs) (y ∷ ys) (suc i) = either_at xs ys i

both_at : (xs ys : List Bool) (i : ℕ) → get_or (both xs ys) i false ≡ (get_or xs i false && get_or ys i false)
unfolding zip_with
both_at [] ys i = refl
both_at (x ∷ xs) [] i = and_off (get_or (x ∷ xs) i false)
both_at (x ∷ xs) (y ∷ ys) zero = refl
both_at (x ∷ xs) (y ∷ ys) (suc i) = both_at xs ys i

-- ---- a word, bit by bit from the lowest on

number_next : (k : ℕ) (bs : List Bool) → number (suc k) bs ≡ bit (get_or bs k false) * 2 ^ k + number k bs
unfolding number
number_next zero bs = omega arith
number_next (suc k) bs =
    ap (λ (n : ℕ). bit (get_or bs 0 false) + n * 2) (number_next k (drop 1 bs))
    ∙ spread (get_or (drop 1 bs) k false) (bit (get_or bs 0 false)) (number k (drop 1 bs))
    ∙ ap (λ (b : Bool). bit b * 2 ^ suc k + (bit (get_or bs 0 false) + number k (drop 1 bs) * 2))
    (get_or-drop 1 bs k false ∙ ap (λ (n : ℕ). get_or bs n false) (let e : 1 + k ≡ suc k = omega arith in e))
  where
    spread : (b : Bool) (x y : ℕ) → x + (bit b * 2 ^ k + y) * 2 ≡ bit b * 2 ^ suc k + (x + y * 2)
    spread true x y = omega (arith, pow-suc 2 k)
    spread false x y = omega arith

pub number_short : (i d : ℕ) (bs : List Bool) → length bs ≤ i → number (i + d) bs ≡ number i bs
number_short i zero bs h = ap (λ (n : ℕ). number n bs) (let e : i + 0 ≡ i = omega arith in e)
number_short i (suc d) bs h =
    ap (λ (n : ℕ). number n bs) (let e : i + suc d ≡ suc (i + d) = omega arith in e)
    ∙ number_next (i + d) bs
    ∙ ap (λ (b : Bool). bit b * 2 ^ (i + d) + number (i + d) bs) (get_or-eq_default bs false (let l : length bs ≤ i + d = omega arith in l))
    ∙ (let e : 0 * 2 ^ (i + d) + number (i + d) bs ≡ number (i + d) bs = omega (arith, zero-mul (2 ^ (i + d))) in e)
    ∙ number_short i d bs h

byte_bit : (b : Bool) → bool_byte b ≡ bit b
byte_bit true = refl
byte_bit false = refl

byte_low : (b : Bool) → bool_byte b < 2
byte_low true = omega arith
byte_low false = omega arith

-- a bit more, as the machine puts it there
pub byte_joined : (k i : ℕ) (bs : List Bool) (b : Bool) → i < k → get_or bs i false ≡ b → bit_or (number i bs) (bool_byte b * 2 ^ i % 2 ^ k) ≡ number (i + 1) bs
byte_joined k i bs b h e =
    ap (bit_or (number i bs)) (shl_exact {a = bool_byte b} 1 i k (byte_low b) (omega arith))
    ∙ or_shifted_r (bool_byte b) i (number i bs) (number-low i bs)
    ∙ ap (λ (n : ℕ). n * 2 ^ i + number i bs) (byte_bit b ∙ ap bit (sym e))
    ∙ sym (number_next i bs)
    ∙ ap (λ (n : ℕ). number n bs) (sym (add-one i))

-- a word of two halves, as the machine puts them together
number_parts : (i j : ℕ) (bs : List Bool) → number (i + j) bs ≡ number j (drop i bs) * 2 ^ i + number i bs
unfolding number
number_parts zero j bs =
    ap (λ (n : ℕ). number n bs) (let e : 0 + j ≡ j = omega arith in e) ∙ (let e : number j bs ≡ number j bs * 2 ^ 0 + 0 = omega arith in e)
number_parts (suc i) j bs =
    let n : ℕ = number j (drop (suc i) bs) in
    let moved : drop i (drop 1 bs) ≡ drop (suc i) bs = drop-drop i 1 bs ∙ ap (λ (m : ℕ). drop m bs) (let e : 1 + i ≡ suc i = omega arith in e) in
    let rest : number (i + j) (drop 1 bs) ≡ n * 2 ^ i + number i (drop 1 bs) =
    number_parts i j (drop 1 bs) ∙ ap (λ (cs : List Bool). number j cs * 2 ^ i + number i (drop 1 bs)) moved in
    let up : n * 2 ^ suc i ≡ n * 2 ^ i * 2 = ap (λ (m : ℕ). n * m) (pow-suc 2 i) ∙ sym (mul_assoc n (2 ^ i) 2) in
    ap (λ (m : ℕ). number m bs) (let e : suc i + j ≡ suc (i + j) = omega arith in e)
    ∙ (let e : number (suc (i + j)) bs ≡ n * 2 ^ suc i + number (suc i) bs = omega (arith, rest, up) in e)

pub halves_joined : (bs : List Bool) → bit_or (number 32 bs) (number 32 (drop 32 bs) * 2 ^ 32 % 2 ^ 64) ≡ number 64 bs
halves_joined bs =
    ap (bit_or (number 32 bs)) (shl_exact {a = number 32 (drop 32 bs)} 32 32 64 (number-low 32 (drop 32 bs)) (omega arith))
    ∙ or_shifted_r (number 32 (drop 32 bs)) 32 (number 32 bs) (number-low 32 bs)
    ∙ sym (number_parts 32 32 bs)

-- ---- a word of tests

-- the lowest bits of one half, each as a relation says of its place
pub record Half (says : ℕ → Bool → Type 0) (i half : ℕ) : Type 0 where
  pub bits : List Bool
  pub size : length bits ≡ 32
  pub worth : half ≡ number i bits
  pub told : (k : ℕ) → k < i → says k (get_or bits k false)

pub half-start : (says : ℕ → Bool → Type 0) → Half says 0 0
unfolding number
half-start says = record { bits = replicate 32 false; size = refl; worth = refl; told = λ k h. absurd (omega arith) }

pub half-next : (says : ℕ → Bool → Type 0) (i half r : ℕ) (b : Bool) → i < 32 → Half says i half → says i b → r ≡ bool_byte b
    → Half says (i + 1) (bit_or half (r * 2 ^ i % 2 ^ 32))
half-next says i half r b h before now e =
    let bits : List Bool = set before.bits i b in
    let other : (k : ℕ) → k < i → get_or bits k false ≡ get_or before.bits k false = λ k l. get_or-set_other before.bits i k b false (λ s. omega arith) in
    let here : get_or bits i false ≡ b = get_or-set_same before.bits i b false (omega (arith, before.size)) in
    record {
      bits = bits;
      size = length-set before.bits i b ∙ before.size;
      worth =
          (λ j. bit_or ((before.worth ∙ sym (same_number i bits before.bits other)) j) (e j * 2 ^ i % 2 ^ 32))
          ∙ byte_joined 32 i bits b h here;
      told = λ k l.
          ⊎_elim
          (λ (s : k < i). subst (says k) (sym (other k s)) (before.told k s))
          (λ (s : i ≤ k). let same : i ≡ k = omega arith in subst (λ (n : ℕ). says n (get_or bits n false)) same (subst (says i) (sym here) now))
          (below_or_not k i);
    }

-- both halves
pub halves-told : (says : ℕ → Bool → Type 0) (low high : ℕ) → Half says 32 low → Half (λ k. says (k + 32)) 32 high
    → (i : ℕ) → i < 64 → says i (get_or (digits 64 (bit_or low (high * 2 ^ 32 % 2 ^ 64))) i false)
halves-told says low high first second i h =
    let bits : List Bool = first.bits ++ second.bits in
    let back : drop 32 bits ≡ second.bits = ap (λ (n : ℕ). drop n bits) (sym first.size) ∙ drop-append_seam first.bits second.bits in
    let same : number 32 first.bits ≡ number 32 bits =
    same_number 32 first.bits bits (λ k l. sym (get_or-append first.bits second.bits false k (omega (arith, first.size)))) in
    let all : bit_or low (high * 2 ^ 32 % 2 ^ 64) ≡ number 64 bits =
    (λ j. bit_or ((first.worth ∙ same) j) ((second.worth ∙ ap (number 32) (sym back)) j * 2 ^ 32 % 2 ^ 64)) ∙ halves_joined bits in
    let each : digits 64 (bit_or low (high * 2 ^ 32 % 2 ^ 64)) ≡ bits =
    ap (digits 64) all ∙ digits_number 64 bits (omega (arith, length-append first.bits second.bits, first.size, second.size)) in
    subst (λ (bs : List Bool). says i (get_or bs i false)) (sym each)
    (⊎_elim
    (λ (l : i < 32). subst (says i) (sym (get_or-append first.bits second.bits false i (omega (arith, first.size)))) (first.told i l))
    (λ (l : 32 ≤ i).
    let there : get_or bits i false ≡ get_or second.bits (i - 32) false =
    get_or-append_right first.bits second.bits i false (omega (arith, first.size)) ∙ ap (λ (n : ℕ). get_or second.bits (i - n) false) first.size in
    subst (says i) (sym there)
    (subst (λ (n : ℕ). says n (get_or second.bits (i - 32) false)) (let e : i - 32 + 32 ≡ i = omega arith in e) (second.told (i - 32) (omega arith))))
    (below_or_not i 32))

-- a word is the number of its bits
pub word_is : (word : ℕ) (bits : List Bool) → word < 2 ^ 64 → ((i : ℕ) → i < 64 → get_or (digits 64 word) i false ≡ get_or bits i false) → word ≡ number 64 bits
word_is word bits low same =
    sym (number_digits 64 word [] low) ∙ ap (number 64) (append-nil (digits 64 word)) ∙ same_number 64 (digits 64 word) bits same

-- ---- one word of two lists

low_bit : (b : Bool) (m : ℕ) → (bit b + m * 2) % 2 ≡ bit b
low_bit true m = omega arith
low_bit false m = omega arith

either-bit : (a b : Bool) → max (bit a) (bit b) ≡ bit (a || b)
either-bit true true = refl
either-bit true false = refl
either-bit false true = refl
either-bit false false = refl

both-bit : (a b : Bool) → min (bit a) (bit b) ≡ bit (a && b)
both-bit true true = refl
both-bit true false = refl
both-bit false true = refl
both-bit false false = refl

or_number : (k : ℕ) (xs ys zs : List Bool) → ((i : ℕ) → get_or zs i false ≡ (get_or xs i false || get_or ys i false)) → bit_or (number k xs) (number k ys) ≡ number k zs
unfolding number
or_number zero xs ys zs same = refl
or_number (suc k) xs ys zs same =
    let x = get_or xs 0 false in
    let y = get_or ys 0 false in
    let m = number k (drop 1 xs) in
    let n = number k (drop 1 ys) in
    or_step (bit x + m * 2) (bit y + n * 2)
    ∙ (λ j. bit_or (half_of x m j) (half_of y n j) * 2 + max (low_bit x m j) (low_bit y n j))
    ∙ (λ j.
    or_number k (drop 1 xs) (drop 1 ys) (drop 1 zs)
    (λ i. get_or-drop 1 zs i false ∙ same (1 + i) ∙ (λ l. sym (get_or-drop 1 xs i false) l || sym (get_or-drop 1 ys i false) l)) j
    * 2
    + (either-bit x y ∙ ap bit (sym (same 0))) j)
    ∙ turned (number k (drop 1 zs)) (bit (get_or zs 0 false))
  where
    turned : (m b : ℕ) → m * 2 + b ≡ b + m * 2
    turned m b = omega arith

and_number : (k : ℕ) (xs ys zs : List Bool) → ((i : ℕ) → get_or zs i false ≡ (get_or xs i false && get_or ys i false)) → bit_and (number k xs) (number k ys) ≡ number k zs
unfolding number
and_number zero xs ys zs same = refl
and_number (suc k) xs ys zs same =
    let x = get_or xs 0 false in
    let y = get_or ys 0 false in
    let m = number k (drop 1 xs) in
    let n = number k (drop 1 ys) in
    and_step (bit x + m * 2) (bit y + n * 2)
    ∙ (λ j. bit_and (half_of x m j) (half_of y n j) * 2 + min (low_bit x m j) (low_bit y n j))
    ∙ (λ j.
    and_number k (drop 1 xs) (drop 1 ys) (drop 1 zs)
    (λ i. get_or-drop 1 zs i false ∙ same (1 + i) ∙ (λ l. sym (get_or-drop 1 xs i false) l && sym (get_or-drop 1 ys i false) l)) j
    * 2
    + (both-bit x y ∙ ap bit (sym (same 0))) j)
    ∙ turned (number k (drop 1 zs)) (bit (get_or zs 0 false))
  where
    turned : (m b : ℕ) → m * 2 + b ≡ b + m * 2
    turned m b = omega arith

-- one of the words of a list of bits
words_at : (k n : ℕ) (bs : List Bool) (q : ℕ) → q < n → get_or (words_by k n bs) q 0 ≡ number k (drop (q * k) bs)
unfolding words_by
words_at k zero bs q h = absurd (not-suc-le-zero h)
words_at k (suc n) bs zero h = ap (λ (m : ℕ). number k (drop m bs)) (sym (zero-mul k))
words_at k (suc n) bs (suc q) h =
    words_at k n (drop k bs) q (le_of_suc-le-suc h)
    ∙ ap (number k) (drop-drop (q * k) k bs ∙ ap (λ (m : ℕ). drop m bs) (let e : k + q * k ≡ suc q * k = omega (arith, suc-mul q k) in e))

map-drop : (f : ℕ → Bool) (n : ℕ) (xs : List ℕ) → map f (drop n xs) ≡ drop n (map f xs)
map-drop f zero xs = refl
map-drop f (suc n) [] = refl
map-drop f (suc n) (x ∷ xs) = map-drop f n xs

module _ (x : ℕ) (numbers words : List ℕ) (low : Each (λ w. w < 2 ^ 64) words) (q : ℕ) (inside : q < length words) where
  word_here : get_or words q 0 ≡ number 64 (drop (q * 64) (bits_of words))
  word_here = ap (λ (ws : List ℕ). get_or ws q 0) (sym (words_back 64 words low)) ∙ words_at 64 (length words) (bits_of words) q inside

  part_here : number 64 (stands x (drop (q * 64) numbers)) ≡ number 64 (drop (q * 64) (stands x numbers))
  part_here = ap (number 64) (map-drop (λ m. eqb m x) (q * 64) numbers)

  or_word : bit_or (get_or words q 0) (number 64 (stands x (drop (q * 64) numbers))) ≡ get_or (with_standing x numbers words) q 0
  unfolding with_standing
  or_word =
      (λ j. bit_or (word_here j) (part_here j))
      ∙ or_number 64 (drop (q * 64) (bits_of words)) (drop (q * 64) (stands x numbers)) (drop (q * 64) (either (bits_of words) (stands x numbers)))
      (λ i.
      get_or-drop (q * 64) (either (bits_of words) (stands x numbers)) i false
      ∙ either_at (bits_of words) (stands x numbers) (q * 64 + i)
      ∙ (λ j. sym (get_or-drop (q * 64) (bits_of words) i false) j || sym (get_or-drop (q * 64) (stands x numbers) i false) j))
      ∙ sym (words_at 64 (length words) (either (bits_of words) (stands x numbers)) q inside)

  and_word : bit_and (get_or words q 0) (number 64 (stands x (drop (q * 64) numbers))) ≡ get_or (only_standing x numbers words) q 0
  unfolding only_standing
  and_word =
      (λ j. bit_and (word_here j) (part_here j))
      ∙ and_number 64 (drop (q * 64) (bits_of words)) (drop (q * 64) (stands x numbers)) (drop (q * 64) (both (bits_of words) (stands x numbers)))
      (λ i.
      get_or-drop (q * 64) (both (bits_of words) (stands x numbers)) i false
      ∙ both_at (bits_of words) (stands x numbers) (q * 64 + i)
      ∙ (λ j. sym (get_or-drop (q * 64) (bits_of words) i false) j && sym (get_or-drop (q * 64) (stands x numbers) i false) j))
      ∙ sym (words_at 64 (length words) (both (bits_of words) (stands x numbers)) q inside)

-- ---- all words

length_with : (x : ℕ) (numbers words : List ℕ) → length (with_standing x numbers words) ≡ length words
unfolding with_standing
length_with x numbers words = length_words 64 (length words) (either (bits_of words) (stands x numbers))

length_only : (x : ℕ) (numbers words : List ℕ) → length (only_standing x numbers words) ≡ length words
unfolding only_standing
length_only x numbers words = length_words 64 (length words) (both (bits_of words) (stands x numbers))

module _ (x : ℕ) (numbers words after : List ℕ) (low : (i : ℕ) → get_or words i 0 < 2 ^ 64) (size : length after ≡ length words) where
  all_low : Each (λ w. w < 2 ^ 64) words
  all_low = Each-places (λ w. w < 2 ^ 64) 0 words (λ i h. low i)

  pub with_words : ((i : ℕ) → i < length words → get_or after i 0 ≡ bit_or (get_or words i 0) (number 64 (stands x (drop (i * 64) numbers))))
      → after ≡ with_standing x numbers words
  with_words each =
      ext_get_or 0 after (with_standing x numbers words) (size ∙ sym (length_with x numbers words))
      (λ i h. let inside : i < length words = omega arith in each i inside ∙ or_word x numbers words all_low i inside)

  pub only_words : ((i : ℕ) → i < length words → get_or after i 0 ≡ bit_and (get_or words i 0) (number 64 (stands x (drop (i * 64) numbers))))
      → after ≡ only_standing x numbers words
  only_words each =
      ext_get_or 0 after (only_standing x numbers words) (size ∙ sym (length_only x numbers words))
      (λ i h. let inside : i < length words = omega arith in each i inside ∙ and_word x numbers words all_low i inside)

-- ---- the marks of a kind

module _ (n x : ℕ) (numbers words : List ℕ) (size : length numbers ≡ n) (exact : length words ≡ word_count n) (packed : Packed n words) where
  -- marks that are the same at every place have the same words
  same_marks : (on all : List Bool) → length on ≡ n → ((i : ℕ) → get_or on i false ≡ get_or all i false) → words_of on ≡ words_by 64 (length words) all
  same_marks on all e same =
      ap (λ (m : ℕ). words_by 64 (word_count m) on) e ∙ same_words 64 (word_count n) on all same ∙ ap (λ (m : ℕ). words_by 64 m all) (sym exact)

  -- where the number stands, and past the last
  stands_at : (i : ℕ) → i < n → eqb (get_or numbers i 0) x ≡ get_or (stands x numbers) i false
  stands_at i h = sym (map_at (λ m. eqb m x) numbers i 0 false (omega arith))

  stands_past : (i : ℕ) → n ≤ i → get_or (stands x numbers) i false ≡ false
  stands_past i h = get_or-eq_default (stands x numbers) false (omega (arith, length-map numbers (λ m. eqb m x)))

  mark_past : (i : ℕ) → n ≤ i → mark_at words i ≡ false
  mark_past i h = sym (same_mark n words packed i) ∙ get_or-eq_default (marks_in n words) false (omega (arith, length-marks_in n words exact))

  pub with_marks : words_of (zip_with (λ m c. eqb m x || c) numbers (marks_in n words)) ≡ with_standing x numbers words
  unfolding with_standing
  with_marks =
      let long : length numbers ≡ length (marks_in n words) = size ∙ sym (length-marks_in n words exact) in
      let on : List Bool = zip_with (λ m c. eqb m x || c) numbers (marks_in n words) in
      let whole : length on ≡ n = length-zip_with (λ m c. eqb m x || c) numbers (marks_in n words) long ∙ size in
      same_marks on (either (bits_of words) (stands x numbers)) whole
      (λ i.
      ⊎_elim
      (λ (h : i < n).
      zip_with_at (λ m c. eqb m x || c) numbers (marks_in n words) i 0 false false (omega arith) (omega arith)
      ∙ (λ j. stands_at i h j || same_mark n words packed i j)
      ∙ or_turned (get_or (stands x numbers) i false) (mark_at words i)
      ∙ sym (either_at (bits_of words) (stands x numbers) i))
      (λ (h : n ≤ i).
      get_or-eq_default on false (omega arith)
      ∙ (λ j. sym (mark_past i h) j || sym (stands_past i h) j)
      ∙ sym (either_at (bits_of words) (stands x numbers) i))
      (below_or_not i n))

  pub only_marks : words_of (zip_with (λ c m. c && eqb m x) (marks_in n words) numbers) ≡ only_standing x numbers words
  unfolding only_standing
  only_marks =
      let long : length (marks_in n words) ≡ length numbers = length-marks_in n words exact ∙ sym size in
      let on : List Bool = zip_with (λ c m. c && eqb m x) (marks_in n words) numbers in
      let whole : length on ≡ n = length-zip_with (λ c m. c && eqb m x) (marks_in n words) numbers long ∙ length-marks_in n words exact in
      same_marks on (both (bits_of words) (stands x numbers)) whole
      (λ i.
      ⊎_elim
      (λ (h : i < n).
      zip_with_at (λ c m. c && eqb m x) (marks_in n words) numbers i false 0 false (omega arith) (omega arith)
      ∙ (λ j. same_mark n words packed i j && stands_at i h j)
      ∙ sym (both_at (bits_of words) (stands x numbers) i))
      (λ (h : n ≤ i).
      get_or-eq_default on false (omega arith)
      ∙ (λ j. sym (mark_past i h) j && sym (stands_past i h) j)
      ∙ sym (both_at (bits_of words) (stands x numbers) i))
      (below_or_not i n))
