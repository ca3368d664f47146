-- Marks in words of 64 bits: "lowest number in the lowest bit, unused top bits 0" (document 02, request 9).
--     digits, number     the lowest bits of a number, and the number whose lowest bits are given
--     bits_by, words_by    the bits of words, and so many words of bits, each of one width
--     bits_of             the bits of words of 64
--     word_count          how many words so many marks take
--     marks_in, words_of   the marks that words hold, and the words of some marks
--     mark_at, marked     one mark of words, and words of which one mark is another; mark_record: the mark of a record
--     Packed             words whose unused bits are 0
--     first_off, ones_of   the first mark that is off, and how many are on
--     stands, either, both           where a number stands in a table; one of two marks, and both
--     with_standing, only_standing     the marks where a number stands, on; and no others
-- Which mark is on is said of the list of bits alone: no definition but `digits` and `number` speaks of a bit's worth. Assumes nothing.
use Rattle.std.specs.Prelude.{ℕ, zero, suc, ◌+◌, ◌*◌, ◌/◌, ◌%◌, ◌^◌, ◌<◌, ◌≡◌, Bool, false, cond, ◌&&◌, ◌||◌, eqb, length, get_or, take, drop, set}
use mathlib.Core.List.{List, [], ◌∷◌, map, zip_with, flatten}
use Rattle.rules.specs.View.{bit}
use Rattle.rules.specs.Sound.{Each}

-- ---- of any width

-- the k lowest bits of a number, the lowest first
unfoldable pub digits : ℕ → ℕ → List Bool
digits zero x = []
digits (suc k) x = eqb (x % 2) 1 ∷ digits k (x / 2)

-- the number whose k lowest bits are the first of these, the lowest first; a bit that is not there is off
unfoldable pub number : ℕ → List Bool → ℕ
number zero bs = 0
number (suc k) bs = bit (get_or bs 0 false) + number k (drop 1 bs) * 2

unfoldable pub bits_by : ℕ → List ℕ → List Bool
bits_by k words = flatten (map (digits k) words)

unfoldable pub words_by : ℕ → ℕ → List Bool → List ℕ
words_by k zero bs = []
words_by k (suc n) bs = number k bs ∷ words_by k n (drop k bs)

-- ---- words of 64 bits

-- "64-bit words, lowest number in the lowest bit"
abbrev pub bits_of : List ℕ → List Bool
bits_of = bits_by 64

-- "(N + 63) / 64 words"
abbrev pub word_count : ℕ → ℕ
word_count n = (n + 63) / 64

-- n marks, from words
abbrev pub marks_in : ℕ → List ℕ → List Bool
marks_in n words = take n (bits_of words)

-- marks, in as many words as they take: "unused top bits 0"
abbrev pub words_of : List Bool → List ℕ
words_of on = words_by 64 (word_count (length on)) on

abbrev pub mark_at : List ℕ → ℕ → Bool
mark_at words i = get_or (bits_of words) i false

unfoldable pub marked : List ℕ → ℕ → Bool → List ℕ
marked words i on = words_by 64 (length words) (set (bits_of words) i on)

-- the mark of record a stands at place a - 1; none has no mark
abbrev pub mark_record : List ℕ → ℕ → Bool → List ℕ
mark_record words zero on = words
mark_record words (suc i) on = marked words i on

-- n marks in words of 64 bits: "unused top bits 0"
pub record Packed (n : ℕ) (words : List ℕ) : Type 0 where
  pub low : Each (λ x. x < 2 ^ 64) words
  pub unused : Each (λ b. b ≡ false) (drop n (bits_of words))

-- ---- searched and counted

-- how many marks stand before the first that is off
unfoldable pub first_off : List Bool → ℕ
first_off [] = 0
first_off (b ∷ bs) = cond b (suc (first_off bs)) 0

-- how many marks are on
unfoldable pub ones_of : List Bool → ℕ
ones_of [] = 0
ones_of (b ∷ bs) = bit b + ones_of bs

-- ---- all at once

-- where a number stands in a table
abbrev pub stands : ℕ → List ℕ → List Bool
stands x numbers = map (λ m. eqb m x) numbers

-- one of two marks is on; a mark that is not there is off
unfoldable pub either : List Bool → List Bool → List Bool
either [] ys = ys
either (x ∷ xs) [] = x ∷ xs
either (x ∷ xs) (y ∷ ys) = (x || y) ∷ either xs ys

-- both are on
abbrev pub both : List Bool → List Bool → List Bool
both = zip_with (λ x y. x && y)

-- words of which the marks where a number stands are on; of which only those stay on
unfoldable pub with_standing : ℕ → List ℕ → List ℕ → List ℕ
with_standing x numbers words = words_by 64 (length words) (either (bits_of words) (stands x numbers))

unfoldable pub only_standing : ℕ → List ℕ → List ℕ → List ℕ
only_standing x numbers words = words_by 64 (length words) (both (bits_of words) (stands x numbers))
