-- Marks in words of 64 bits, whatever their kind: its table and its number of marks.
--     marks_words, words_marks       the marks of words and the words of marks undo each other
--     length-words_of, packed_words   the words of marks: how many, and that their unused bits are 0
--     length-marks_in, same_mark      the marks that words hold: how many, and each of them
--     mark_stands                    a mark of the pool, in its word
--     marked-written, record_written, mark_record_lem     a mark that is another, of marks and in their words
--     marked-marks, length_marked    the same, from the words
--     word_marked                    a word in which one bit is another
--     all_off                        no mark is on
-- Assumes nothing.
use Prim.Native.Nat.{ℕ, zero, suc, ◌+◌, ◌-◌, ◌*◌, ◌/◌, ◌%◌, ◌^◌, ◌≤◌, ◌<◌}
use mathlib.Core.Path.{◌≡◌, refl, sym, ap, ◌∙◌, subst}
use mathlib.Core.Bool.{Bool, false}
use mathlib.Core.List.{List, [], ◌∷◌, ◌++◌}
use mathlib.Core.Logic.{⊎_elim}
use native.Mathlib.Omega.{arith}
use native.Mathlib.Nat.{not-suc-le-zero, mod-lt, zero-lt-suc, div-add-mod'}
use lib.ListN.{length, get_or, take, drop, set, replicate, length-set, length-replicate, get_or-eq_default}
use lib.Seq.{length-take-le, get_or-take, get_or-drop, take_at, drop_at, set-append_left, take-set-lt}
use Rattle.rules.specs.Pool.{with_record}
use Rattle.rules.specs.Sound.{Each}
use Rattle.laws.proofs.Lists.{Each-set}
use Rattle.laws.proofs.Tests.{below_or_not}
use Rattle.tables.specs.Bits.{digits, words_by, bits_of, word_count, marks_in, words_of, mark_at, marked, mark_record, Packed}
use Rattle.tables.proofs.Words.{off_behind, length-bits, bits-set, words_back, bits_back, length_words, words_low, same_words, bits_padded, words_off}

all_false : (xs : List Bool) → Each (λ b. b ≡ false) xs → (i : ℕ) → get_or xs i false ≡ false
all_false [] h i = refl
all_false (b ∷ xs) h zero = h.0
all_false (b ∷ xs) h (suc i) = all_false xs h.1 i

replicate_off : (n : ℕ) → Each (λ b. b ≡ false) (replicate n false)
replicate_off zero = tt
replicate_off (suc n) = (refl, replicate_off n)

-- the bits of the words of some marks: the marks, and no other
bits_of_marks : (on : List Bool) → bits_of (words_of on) ≡ on ++ replicate (word_count (length on) * 64 - length on) false
bits_of_marks on = bits_padded 64 (word_count (length on)) on (omega arith)

pub length-words_of : (n : ℕ) (on : List Bool) → length on ≡ n → length (words_of on) ≡ word_count n
length-words_of n on h = length_words 64 (word_count (length on)) on ∙ ap word_count h

pub packed_words : (n : ℕ) (on : List Bool) → length on ≡ n → Packed n (words_of on)
packed_words n on h =
    record {
      low = words_low 64 (word_count (length on)) on;
      unused =
          subst (λ (bs : List Bool). Each (λ b. b ≡ false) bs)
          (sym (ap (drop n) (bits_of_marks on) ∙ drop_at on (replicate (word_count (length on) * 64 - length on) false) n h))
          (replicate_off (word_count (length on) * 64 - length on));
    }

pub marks_words : (n : ℕ) (on : List Bool) → length on ≡ n → marks_in n (words_of on) ≡ on
marks_words n on h = ap (take n) (bits_of_marks on) ∙ take_at on (replicate (word_count (length on) * 64 - length on) false) n h

module _ (n : ℕ) (words : List ℕ) where
  pub length-marks_in : length words ≡ word_count n → length (marks_in n words) ≡ n
  length-marks_in h = length-take-le n (bits_of words) (omega (arith, length-bits 64 words))

  -- a mark whose bit is not there is off
  pub same_mark : Packed n words → (i : ℕ) → get_or (marks_in n words) i false ≡ mark_at words i
  same_mark packed i =
      ⊎_elim
      (λ (h : i < n). get_or-take n (bits_of words) i false h)
      (λ (h : n ≤ i).
      get_or-eq_default (marks_in n words) false (omega (arith, length_least))
      ∙ sym
      (ap (λ (k : ℕ). get_or (bits_of words) k false) (let e : i ≡ n + (i - n) = omega arith in e)
      ∙ sym (get_or-drop n (bits_of words) (i - n) false)
      ∙ all_false (drop n (bits_of words)) packed.unused (i - n)))
      (below_or_not i n)
    where
      least : (m : ℕ) (xs : List Bool) → length (take m xs) ≤ m
      least zero xs = omega arith
      least (suc m) [] = omega arith
      least (suc m) (x ∷ xs) = omega (arith, least m xs)

      length_least : length (marks_in n words) ≤ n
      length_least = least n (bits_of words)

  pub words_marks : length words ≡ word_count n → Packed n words → words_of (marks_in n words) ≡ words
  words_marks h packed =
      ap (λ (m : ℕ). words_by 64 (word_count m) (marks_in n words)) (length-marks_in h)
      ∙ same_words 64 (word_count n) (marks_in n words) (bits_of words) (same_mark packed)
      ∙ ap (λ (m : ℕ). words_by 64 m (bits_of words)) (sym h)
      ∙ words_back 64 words packed.low

-- ---- one mark

pub mark_stands : (n : ℕ) (words : List ℕ) (i : ℕ) → i < n → get_or (marks_in n words) i false ≡ mark_at words i
mark_stands n words i h = get_or-take n (bits_of words) i false h

pub marked-written : (on : List Bool) (i : ℕ) (b : Bool) → i < length on → words_of (set on i b) ≡ marked (words_of on) i b
unfolding marked
marked-written on i b h =
    let m : ℕ = word_count (length on) in
    let rest : List Bool = replicate (m * 64 - length on) false in
    ap (λ (n : ℕ). words_by 64 (word_count n) (set on i b)) (length-set on i b)
    ∙ same_words 64 m (set on i b) (set on i b ++ rest) (λ j. sym (off_behind (set on i b) (m * 64 - length on) j))
    ∙ ap (words_by 64 m) (sym (set-append_left on rest i b h) ∙ ap (λ (bs : List Bool). set bs i b) (sym (bits_of_marks on)))
    ∙ ap (λ (n : ℕ). words_by 64 n (set (bits_of (words_of on)) i b)) (sym (length_words 64 m on))

pub record_written : (on : List Bool) (a : ℕ) (b : Bool) → a ≤ length on → words_of (with_record on a b) ≡ mark_record (words_of on) a b
record_written on zero b h = refl
record_written on (suc i) b h = marked-written on i b h

pub mark_record_lem : (n : ℕ) (words : List ℕ) (a : ℕ) (b : Bool) → length words ≡ word_count n → Packed n words → a ≤ n
    → words_of (with_record (marks_in n words) a b) ≡ mark_record words a b
mark_record_lem n words a b e packed h =
    record_written (marks_in n words) a b (omega (arith, length-marks_in n words e)) ∙ ap (λ (ws : List ℕ). mark_record ws a b) (words_marks n words e packed)

pub mark_place : (words : List ℕ) (a place : ℕ) (b : Bool) → 1 ≤ a → place ≡ a - 1 → marked words place b ≡ mark_record words a b
mark_place words zero place b h e = absurd (not-suc-le-zero h)
mark_place words (suc i) place b h e = ap (λ (k : ℕ). marked words k b) (let same : place ≡ i = omega arith in same)

-- ---- from the words

pub length_marked : (words : List ℕ) (i : ℕ) (b : Bool) → length (marked words i b) ≡ length words
unfolding marked
length_marked words i b = length_words 64 (length words) (set (bits_of words) i b)

pub bits-marked : (words : List ℕ) (i : ℕ) (b : Bool) → bits_of (marked words i b) ≡ set (bits_of words) i b
unfolding marked
bits-marked words i b = bits_back 64 (length words) (set (bits_of words) i b) (length-set (bits_of words) i b ∙ length-bits 64 words)

pub marked-marks : (n : ℕ) (words : List ℕ) (i : ℕ) (b : Bool) → i < n → marks_in n (marked words i b) ≡ set (marks_in n words) i b
marked-marks n words i b h = ap (take n) (bits-marked words i b) ∙ take-set-lt n (bits_of words) i b h

-- one bit of a word is another
pub word_marked : (words : List ℕ) (i x : ℕ) (b : Bool) → Each (λ y. y < 2 ^ 64) words → x < 2 ^ 64 → i < length words * 64
    → digits 64 x ≡ set (digits 64 (get_or words (i / 64) 0)) (i % 64) b → set words (i / 64) x ≡ marked words i b
unfolding marked
word_marked words i x b low small h e =
    sym (words_back 64 (set words (i / 64) x) (Each-set (λ y. y < 2 ^ 64) words (i / 64) x low small))
    ∙ (λ j.
    words_by 64 (length-set words (i / 64) x j)
    ((bits-set 64 words (i / 64) (i % 64) x b (omega arith) (mod-lt i (zero-lt-suc 63)) e
    ∙ ap (λ (k : ℕ). set (bits_of words) k b) (div-add-mod' i 64)) j))

-- ---- all marks off

pub all_off : (n : ℕ) → words_of (replicate n false) ≡ replicate (word_count n) 0
all_off n = ap (λ (m : ℕ). words_by 64 (word_count m) (replicate n false)) (length-replicate n false) ∙ words_off 64 (word_count n) n
