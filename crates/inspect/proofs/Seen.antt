-- What was seen of 64 links, as a word.
--     marked_in       the marks of a word against what was seen of its links, as those of all words
--     whole_told      each of the links was seen at most once, and the word is that of the marks: exactly so each mark is what was seen of its link
-- Assumes nothing.
use Prim.Native.Nat.{ℕ, zero, suc, ◌+◌, ◌*◌, ◌%◌, ◌^◌, ◌≤◌, ◌<◌}
use mathlib.Core.Path.{◌≡◌, refl, sym, ap, ◌∙◌}
use mathlib.Core.Bool.{Bool, true, false, ◌&&◌}
use mathlib.Core.List.{List}
use mathlib.Core.Logic.Iff
use native.Mathlib.Omega.{arith}
use borrow.Author.Tests.{eqb-true, leb-true}
use lib.Dec.{eqb, leb, ltb}
use lib.ListN.{length, get_or}
use Rattle.rules.specs.Sound.{Each}
use Rattle.laws.proofs.Lists.{Each-at, Each-places}
use Rattle.rules.specs.View.{bit}
use Rattle.laws.proofs.Tests.{and_left, and_right}
use Rattle.tables.specs.Bits.{digits, mark_at}
use Rattle.tables.proofs.Standing.{word_is}
use Rattle.tables.proofs.Words.{bit_at}
use Rattle.clauses.specs.IsSound.{every, below}
use Rattle.clauses.proofs.Tests.{equal_tells, below_tells, every_tells, ◌and◌, same_told}
use Rattle.inspect.proofs.Tested.{below_same}
use Rattle.inspect.specs.Parts.{matches, is_once}

-- ---- one link

-- a link that was seen among the logs and the uncleared history
abbrev pub is_standing : ℕ → Bool
is_standing times = eqb (times % 131072) 1

-- what was seen, by its first part r; and its mark
marked : (r : ℕ) (mark low : Bool) → mark ≡ eqb r 1 → (leb r 1 && low) ≡ true → (eqb r (bit mark) && low) ≡ true
marked zero mark low e h = ap (λ (m : Bool). eqb 0 (bit m) && low) e ∙ h
marked (suc zero) mark low e h = ap (λ (m : Bool). eqb 1 (bit m) && low) e ∙ h
marked (suc (suc r)) mark low e h = absurd (omega (arith, leb-true (suc (suc r)) 1 (and_left (leb (suc (suc r)) 1) low h)))

once : (r : ℕ) (mark low : Bool) → (eqb r (bit mark) && low) ≡ true → (mark ≡ eqb r 1) × ((leb r 1 && low) ≡ true)
once r true low h =
    let e : r ≡ 1 = eqb-true r 1 (and_left (eqb r 1) low h) in
    let rest : low ≡ true = and_right (eqb r 1) low h in
    (ap (λ (n : ℕ). eqb n 1) (sym e), ap (λ (n : ℕ). leb n 1 && low) e ∙ rest)
once r false low h =
    let e : r ≡ 0 = eqb-true r 0 (and_left (eqb r 0) low h) in
    let rest : low ≡ true = and_right (eqb r 0) low h in
    (ap (λ (n : ℕ). eqb n 1) (sym e), ap (λ (n : ℕ). leb n 1 && low) e ∙ rest)

-- ---- 64 links

-- a word that has the bits of another is it
same_bits : (x y : ℕ) → x < 2 ^ 64 → y < 2 ^ 64 → ((i : ℕ) → i < 64 → get_or (digits 64 x) i false ≡ get_or (digits 64 y) i false) → x ≡ y
same_bits x y h l same = word_is x (digits 64 y) h same ∙ sym (word_is y (digits 64 y) l (λ i k. refl))

module _ (word standing : ℕ) (seen : List ℕ) (small : word < 2 ^ 64) (low : standing < 2 ^ 64) (exact : length seen ≡ 64)
    (bits : (i : ℕ) → i < 64 → get_or (digits 64 standing) i false ≡ is_standing (get_or seen i 0)) where
  abbrev times : ℕ → ℕ
  times i = get_or seen i 0

  abbrev mark : ℕ → Bool
  mark i = get_or (digits 64 word) i false

  each : Each (λ x. is_once x ≡ true) seen × (standing ≡ word) → (i : ℕ) → i < 64 → matches word seen i ≡ true
  each (once, same) i h =
      marked (times i % 131072) (mark i) (ltb (times i) 262144) (ap (λ (x : ℕ). get_or (digits 64 x) i false) (sym same) ∙ bits i h) (Each-at (λ x. is_once x ≡ true) seen i 0 (omega (arith, exact)) once)

  all : ((i : ℕ) → i < 64 → matches word seen i ≡ true) → Each (λ x. is_once x ≡ true) seen × (standing ≡ word)
  all told =
      let parts : (i : ℕ) → i < 64 → (mark i ≡ is_standing (times i)) × (is_once (times i) ≡ true) = λ i h. once (times i % 131072) (mark i) (ltb (times i) 262144) (told i h) in
      (Each-places (λ x. is_once x ≡ true) 0 seen (λ i h. (parts i (omega (arith, exact))).1), same_bits standing word low small (λ i h. bits i h ∙ sym (parts i h).0))

  pub whole_told : (every is_once seen && eqb standing word) ≡ below 64 (matches word seen)
  whole_told =
      same_told
      (Iff.trans (every_tells (λ x. (λ e. e, λ e. e)) seen and equal_tells standing word) (each, all))
      (below_tells {P = λ i. matches word seen i ≡ true} 64 (λ i h. (λ e. e, λ e. e)))

-- ---- one word of many

abbrev pub link_matches : (changed seen : List ℕ) → ℕ → Bool
link_matches changed seen l = eqb (get_or seen l 0 % 131072) (bit (mark_at changed l)) && ltb (get_or seen l 0) 262144

-- `part` is what was seen of the links of a word
pub marked_in : (changed seen part : List ℕ) (at many : ℕ) → at < length changed → many ≤ 64 → ((i : ℕ) → i < many → get_or part i 0 ≡ get_or seen (at * 64 + i) 0)
    → below many (matches (get_or changed at 0) part) ≡ below many (λ i. link_matches changed seen (at * 64 + i))
marked_in changed seen part at many inside few same =
    below_same many (matches (get_or changed at 0) part) (λ i. link_matches changed seen (at * 64 + i))
    (λ i h. λ j. eqb (same i h j % 131072) (bit (sym (bit_at 64 changed at i inside (omega arith)) j)) && ltb (same i h j) 262144)
