-- The first mark that is off, and how many are on, read off whole words.
--     off_least, off_found, off_passed     the first of two lists of marks that is off
--     trailing_off                         the trailing zeros of the complement
--     left                                 what is left to look at, where some lowest bits of the first word are passed over
--     left-start, left_found, left_next    where the search starts, a word in which it ends, and a word that is passed over
--     ones_append, ones-digits             how many are on, of two lists and of a word
--     ones_next, none_left; left_from, left-ends, left-goes, left_past     the same, as a loop goes through words of 64 bits
--     off_among, off_past                  where only the first of the bits are marks
--     free_found, free_none                the record that is found
-- Over any width, but for the last part. Assumes nothing.
use Prim.Native.Nat.{ℕ, zero, suc, ◌+◌, ◌-◌, ◌*◌, ◌/◌, ◌%◌, ◌^◌, ◌≤◌, ◌<◌}
use mathlib.Core.Path.{◌≡◌, refl, sym, ap, ◌∙◌, subst}
use mathlib.Core.Bool.{Bool, true, false, cond}
use mathlib.Core.List.{List, [], ◌∷◌, ◌++◌, flatten, append_assoc}
use native.Mathlib.Omega.{arith}
use native.Mathlib.Numerals.{add-one}
use native.Mathlib.Nat.{pow-suc, mod-lt, not-suc-le-zero, le_of_suc-le-suc, zero-lt-suc, div-add-mod', mul-le-mul_right}
use lib.Dec.{eqb}
use lib.Bits.{bit_or, or_step, or_zero_r}
use lib.Count.{ones, ones_in, ones_step, count_trailing_zeros, under}
use lib.Pow.{pow_pos}
use lib.ListN.{length, get_or, take, drop, set, replicate, length-drop, drop_of_length-le}
use lib.Seq.{drop-append-le, drop-drop, drop-nil, drop-cons, get_or-drop, set-get_or}
use Rattle.rules.specs.Pool.{none}
use Rattle.rules.specs.Worker.{first_free}
use Rattle.tables.specs.Bits.{digits, bits_by, bits_of, first_off, ones_of}
use Rattle.tables.proofs.Digits.{odd_bit, length_digits}
use Rattle.tables.proofs.Words.{bits-drop}

-- ---- the first that is off

pub off_least : (xs : List Bool) → first_off xs ≤ length xs
unfolding first_off
off_least [] = omega arith
off_least (true ∷ xs) = omega (arith, off_least xs)
off_least (false ∷ xs) = omega arith

pub off_found : (xs ys : List Bool) → first_off xs < length xs → first_off (xs ++ ys) ≡ first_off xs
unfolding first_off
off_found [] ys h = absurd (not-suc-le-zero h)
off_found (true ∷ xs) ys h = ap suc (off_found xs ys (le_of_suc-le-suc h))
off_found (false ∷ xs) ys h = refl

pub off_passed : (xs ys : List Bool) → first_off xs ≡ length xs → first_off (xs ++ ys) ≡ length xs + first_off ys
unfolding first_off
off_passed [] ys h = omega arith
off_passed (true ∷ xs) ys h = omega (arith, off_passed xs ys (omega arith))
off_passed (false ∷ xs) ys h = absurd (omega arith)

off_behind_on : (n : ℕ) (ys : List Bool) → first_off (replicate n true ++ ys) ≡ n + first_off ys
unfolding first_off
off_behind_on zero ys = omega arith
off_behind_on (suc n) ys = omega (arith, off_behind_on n ys)

-- the record that a make finds, by its place
pub free_found : (i : ℕ) (xs : List Bool) → first_off xs < length xs → first_free (suc i) xs ≡ record { 0 = suc (i + first_off xs) }
unfolding first_free first_off
free_found i [] h = absurd (not-suc-le-zero h)
free_found i (false ∷ xs) h = λ j. record { 0 = (let e : suc i ≡ suc (i + 0) = omega arith in e) j }
free_found i (true ∷ xs) h =
    free_found (suc i) xs (le_of_suc-le-suc h) ∙ (λ j. record { 0 = (let e : suc (suc i + first_off xs) ≡ suc (i + suc (first_off xs)) = omega arith in e) j })

pub free_none : (i : ℕ) (xs : List Bool) → first_off xs ≡ length xs → first_free (suc i) xs ≡ none
unfolding first_free first_off
free_none i [] h = refl
free_none i (false ∷ xs) h = absurd (omega arith)
free_none i (true ∷ xs) h = free_none (suc i) xs (omega arith)

-- the first of the marks, where only some of the bits are marks
pub off_among : (n : ℕ) (xs : List Bool) → first_off xs < n → n ≤ length xs → first_off (take n xs) ≡ first_off xs
unfolding first_off
off_among zero xs h k = absurd (not-suc-le-zero h)
off_among (suc n) [] h k = absurd (not-suc-le-zero k)
off_among (suc n) (true ∷ xs) h k = ap suc (off_among n xs (le_of_suc-le-suc h) (le_of_suc-le-suc k))
off_among (suc n) (false ∷ xs) h k = refl

pub off_past : (n : ℕ) (xs : List Bool) → n ≤ first_off xs → first_off (take n xs) ≡ length (take n xs)
unfolding first_off
off_past zero xs h = refl
off_past (suc n) [] h = refl
off_past (suc n) (true ∷ xs) h = ap suc (off_past n xs (le_of_suc-le-suc h))
off_past (suc n) (false ∷ xs) h = absurd (not-suc-le-zero h)

-- ---- in a word

pub trailing_off : (k x : ℕ) → x < 2 ^ k → count_trailing_zeros k ((2 ^ k - 1) - x) ≡ first_off (digits k x)
unfolding count_trailing_zeros first_off digits
trailing_off zero x h = refl
trailing_off (suc k) x h =
    let rest : ((2 ^ suc k - 1) - x) / 2 ≡ (2 ^ k - 1) - x / 2 = omega (arith, pow-suc 2 k) in
    let lowest : ((2 ^ suc k - 1) - x) % 2 ≡ 1 - x % 2 = omega (arith, pow-suc 2 k) in
    (λ j. under (lowest j) (count_trailing_zeros k (rest j)))
    ∙ ap (under (1 - x % 2)) (trailing_off k (x / 2) (omega (arith, pow-suc 2 k)))
    ∙ by_lowest (x % 2) (mod-lt x (zero-lt-suc 1)) (first_off (digits k (x / 2)))
  where
    by_lowest : (r : ℕ) → r < 2 → (t : ℕ) → under (1 - r) t ≡ cond (eqb r 1) (suc t) 0
    by_lowest zero l t = refl
    by_lowest (suc zero) l t = refl
    by_lowest (suc (suc r)) l t = absurd (omega arith)

-- the r lowest bits are passed over
passed_over : (k x r : ℕ) → r ≤ k → digits k (bit_or x (2 ^ r - 1)) ≡ replicate r true ++ drop r (digits k x)
unfolding digits
passed_over k x zero h = ap (digits k) (or_zero_r x)
passed_over zero x (suc r) h = absurd (not-suc-le-zero h)
passed_over (suc k) x (suc r) h =
    let mask = 2 ^ suc r - 1 in
    let half : mask / 2 ≡ 2 ^ r - 1 = omega (arith, pow-suc 2 r, pow_pos r) in
    let uneven : mask % 2 ≡ 1 = omega (arith, pow-suc 2 r, pow_pos r) in
    let step = or_step x mask in
    let same = ap (bit_or (x / 2)) half in
    let lowest : x % 2 < 2 = mod-lt x (zero-lt-suc 1) in
    λ j.
    ap (λ (m : ℕ). eqb m 1) (let e : bit_or x mask % 2 ≡ 1 = omega (arith, step) in e) j
    ∷ (ap (digits k) (let e : bit_or x mask / 2 ≡ bit_or (x / 2) (2 ^ r - 1) = omega (arith, step, same) in e) ∙ passed_over k (x / 2) r (le_of_suc-le-suc h)) j

-- ---- word by word

-- how many marks stand before the first that is off, where the bits of a number are passed over in the first word
unfoldable pub left : ℕ → List ℕ → ℕ → ℕ
left k words passed = first_off (bits_by k (set words 0 (bit_or (get_or words 0 0) passed)))

module _ (k : ℕ) where
  -- the search starts in the middle of a word
  pub left-start : (words : List ℕ) (q r : ℕ) → r < k → q * k + r ≤ length words * k
      → q * k + r + first_off (drop (q * k + r) (bits_by k words)) ≡ q * k + left k (drop q words) (2 ^ r - 1)
  unfolding left bits_by flatten
  left-start words q r h l =
      ap (λ (n : ℕ). q * k + r + n)
      (ap first_off (sym (drop-drop r (q * k) (bits_by k words)) ∙ ap (drop r) (bits-drop k words q)))
      ∙ by_front (drop q words) (λ e. omega (arith, length-drop q words, enough e))
    where
      enough : length (drop q words) ≡ 0 → length words * k ≤ q * k
      enough e = mul-le-mul_right k (let few : length words ≤ q = omega (arith, length-drop q words) in few)

      by_front : (ws : List ℕ) → (length ws ≡ 0 → r ≡ 0) → q * k + r + first_off (drop r (bits_by k ws)) ≡ q * k + first_off (bits_by k (set ws 0 (bit_or (get_or ws 0 0) (2 ^ r - 1))))
      by_front [] e = omega (arith, e refl, ap first_off (drop-nil {A = Bool} r))
      by_front (x ∷ ws) e =
          omega (
            arith,
            ap first_off (drop-append-le r (digits k x) (bits_by k ws) (omega (arith, length_digits k x))),
            off_behind_on r (drop r (digits k x) ++ bits_by k ws),
            ap first_off (ap (λ (bs : List Bool). bs ++ bits_by k ws) (passed_over k x r (omega arith)) ∙ append_assoc (replicate r true) (drop r (digits k x)) (bits_by k ws)),
          )

  module _ (words : List ℕ) (passed : ℕ) (some : 0 < length words) (low : bit_or (get_or words 0 0) passed < 2 ^ k) where
    -- the trailing zeros of the complement
    abbrev zeros : ℕ
    zeros = count_trailing_zeros k ((2 ^ k - 1) - bit_or (get_or words 0 0) passed)

    -- the search ends in this word
    pub left_found : zeros < k → left k words passed ≡ zeros
    unfolding left bits_by flatten
    left_found h = by_front words some low h
      where
        by_front : (ws : List ℕ) → 0 < length ws → bit_or (get_or ws 0 0) passed < 2 ^ k → count_trailing_zeros k ((2 ^ k - 1) - bit_or (get_or ws 0 0) passed) < k
            → first_off (bits_by k (set ws 0 (bit_or (get_or ws 0 0) passed))) ≡ count_trailing_zeros k ((2 ^ k - 1) - bit_or (get_or ws 0 0) passed)
        by_front [] s l t = absurd (not-suc-le-zero s)
        by_front (x ∷ ws) s l t =
            let y : ℕ = bit_or x passed in
            off_found (digits k y) (bits_by k ws) (omega (arith, length_digits k y, trailing_off k y l)) ∙ sym (trailing_off k y l)

    -- the search goes on behind this word
    pub left_next : k ≤ zeros → left k words passed ≡ k + left k (drop 1 words) 0
    unfolding left bits_by flatten
    left_next h = by_front words some low h
      where
        by_front : (ws : List ℕ) → 0 < length ws → bit_or (get_or ws 0 0) passed < 2 ^ k → k ≤ count_trailing_zeros k ((2 ^ k - 1) - bit_or (get_or ws 0 0) passed)
            → first_off (bits_by k (set ws 0 (bit_or (get_or ws 0 0) passed))) ≡ k + first_off (bits_by k (set (drop 1 ws) 0 (bit_or (get_or (drop 1 ws) 0 0) 0)))
        by_front [] s l t = absurd (not-suc-le-zero s)
        by_front (x ∷ ws) s l t =
            let y : ℕ = bit_or x passed in
            off_passed (digits k y) (bits_by k ws) (omega (arith, length_digits k y, trailing_off k y l, off_least (digits k y)))
            ∙ (λ j. length_digits k y j + first_off (bits_by k ((sym (set-get_or ws 0 0) ∙ ap (set ws 0) (sym (or_zero_r (get_or ws 0 0)))) j)))

  -- nothing is left
  pub left-none : (passed : ℕ) → left k [] passed ≡ 0
  unfolding left bits_by flatten first_off
  left-none passed = refl

-- ---- how many are on

pub ones_append : (xs ys : List Bool) → ones_of (xs ++ ys) ≡ ones_of xs + ones_of ys
unfolding ones_of
ones_append [] ys = omega arith
ones_append (b ∷ xs) ys = omega (arith, ones_append xs ys)

none_on : ones 0 ≡ 0
unfolding ones ones_in
none_on = refl

pub ones-digits : (k x : ℕ) → x < 2 ^ k → ones_of (digits k x) ≡ ones x
unfolding ones_of digits
ones-digits zero x h = sym (ap ones (let e : x ≡ 0 = omega arith in e) ∙ none_on)
ones-digits (suc k) x h = omega (arith, ones-digits k (x / 2) (omega (arith, pow-suc 2 k)), odd_bit x, ones_step x)

-- ---- in a list of words of 64 bits, as a loop goes through it

-- what is counted in one word, and what is left
pub ones_next : (words : List ℕ) (i : ℕ) → i < length words → get_or words i 0 < 2 ^ 64
    → ones_of (bits_of (drop i words)) ≡ ones (get_or words i 0) + ones_of (bits_of (drop (i + 1) words))
unfolding bits_by flatten
ones_next words i h low =
    ap (λ (ws : List ℕ). ones_of (bits_of ws)) (drop-cons words i 0 h)
    ∙ ones_append (digits 64 (get_or words i 0)) (bits_of (drop (suc i) words))
    ∙ (λ j. ones-digits 64 (get_or words i 0) low j + ones_of (bits_of (drop (sym (add-one i) j) words)))

pub none_left : (words : List ℕ) (i : ℕ) → length words ≤ i → ones_of (bits_of (drop i words)) ≡ 0
unfolding bits_by flatten ones_of
none_left words i h = ap (λ (ws : List ℕ). ones_of (bits_of ws)) (drop_of_length-le words h)

pub left_from : (words : List ℕ) (from : ℕ) → from ≤ length words * 64
    → from + first_off (drop from (bits_of words)) ≡ from / 64 * 64 + left 64 (drop (from / 64) words) (2 ^ (from % 64) - 1)
left_from words from h =
    let parts : from / 64 * 64 + from % 64 ≡ from = div-add-mod' from 64 in
    ap (λ (n : ℕ). n + first_off (drop n (bits_of words))) (sym parts) ∙ left-start 64 words (from / 64) (from % 64) (mod-lt from (zero-lt-suc 63)) (omega arith)

module _ (words : List ℕ) (i passed : ℕ) where
  here : get_or (drop i words) 0 0 ≡ get_or words i 0
  here = get_or-drop i words 0 0 ∙ ap (λ (n : ℕ). get_or words n 0) (let e : i + 0 ≡ i = omega arith in e)

  module _ (inside : i < length words) (low : bit_or (get_or words i 0) passed < 2 ^ 64) where
    abbrev zeros_here : ℕ
    zeros_here = count_trailing_zeros 64 ((2 ^ 64 - 1) - bit_or (get_or words i 0) passed)

    same_zeros : count_trailing_zeros 64 ((2 ^ 64 - 1) - bit_or (get_or (drop i words) 0 0) passed) ≡ zeros_here
    same_zeros = ap (λ (x : ℕ). count_trailing_zeros 64 ((2 ^ 64 - 1) - bit_or x passed)) here

    low_there : bit_or (get_or (drop i words) 0 0) passed < 2 ^ 64
    low_there = subst (λ (x : ℕ). bit_or x passed < 2 ^ 64) (sym here) low

    pub left-ends : zeros_here < 64 → left 64 (drop i words) passed ≡ zeros_here
    left-ends h = left_found 64 (drop i words) passed (omega (arith, length-drop i words)) low_there (omega (arith, same_zeros)) ∙ same_zeros

    pub left-goes : 64 ≤ zeros_here → left 64 (drop i words) passed ≡ 64 + left 64 (drop (i + 1) words) 0
    left-goes h =
        left_next 64 (drop i words) passed (omega (arith, length-drop i words)) low_there (omega (arith, same_zeros))
        ∙ ap (λ (ws : List ℕ). 64 + left 64 ws 0) (drop-drop 1 i words)

  pub left_past : length words ≤ i → left 64 (drop i words) passed ≡ 0
  left_past h = ap (λ (ws : List ℕ). left 64 ws passed) (drop_of_length-le words h) ∙ left-none 64 passed
