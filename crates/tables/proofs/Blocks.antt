-- A table in blocks of one size, and blocks joined to a table.
--     length_cut, cut_at           the blocks that are cut off a table
--     cut-sized, length_joined     each has the size, and together they are as long as the table
--     joined_cut, cut_joined       cutting and joining undo each other; cut-joined-before: where something lies behind the blocks
--     set_append_add               a write in the second of two lists
--     joined_at, joined_set        what stands at a place of a block, and blocks of which one place is written
--     joined_block                 blocks of which one is written whole
-- Assumes nothing.
use Prim.Native.Nat.{ℕ, zero, suc, ◌+◌, ◌*◌, ◌≤◌, ◌<◌}
use mathlib.Core.Path.{◌≡◌, refl, sym, ap, ◌∙◌}
use mathlib.Core.List.{List, [], ◌∷◌, ◌++◌, flatten, append_assoc, append-nil}
use native.Mathlib.Omega.{arith}
use native.Mathlib.Nat.{suc-mul, zero-mul, le_of_suc-le-suc, not-suc-le-zero}
use lib.ListN.{length, get_or, take, drop, set, length-append, length-drop, take-append-drop}
use lib.Seq.{length-take-le, take_at, drop_at, drop-drop, take-append-add, drop-append-add, get_or-append-add, set-append_left}
use lib.ListN.{get_or-append}
use Rattle.rules.specs.Sound.{Each}
use Rattle.tables.specs.Lie.{cut}

-- ---- blocks that are cut off

pub length_cut : (n size : ℕ) (xs : List ℕ) → length (cut n size xs) ≡ n
unfolding cut
length_cut zero size xs = refl
length_cut (suc n) size xs = ap suc (length_cut n size (drop size xs))

pub cut_at : (n size : ℕ) (xs : List ℕ) (i : ℕ) → i < n → get_or (cut n size xs) i [] ≡ take size (drop (i * size) xs)
unfolding cut
cut_at zero size xs i h = absurd (not-suc-le-zero h)
cut_at (suc n) size xs zero h = rw zero-mul
cut_at (suc n) size xs (suc i) h =
    cut_at n size (drop size xs) i (le_of_suc-le-suc h)
    ∙ ap (take size) (drop-drop (i * size) size xs ∙ ap (λ (k : ℕ). drop k xs) (let e : size + i * size ≡ suc i * size = omega (arith, suc-mul i size) in e))

-- ---- blocks of one size

abbrev pub Sized : {A : Type 0} → ℕ → List (List A) → Type 0
Sized size blocks = Each (λ b. length b ≡ size) blocks

pub cut-sized : (n size : ℕ) (xs : List ℕ) → n * size ≤ length xs → Sized size (cut n size xs)
unfolding cut
cut-sized zero size xs h = tt
cut-sized (suc n) size xs h = (
  length-take-le size xs (omega (arith, suc-mul n size)),
  cut-sized n size (drop size xs) (omega (arith, suc-mul n size, length-drop size xs)),
)

pub joined_cut : (n size : ℕ) (xs : List ℕ) → n * size ≤ length xs → flatten (cut n size xs) ≡ take (n * size) xs
unfolding cut flatten
joined_cut zero size xs h = rw zero-mul
joined_cut (suc n) size xs h =
    ap (λ t. take size xs ++ t) (joined_cut n size (drop size xs) (omega (arith, suc-mul n size, length-drop size xs)))
    ∙ sym (take-append-add (take size xs) (drop size xs) (n * size))
    ∙ (let e : length (take size xs) + n * size ≡ suc n * size = omega (arith, suc-mul n size, length-take-le size xs (omega (arith, suc-mul n size))) in
    λ j. take (e j) (take-append-drop size xs j))

pub set_append_add : {A : Type 0} (xs ys : List A) (n : ℕ) (x : A) → set (xs ++ ys) (length xs + n) x ≡ xs ++ set ys n x
set_append_add [] ys n x = ap (λ (k : ℕ). set ys k x) (let e : 0 + n ≡ n = omega arith in e)
set_append_add (y ∷ xs) ys n x =
    ap (λ (k : ℕ). set (y ∷ (xs ++ ys)) k x) (let e : suc (length xs) + n ≡ suc (length xs + n) = omega arith in e)
    ∙ ap (λ t. y ∷ t) (set_append_add xs ys n x)

module _ {A : Type 0} (size : ℕ) where
  pub length_joined : (blocks : List (List A)) → Sized size blocks → length (flatten blocks) ≡ length blocks * size
  unfolding flatten
  length_joined [] h = sym (zero-mul size)
  length_joined (b ∷ blocks) h =
      omega (arith, length-append b (flatten blocks), length_joined blocks h.1, suc-mul (length blocks) size, h.0)

  -- what stands at place i of block w
  pub joined_at : (blocks : List (List A)) (w i : ℕ) (d : A) → Sized size blocks → w < length blocks → i < size
      → get_or (flatten blocks) (w * size + i) d ≡ get_or (get_or blocks w []) i d
  unfolding flatten
  joined_at [] w i d h k l = absurd (not-suc-le-zero k)
  joined_at (b ∷ blocks) zero i d h k l =
      ap (λ (j : ℕ). get_or (b ++ flatten blocks) j d) (let e : 0 * size + i ≡ i = omega (arith, zero-mul size) in e)
      ∙ get_or-append b (flatten blocks) d i (omega (arith, h.0))
  joined_at (b ∷ blocks) (suc w) i d h k l =
      ap (λ (j : ℕ). get_or (b ++ flatten blocks) j d) (let e : suc w * size + i ≡ length b + (w * size + i) = omega (arith, suc-mul w size, h.0) in e)
      ∙ get_or-append-add b (flatten blocks) (w * size + i) d
      ∙ joined_at blocks w i d h.1 (le_of_suc-le-suc k) l

  -- a write at place i of block w is a write in the table
  pub joined_set : (blocks : List (List A)) (w i : ℕ) (x : A) → Sized size blocks → w < length blocks → i < size
      → flatten (set blocks w (set (get_or blocks w []) i x)) ≡ set (flatten blocks) (w * size + i) x
  unfolding flatten
  joined_set [] w i x h k l = absurd (not-suc-le-zero k)
  joined_set (b ∷ blocks) zero i x h k l =
      sym (set-append_left b (flatten blocks) i x (omega (arith, h.0)))
      ∙ ap (λ (j : ℕ). set (b ++ flatten blocks) j x) (let e : i ≡ 0 * size + i = omega (arith, zero-mul size) in e)
  joined_set (b ∷ blocks) (suc w) i x h k l =
      ap (λ t. b ++ t) (joined_set blocks w i x h.1 (le_of_suc-le-suc k) l)
      ∙ sym (set_append_add b (flatten blocks) (w * size + i) x)
      ∙ ap (λ (j : ℕ). set (b ++ flatten blocks) j x) (let e : length b + (w * size + i) ≡ suc w * size + i = omega (arith, suc-mul w size, h.0) in e)

  -- block w is written whole
  pub joined_block : (blocks : List (List A)) (w : ℕ) (b : List A) → Sized size blocks → w < length blocks
      → flatten (set blocks w b) ≡ take (w * size) (flatten blocks) ++ (b ++ drop size (drop (w * size) (flatten blocks)))
  unfolding flatten
  joined_block [] w b h k = absurd (not-suc-le-zero k)
  joined_block (a ∷ blocks) zero b h k =
      rw zero-mul (ap (λ t. b ++ t) (sym (drop_at a (flatten blocks) size h.0)))
  joined_block (a ∷ blocks) (suc w) b h k =
      let e : suc w * size ≡ length a + w * size = omega (arith, suc-mul w size, h.0) in
      rw (e, take-append-add, drop-append-add)
      (ap (λ t. a ++ t) (joined_block blocks w b h.1 (le_of_suc-le-suc k)) ∙ sym (append_assoc a _ _))

-- whatever lies behind the blocks
pub cut_joined_before : (size : ℕ) (blocks : List (List ℕ)) (rest : List ℕ) → Sized size blocks → cut (length blocks) size (flatten blocks ++ rest) ≡ blocks
unfolding cut flatten
cut_joined_before size [] rest h = refl
cut_joined_before size (b ∷ blocks) rest h =
    rw append_assoc
    (λ j.
    take_at b (flatten blocks ++ rest) size h.0 j
    ∷ (ap (cut (length blocks) size) (drop_at b (flatten blocks ++ rest) size h.0) ∙ cut_joined_before size blocks rest h.1) j)

pub cut_joined : (size : ℕ) (blocks : List (List ℕ)) → Sized size blocks → cut (length blocks) size (flatten blocks) ≡ blocks
cut_joined size blocks h = ap (cut (length blocks) size) (sym (append-nil (flatten blocks))) ∙ cut_joined_before size blocks [] h
