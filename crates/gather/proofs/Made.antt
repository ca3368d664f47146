-- The makers of the records of which a worker is maker, in their table.
--     mapped_next                a table that is changed in place, one place more
--     below_next, below_all      the table, of which the places below one are done: one place more, and all
-- Assumes nothing.
use Prim.Native.Nat.{ℕ, zero, suc, ◌+◌, ◌*◌, ◌≤◌, ◌<◌}
use mathlib.Core.Path.{◌≡◌, refl, ap, ◌∙◌}
use mathlib.Core.Bool.{Bool, true, false, cond, not}
use mathlib.Core.List.{List, [], ◌∷◌, ◌++◌, map, append-nil}
use native.Mathlib.Nat.{le_of_suc-le-suc, not-suc-le-zero}
use native.Mathlib.Numerals.{add-one}
use native.Mathlib.Omega.{arith}
use mir.Val.{bool_byte}
use lib.Dec.{eqb}
use lib.ListN.{length, get_or, take, drop, set, drop_of_length-le}
use lib.Seq.{take_all}
use Rattle.gather.specs.Raw.{unmade}

-- ---- a table changed in place, from the front

-- as a map does
mapped_next : (f : ℕ → ℕ) (xs : List ℕ) (i : ℕ) → i < length xs
    → let ys : List ℕ = set xs i (f (get_or xs i 0)) in
    take (suc i) ys ++ map f (drop (suc i) ys) ≡ take i xs ++ map f (drop i xs)
mapped_next f [] i h = absurd (not-suc-le-zero h)
mapped_next f (x ∷ xs) zero h = refl
mapped_next f (x ∷ xs) (suc i) h = ap (λ t. x ∷ t) (mapped_next f xs i (le_of_suc-le-suc h))

-- ---- one place, without a case: what is multiplied by 0 is gone, and what is multiplied by 1 stays

cleared : (own : Bool) (m : ℕ) → m * bool_byte (not own) ≡ cond own 0 m
cleared true m = omega arith
cleared false m = omega arith

-- ---- the places below one are done

pub below_next : (w : ℕ) (ms : List ℕ) (i r : ℕ) → i < length ms → r ≡ bool_byte (not (eqb (get_or ms i 0) (w + 1)))
    → let next : List ℕ = set ms i (get_or ms i 0 * r) in take (i + 1) next ++ unmade w (drop (i + 1) next) ≡ take i ms ++ unmade w (drop i ms)
unfolding unmade
below_next w ms i r h e =
    rw (e, cleared (eqb (get_or ms i 0) (w + 1)) (get_or ms i 0), add-one i) (mapped_next (λ m. cond (eqb m (w + 1)) 0 m) ms i h)

pub below_all : (w : ℕ) (ms : List ℕ) (i : ℕ) → length ms ≤ i → take i ms ++ unmade w (drop i ms) ≡ ms
unfolding unmade
below_all w ms i h = ap (λ (rest : List ℕ). take i ms ++ unmade w rest) (drop_of_length-le ms h) ∙ append-nil _ ∙ take_all i ms h
