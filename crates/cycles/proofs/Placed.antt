-- Cycles put into a caller's slice, one after another.
--     put-none                         no cycle more
--     put_append                       some, and then others
--     long_put                         the slice keeps its length
--     put_here, put_past, puts_none    one cycle that there is room for, one that there is none for, and no cycle
-- Assumes nothing.
use Prim.Native.Nat.{ℕ, zero, suc, ◌+◌, ◌*◌, ◌/◌, ◌≤◌, ◌<◌}
use mathlib.Core.Path.{◌≡◌, refl, sym, ap, ◌∙◌}
use mathlib.Core.List.{List, [], ◌∷◌, ◌++◌}
use native.Mathlib.Omega.{arith}
use native.Mathlib.Nat.{add-zero}
use lib.IntN.{ℤ, pos}
use lib.ListN.{length}
use borrow.Rule.Slice.PartMut.{put_mid}
use Rattle.cycles.specs.declared.Cycle.{Cycle}
use Rattle.cycles.specs.Slice.{put_cycles, put_from, Puts}

pub put-none : (i : ℕ) (room : List ℤ) → put_from i room [] ≡ room
unfolding put_from put_cycles
put-none zero room = refl
put-none (suc i) [] = refl
put-none (suc i) (x ∷ []) = refl
put-none (suc i) (x ∷ y ∷ []) = refl
put-none (suc i) (x ∷ y ∷ z ∷ room) = ap (λ (xs : List ℤ). x ∷ y ∷ z ∷ xs) (put-none i room)

-- the first of some, and then the others
put_first : (i : ℕ) (room : List ℤ) (c : Cycle) (cycles : List Cycle) → put_from i room (c ∷ cycles) ≡ put_from (suc i) (put_from i room (c ∷ [])) cycles
unfolding put_from put_cycles
put_first zero [] c cycles = refl
put_first zero (x ∷ []) c cycles = refl
put_first zero (x ∷ y ∷ []) c cycles = refl
put_first zero (x ∷ y ∷ z ∷ room) c cycles = refl
put_first (suc i) [] c cycles = refl
put_first (suc i) (x ∷ []) c cycles = refl
put_first (suc i) (x ∷ y ∷ []) c cycles = refl
put_first (suc i) (x ∷ y ∷ z ∷ room) c cycles = ap (λ (xs : List ℤ). x ∷ y ∷ z ∷ xs) (put_first i room c cycles)

pub put_append : (i : ℕ) (room : List ℤ) (first second : List Cycle) → put_from i room (first ++ second) ≡ put_from (i + length first) (put_from i room first) second
put_append i room [] second = rw (add-zero i, put-none i room)
put_append i room (c ∷ first) second =
    let count : suc i + length first ≡ i + suc (length first) = omega arith in
    put_first i room c (first ++ second)
    ∙ put_append (suc i) (put_from i room (c ∷ [])) first second
    ∙ (λ j. put_from (count j) (sym (put_first i room c first) j) second)

pub long_put : (i : ℕ) (room : List ℤ) (cycles : List Cycle) → length (put_from i room cycles) ≡ length room
unfolding put_from put_cycles
long_put zero room [] = refl
long_put zero [] (c ∷ cycles) = refl
long_put zero (x ∷ []) (c ∷ cycles) = refl
long_put zero (x ∷ y ∷ []) (c ∷ cycles) = refl
long_put zero (x ∷ y ∷ z ∷ room) (c ∷ cycles) = ap (λ (n : ℕ). suc (suc (suc n))) (long_put zero room cycles)
long_put (suc i) [] cycles = refl
long_put (suc i) (x ∷ []) cycles = refl
long_put (suc i) (x ∷ y ∷ []) cycles = refl
long_put (suc i) (x ∷ y ∷ z ∷ room) cycles = ap (λ (n : ℕ). suc (suc (suc n))) (long_put i room cycles)

-- the place of a cycle
thrice : ℕ → ℕ
thrice zero = zero
thrice (suc i) = suc (suc (suc (thrice i)))

thrice_is : (i : ℕ) → thrice i ≡ i * 3
unfolding thrice
thrice_is zero = refl
thrice_is (suc i) = omega (arith, thrice_is i)

has_room : (i : ℕ) (room : List ℤ) (c : Cycle) → suc (suc (thrice i)) < length room
    → put_mid (thrice i) 3 room (pos c.taken ∷ pos c.freed ∷ c.net ∷ []) ≡ put_from i room (c ∷ [])
unfolding put_from put_cycles thrice
has_room zero [] c here = absurd (omega arith)
has_room zero (x ∷ []) c here = absurd (omega arith)
has_room zero (x ∷ y ∷ []) c here = absurd (omega arith)
has_room zero (x ∷ y ∷ z ∷ room) c here = refl
has_room (suc i) [] c here = absurd (omega arith)
has_room (suc i) (x ∷ []) c here = absurd (omega arith)
has_room (suc i) (x ∷ y ∷ []) c here = absurd (omega arith)
has_room (suc i) (x ∷ y ∷ z ∷ room) c here = ap (λ (xs : List ℤ). x ∷ y ∷ z ∷ xs) (has_room i room c (omega arith))

no_room : (i : ℕ) (room : List ℤ) (c : Cycle) → length room ≤ i * 3 + 2 → room ≡ put_from i room (c ∷ [])
unfolding put_from put_cycles
no_room zero [] c past = refl
no_room zero (x ∷ []) c past = refl
no_room zero (x ∷ y ∷ []) c past = refl
no_room zero (x ∷ y ∷ z ∷ room) c past = absurd (omega arith)
no_room (suc i) [] c past = refl
no_room (suc i) (x ∷ []) c past = refl
no_room (suc i) (x ∷ y ∷ []) c past = refl
no_room (suc i) (x ∷ y ∷ z ∷ room) c past = ap (λ (xs : List ℤ). x ∷ y ∷ z ∷ xs) (no_room i room c (omega arith))

-- there is room for one cycle more, or there is none
pub put_here : (i : ℕ) {k : ℕ} (room : List ℤ) (c : Cycle) → k ≡ 3 → i < length room / 3 → Puts i room (c ∷ []) (i + 1) (put_mid (i * 3) k room (pos c.taken ∷ pos c.freed ∷ c.net ∷ []))
put_here i room c size here =
    record {
      count = refl;
      numbers =
          (λ j. put_mid (sym (thrice_is i) j) (size j) room (pos c.taken ∷ pos c.freed ∷ c.net ∷ []))
          ∙ has_room i room c (omega (arith, thrice_is i));
    }

pub put_past : (i : ℕ) (room : List ℤ) (c : Cycle) → length room / 3 ≤ i → Puts i room (c ∷ []) (i + 1) room
put_past i room c past = record { count = refl; numbers = no_room i room c (omega arith) }

pub puts_none : (i : ℕ) (room : List ℤ) → Puts i room [] i room
puts_none i room = record { count = sym (add-zero i); numbers = sym (put-none i room) }
