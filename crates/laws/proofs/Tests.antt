-- Laws on tests and on marks as numbers.
--     eqb_cases              a test of two numbers, and what it tells
--     below_or_not           a number is below another, or it is not
--     never                  a test does not pass and fail
--     and_left, and_right, and_both, or_left     two tests in one
--     bit_most, bit_on, bit_off         a mark as a number
-- Assumes nothing.
use Prim.Native.Nat.{ℕ, ◌≤◌, ◌<◌}
use mathlib.Core.Path.{◌≡◌, refl, sym}
use mathlib.Core.Logic.{◌⊎◌, inl, inr}
use mathlib.Core.Bool.{Bool, true, false, ◌&&◌, ◌||◌, true≢false}
use native.Mathlib.Omega.{arith}
use native.Mathlib.Decide.{ℕ_discrete, dec_lt}
use borrow.Author.Tests.{eq-eqb, ne_eqb}
use lib.Dec.{eqb}
use Rattle.rules.specs.View.{bit}

pub eqb_cases : (m n : ℕ) → ((m ≡ n) × (eqb m n ≡ true)) ⊎ ((m ≡ n → ⊥) × (eqb m n ≡ false))
eqb_cases m n = from (ℕ_discrete m n)
  where
    from : Dec (m ≡ n) → ((m ≡ n) × (eqb m n ≡ true)) ⊎ ((m ≡ n → ⊥) × (eqb m n ≡ false))
    from (yes e) = inl (e, eq-eqb m n e)
    from (no d) = inr (d, ne_eqb m n d)

pub below_or_not : (m n : ℕ) → (m < n) ⊎ (n ≤ m)
below_or_not m n = from (dec_lt m n)
  where
    from : Dec (m < n) → (m < n) ⊎ (n ≤ m)
    from (yes h) = inl h
    from (no h) = inr (omega arith)

pub never : false ≡ true → ⊥
never h = true≢false (sym h)

pub and_left : (a b : Bool) → (a && b) ≡ true → a ≡ true
and_left true b h = refl
and_left false b h = h

pub and_right : (a b : Bool) → (a && b) ≡ true → b ≡ true
and_right true b h = h
and_right false b h = absurd (never h)

pub or_left : (a b : Bool) → (a || b) ≡ false → a ≡ false
or_left true b h = h
or_left false b h = refl

pub bit_most : (b : Bool) → bit b ≤ 1
bit_most true = omega arith
bit_most false = omega arith

pub bit_on : (b : Bool) → 0 < bit b → b ≡ true
bit_on true h = refl
bit_on false h = absurd (omega arith)

pub bit_off : (b : Bool) → bit b ≡ 0 → b ≡ false
bit_off true h = absurd (omega arith)
bit_off false h = refl

pub and_both : (a b : Bool) → a ≡ true → b ≡ true → (a && b) ≡ true
and_both true b x y = y
and_both false b x y = x
