-- Marks and numbers, in tables and in a pool.
--     on_bit, bit_on                     a mark kept so, there and back
--     marks-bits, bits-marks, bits-low   the marks of a table, there and back
--     named_numbers, numbers_named       record numbers, there and back
-- Assumes nothing.
use Prim.Native.Nat.{ℕ, zero, suc, ◌≤◌}
use mathlib.Core.Path.{◌≡◌, refl, ap}
use mathlib.Core.Bool.{Bool, true, false}
use mathlib.Core.List.{List, [], ◌∷◌}
use native.Mathlib.Omega.{arith}
use Rattle.rules.specs.declared.RecordNumber.{RecordNumber}
use Rattle.rules.specs.View.{bit}
use Rattle.rules.specs.Sound.{Each}
use Rattle.tables.specs.Lie.{is_on, marks, bits, record_numbers, numbers}

pub on_bit : (b : Bool) → is_on (bit b) ≡ b
on_bit true = refl
on_bit false = refl

pub bit_on : (x : ℕ) → x ≤ 1 → bit (is_on x) ≡ x
bit_on zero h = refl
bit_on (suc zero) h = refl
bit_on (suc (suc x)) h = absurd (omega arith)

pub marks-bits : (on : List Bool) → marks (bits on) ≡ on
marks-bits [] = refl
marks-bits (b ∷ on) = λ j. on_bit b j ∷ marks-bits on j

pub bits-marks : (xs : List ℕ) → Each (λ x. x ≤ 1) xs → bits (marks xs) ≡ xs
bits-marks [] h = refl
bits-marks (x ∷ xs) h = λ j. bit_on x h.0 j ∷ bits-marks xs h.1 j

pub bits-low : (on : List Bool) → Each (λ x. x ≤ 1) (bits on)
bits-low [] = tt
bits-low (true ∷ on) = (omega arith, bits-low on)
bits-low (false ∷ on) = (omega arith, bits-low on)

pub named_numbers : (names : List RecordNumber) → record_numbers (numbers names) ≡ names
named_numbers [] = refl
named_numbers (a ∷ names) = ap (λ t. a ∷ t) (named_numbers names)

pub numbers_named : (xs : List ℕ) → numbers (record_numbers xs) ≡ xs
numbers_named [] = refl
numbers_named (x ∷ xs) = ap (λ t. x ∷ t) (numbers_named xs)
