-- How many records are free, from the number of ones.
--     free_and_used      those that are free and those that are used are all
--     free_marks_lem     n less the ones, of words whose unused bits are 0
-- Assumes nothing.
use Prim.Native.Nat.{ℕ, ◌+◌}
use mathlib.Core.Path.{◌≡◌, refl, sym, ap, ◌∙◌}
use mathlib.Core.Bool.{Bool, true, false}
use mathlib.Core.List.{List, [], ◌∷◌}
use native.Mathlib.Omega.{arith}
use lib.ListN.{length, drop, take-append-drop}
use Rattle.rules.specs.Outcome.{free_marks}
use Rattle.rules.specs.Sound.{Each}
use Rattle.tables.specs.Bits.{bits_of, word_count, marks_in, ones_of, Packed}
use Rattle.tables.proofs.Packed.{length-marks_in}
use Rattle.tables.proofs.Searched.{ones_append}
use Rattle.fresh.specs.Free.{free_in}

pub free_and_used : (xs : List Bool) → free_marks xs + ones_of xs ≡ length xs
unfolding free_marks ones_of
free_and_used [] = refl
free_and_used (true ∷ xs) = omega (arith, free_and_used xs)
free_and_used (false ∷ xs) = omega (arith, free_and_used xs)

none_on : (xs : List Bool) → Each (λ b. b ≡ false) xs → ones_of xs ≡ 0
unfolding ones_of
none_on [] off = refl
none_on (true ∷ xs) off = absurd (omega (arith, ap number off.0))
  where
    number : Bool → ℕ
    number true = 1
    number false = 0
none_on (false ∷ xs) off = omega (arith, none_on xs off.1)

pub free_marks_lem : (n : ℕ) (words : List ℕ) → length words ≡ word_count n → Packed n words → free_in n words ≡ free_marks (marks_in n words)
free_marks_lem n words exact packed =
    omega (
      arith,
      ap ones_of (sym (take-append-drop n (bits_of words))) ∙ ones_append (marks_in n words) (drop n (bits_of words)),
      none_on (drop n (bits_of words)) packed.unused,
      free_and_used (marks_in n words),
      length-marks_in n words exact,
    )
