-- The lines that are printed.
--     two_most, line_most     how long two numbers are at most, and the line of an event
--     number_is, value_is, next_line     the next of the events that are left, and its line
--     no_line                 none is left
-- Assumes nothing.
use Prim.Native.Nat.{ℕ, suc, ◌+◌, ◌*◌, ◌/◌, ◌^◌, ◌≤◌, ◌<◌}
use mathlib.Core.Path.{◌≡◌, sym, ap, ◌∙◌}
use mathlib.Core.List.{List, [], ◌++◌}
use native.Mathlib.Omega.{arith}
use native.Mathlib.Nat.{add-zero}
use native.Mathlib.Numerals.{towards_suc}
use lib.ListN.{length, get_or, drop, length-append, drop_of_length-le}
use lib.Seq.{drop-cons}
use Rattle.std.specs.Simd.{first_chunks}
use Rattle.text.specs.Text.{two_text, line_text, lines_text}
use Rattle.text.proofs.Chunks.{chunk_at}
use Rattle.text.proofs.Digits.{decimal_20, decimal_most}

pub two_most : (a b : ℕ) → length (two_text a b) ≤ 42
unfolding two_text
two_most a b = simp length-append (omega (arith, decimal_20 a, decimal_20 b))

pub line_most : (step number value : ℕ) → step < 2 ^ 32 → number < 2 ^ 16 → value < 2 ^ 16 → length (line_text step number value) ≤ 23
unfolding line_text two_text
line_most step number value s n v =
    simp length-append (omega (arith, decimal_most 10 step (omega arith) (omega arith) (omega arith), decimal_most 5 number (omega arith) (omega arith) (omega arith), decimal_most 5 value (omega arith) (omega arith) (omega arith)))

module _ (step : ℕ) (answers : List ℕ) (i : ℕ) where
  next_two : i + 1 < length answers
      → lines_text step (drop i answers) ≡ line_text (step + 1) (get_or answers i 0) (get_or answers (i + 1) 0) ++ lines_text (step + 1) (drop (i + 2) answers)
  unfolding lines_text
  next_two h = simp towards_suc (rw (drop-cons answers i 0 (omega arith), drop-cons answers (suc i) 0 (omega arith)))

  pub no_line : length answers ≤ i → lines_text step (drop i answers) ≡ []
  unfolding lines_text
  no_line h = rw (drop_of_length-le answers h)

-- a turn: the numbers of the next event, and its line
module _ (answers : List ℕ) (pairs : List (List ℕ)) (i : ℕ) (are : pairs ≡ first_chunks 2 (length answers / 2) answers) (here : i < length answers / 2) where
  abbrev pub number_at : ℕ
  number_at = get_or (get_or pairs i []) 0 0

  abbrev pub value_at : ℕ
  value_at = get_or (get_or pairs i []) 1 0

  pub number_is : number_at ≡ get_or answers (i * 2) 0
  number_is = ap (λ (ps : List (List ℕ)). get_or (get_or ps i []) 0 0) are ∙ chunk_at 2 _ answers i 0 0 here (omega arith) ∙ ap (λ (m : ℕ). get_or answers m 0) (add-zero (i * 2))

  pub value_is : value_at ≡ get_or answers (i * 2 + 1) 0
  value_is = ap (λ (ps : List (List ℕ)). get_or (get_or ps i []) 1 0) are ∙ chunk_at 2 _ answers i 1 0 here (omega arith)

  pub next_line : (step : ℕ) → lines_text step (drop (i * 2) answers) ≡ line_text (step + 1) number_at value_at ++ lines_text (step + 1) (drop ((i + 1) * 2) answers)
  next_line step =
      let more : i * 2 + 2 ≡ (i + 1) * 2 = omega arith in
      next_two step answers (i * 2) (omega arith)
      ∙ (λ j. line_text (step + 1) (sym number_is j) (sym value_is j) ++ lines_text (step + 1) (drop (more j) answers))
