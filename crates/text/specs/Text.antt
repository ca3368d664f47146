-- "It prints one line for each event: step, answer number, value. After a whole trace it prints `end`, how many records are free, the closed-cycle number; after a
-- refusal `refused`, the number, the offset" ("The trace file" of document 01). A text is a list of bytes, in ASCII.
--     decimal                            a number in decimal digits
--     space, newline, end_word, refused_word     what stands between and before the numbers
--     two_text                            two numbers up to the end of a line
--     line_text, end_text, refused_text     a line for an event, and the two last lines
--     lines_text, EventsBehind            the lines of some events, whose numbers and values stand in a list
--     Written, StartsWith                a text in a buffer
-- Assumes nothing.
use Rattle.std.specs.Prelude.{ℕ, zero, suc, ◌+◌, ◌*◌, ◌/◌, ◌%◌, ◌≤◌, ◌≡◌, cond, List, [], ◌∷◌, ◌++◌, ltb, length, take}
use Rattle.std.proofs.lemmas.List.Edits.{sets}

-- the digits of a number, the most significant first; so many at most
unfoldable pub digits : ℕ → ℕ → List ℕ
digits zero n = []
digits (suc most) n = cond (ltb n 10) ((48 + n) ∷ []) (digits most (n / 10) ++ ((48 + n % 10) ∷ []))

-- a number of 64 bits has at most 20
abbrev pub decimal : ℕ → List ℕ
decimal n = digits 20 n

abbrev pub space : List ℕ
space = 32 ∷ []

abbrev pub newline : List ℕ
newline = 10 ∷ []

-- `end` and a space
abbrev pub end_word : List ℕ
end_word = 101 ∷ 110 ∷ 100 ∷ 32 ∷ []

-- `refused` and a space
abbrev pub refused_word : List ℕ
refused_word = 114 ∷ 101 ∷ 102 ∷ 117 ∷ 115 ∷ 101 ∷ 100 ∷ 32 ∷ []

-- every line ends with two numbers
unfoldable pub two_text : ℕ → ℕ → List ℕ
two_text a b = decimal a ++ space ++ decimal b ++ newline

-- "step, answer number, value"
unfoldable pub line_text : ℕ → ℕ → ℕ → List ℕ
line_text step number value = decimal step ++ space ++ two_text number value

-- "`end`, how many records are free, the closed-cycle number"
unfoldable pub end_text : ℕ → ℕ → List ℕ
end_text free closed = end_word ++ two_text free closed

-- "`refused`, the number, the offset"
unfoldable pub refused_text : ℕ → ℕ → List ℕ
refused_text number place = refused_word ++ two_text number place

-- the lines of the events behind a step, whose numbers and values stand in turn in a list
unfoldable pub lines_text : ℕ → List ℕ → List ℕ
lines_text step [] = []
lines_text step (number ∷ []) = []
lines_text step (number ∷ value ∷ answers) = line_text (suc step) number value ++ lines_text (suc step) answers

-- so many events, whose last step number still has 32 bits
abbrev pub EventsBehind : ℕ → List ℕ → Type 0
EventsBehind step answers = (n : ℕ) × (length answers ≡ n * 2) × (step + n ≤ 4294967295)

-- a text was written into a buffer, from the place `at` up to the place `end`
pub record Written (before : List ℕ) (at : ℕ) (text : List ℕ) (end : ℕ) (after : List ℕ) : Type 0 where
  pub place : end ≡ at + length text
  pub bytes : after ≡ sets before at text

-- the first `size` bytes of a buffer are a text
pub record StartsWith (buffer : List ℕ) (size : ℕ) (text : List ℕ) : Type 0 where
  pub whole : size ≡ length text
  pub inside : size ≤ length buffer
  pub bytes : take size buffer ≡ text
