-- "prints for each closed cycle: `cycle`, its ordinal from 1, `taken` and the entries moved into the history, `freed` and the records freed, `net` and the sum of all
-- counts at the close less that sum at the opening" (document 02, request 7).
--     cycle_word, taken_word, freed_word, net_word     the words
--     net_decimal              a number that may be below nought
--     cycle_text               the line of a cycle
--     cycles_text, Printable   the lines of some cycles, whose numbers stand in a list, three for each
-- Assumes nothing.
use Rattle.std.specs.Prelude.{ℕ, suc, ◌≤◌, List, [], ◌∷◌, ◌++◌, T, ℤ, pos, negsuc, nat_abs}
use Rattle.std.specs.Int.Signed.{mag, non_neg}
use Rattle.text.specs.Text.{decimal, newline}

-- `cycle` and a space
abbrev pub cycle_word : List ℕ
cycle_word = 99 ∷ 121 ∷ 99 ∷ 108 ∷ 101 ∷ 32 ∷ []

-- `taken` between two spaces
abbrev pub taken_word : List ℕ
taken_word = 32 ∷ 116 ∷ 97 ∷ 107 ∷ 101 ∷ 110 ∷ 32 ∷ []

-- `freed` between two spaces
abbrev pub freed_word : List ℕ
freed_word = 32 ∷ 102 ∷ 114 ∷ 101 ∷ 101 ∷ 100 ∷ 32 ∷ []

-- `net` between two spaces
abbrev pub net_word : List ℕ
net_word = 32 ∷ 110 ∷ 101 ∷ 116 ∷ 32 ∷ []

-- "may be below nought, and prints with a minus sign"
unfoldable pub net_decimal : ℤ → List ℕ
net_decimal (pos n) = decimal n
net_decimal (negsuc n) = 45 ∷ decimal (suc n)

unfoldable pub cycle_text : (ordinal taken freed : ℕ) → ℤ → List ℕ
cycle_text ordinal taken freed net =
    (cycle_word ++ decimal ordinal) ++ (taken_word ++ decimal taken) ++ (freed_word ++ decimal freed) ++ net_word ++ net_decimal net ++ newline

-- behind so many cycles
unfoldable pub cycles_text : ℕ → List ℤ → List ℕ
cycles_text before [] = []
cycles_text before (taken ∷ []) = []
cycles_text before (taken ∷ freed ∷ []) = []
cycles_text before (taken ∷ freed ∷ net ∷ numbers) = cycle_text (suc before) (nat_abs taken) (nat_abs freed) net ++ cycles_text (suc before) numbers

-- the first two of a cycle's numbers are not below nought, and the third has 32 bits, with either sign
abbrev pub Printable : List ℤ → Type 0
Printable [] = Unit
Printable (taken ∷ []) = Unit
Printable (taken ∷ freed ∷ []) = Unit
Printable (taken ∷ freed ∷ net ∷ numbers) = T (non_neg taken) × T (non_neg freed) × (mag net ≤ 2147483646) × Printable numbers
