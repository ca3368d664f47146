-- How many records are free, from words of used marks.
-- Assumes nothing.
use Rattle.std.specs.Prelude.{ℕ, ◌-◌, List}
use Rattle.tables.specs.Bits.{bits_of, ones_of}

-- "the number of free records comes from the number of ones" (document 02, request 9): of n records, whatever words these are; 0 where there are more ones
abbrev pub free_in : ℕ → List ℕ → ℕ
free_in n words = n - ones_of (bits_of words)
