-- How many links count for each record, as the check adds it up: four tallies side by side, 2,080 places from one to the next, with link l in tally l % 4. So two
-- links in a row never raise the same number, and their numbers lie no multiple of 4,096 bytes apart: a processor would wait for the one before the other.
--     raised                a number of a tally is one more
--     tallied, tally_of     the tallies after some links, and a record's number in all four
-- Assumes nothing.
use Rattle.std.specs.Prelude.{ℕ, zero, suc, ◌+◌, ◌*◌, ◌%◌, List, get_or, set}

-- the place of the link's value in its tally
abbrev pub tally_place : ℕ → ℕ → ℕ
tally_place l value = l % 4 * 2080 + value % 2048

-- the number at a place is one more
abbrev pub raised : List ℕ → ℕ → List ℕ
raised tally place = set tally place (get_or tally place 0 + 1)

-- of the m lowest links, whose values stand in a list
unfoldable pub tallied : List ℕ → ℕ → List ℕ → List ℕ
tallied values zero tally = tally
tallied values (suc m) tally = raised (tallied values m tally) (tally_place m (get_or values m 0))

abbrev pub tally_of : List ℕ → ℕ → ℕ
tally_of tally a = get_or tally a 0 + get_or tally (2080 + a) 0 + get_or tally (4160 + a) 0 + get_or tally (6240 + a) 0
