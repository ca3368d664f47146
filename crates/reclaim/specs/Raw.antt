-- What phase 6 reads and writes, in the tables that it is lent.
--     waits        the part of the search's test that looks at the record itself
--     may_wait     the part of it that looks at its marks
-- Assumes nothing.
use Rattle.std.specs.Prelude.{ℕ, Bool, not, ◌&&◌, List, eqb, get_or}
use Rattle.tables.specs.Bits.{mark_at}

-- "used candidate with count 0, not held": the record at this place
unfoldable pub waits : (used counts held candidates : List ℕ) → ℕ → Bool
waits used counts held candidates place =
    mark_at used place && mark_at candidates place && eqb (get_or counts place 0) 0 && not (mark_at held place)

-- "used candidate .. not held", whatever its count
unfoldable pub may_wait : (used held candidates : List ℕ) → ℕ → Bool
may_wait used held candidates place = mark_at used place && mark_at candidates place && not (mark_at held place)
