-- A count that falls or rises, and the candidate mark at 0, in their tables.
--     fewer, fallen     a count falls
--     more              a count rises
-- Assumes nothing.
use Rattle.std.specs.Prelude.{ℕ, ◌+◌, ◌-◌, true, cond, List, eqb}
use Rattle.rules.specs.Pool.{of_record, with_record}
use Rattle.tables.specs.Bits.{mark_record}

-- "the count .. falls by 1"
unfoldable pub fewer : ℕ → List ℕ → List ℕ
fewer a counts = with_record counts a (of_record counts a 0 - 1)

-- "and at 0 it becomes a candidate"
unfoldable pub fallen : ℕ → List ℕ → List ℕ → List ℕ
fallen a counts candidates = cond (eqb (of_record counts a 0 - 1) 0) (mark_record candidates a true) candidates

-- "the count .. rises by 1"
unfoldable pub more : ℕ → List ℕ → List ℕ
more a counts = with_record counts a (of_record counts a 0 + 1)
