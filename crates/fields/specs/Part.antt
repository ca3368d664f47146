-- A trace that is read part by part.
--     longest       no field is longer
--     moved         what was read in a part, as it stands in the whole trace
--     is_taken      a field that is taken
-- Assumes nothing.
use Rattle.std.specs.Prelude.{ℕ, ◌+◌, Bool, true, false, Result, Ok, Err}
use Rattle.fields.specs.declared.Field.{Field}
use Rattle.fields.specs.declared.Field.TheVariants.{Sizes, Event, End, Nothing}
use Rattle.fields.specs.declared.Read.{Read}
use Rattle.fields.specs.declared.RefusedAt.{RefusedAt}

-- tag and length, and a payload of 10 bytes at most
abbrev pub longest : ℕ
longest = 13

-- what was read in a part, with so many bytes before the part: the places in it are counted from the start of the trace
unfoldable pub moved : ℕ → Result Read RefusedAt → Result Read RefusedAt
moved before (Ok x) = Ok (record { field = x.field; next = before + x.next; reader = x.reader })
moved before (Err r) = Err (record { why = r.why; place = before + r.place })

-- the sizes, an event or the end
abbrev pub is_taken : Field → Bool
is_taken (Sizes s) = true
is_taken (Event step e) = true
is_taken End = true
is_taken Nothing = false
