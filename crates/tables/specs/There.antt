-- A record number as an option, whose number 0 is none.
--     record_there     the record, where the number is one's
-- Assumes nothing.
use Rattle.std.specs.Prelude.{cond, eqb, Option, Some, None}
use Rattle.rules.specs.declared.RecordNumber.{RecordNumber}

abbrev pub record_there : RecordNumber → Option RecordNumber
record_there a = cond (eqb a.0 0) None (Some a)
