-- How a trace stands behind some events, of which a part has been read.
--     waits                 a field may not have been read whole
--     stood, stand_behind   what comes behind the events: the end and nothing more, or a refusal; or more has to be read
--     ending_of             how a trace ends that stands so behind its last byte
-- Assumes nothing.
use Rattle.std.specs.Prelude.{ℕ, zero, suc, ◌+◌, Bool, cond, not, ◌&&◌, List, ltb, length, Option, Some, None, Ok, Err}
use Rattle.rules.specs.declared.Refusal.TheVariants.{WrongTag, StopsShort}
use Rattle.fields.specs.declared.Reader.{Reader}
use Rattle.fields.specs.declared.Field.TheVariants as field
use Rattle.fields.specs.Field.{refused_at, read_at}
use Rattle.fields.specs.Part.{longest}
use Rattle.trace.specs.declared.Stood.{Stood}
use Rattle.trace.specs.Replay.{Ending, ended_whole}

-- a field has at most 13 bytes; behind the last byte of the trace nothing is waited for
unfoldable pub waits : Bool → List ℕ → ℕ → Bool
waits last bytes place = not last && ltb (length bytes) (place + longest)

abbrev pub ended : Ending → ℕ → Reader → Stood
ended ending place reader = record { stand = Some ending; next = place; reader = reader }

-- so many fields at most; a sizes field or an event does not come behind the events
unfoldable pub stood : ℕ → Bool → ℕ → ℕ → List ℕ → ℕ → Reader → Stood
stood zero last free closed bytes place reader = ended (refused_at WrongTag place) place reader
stood (suc fields) last free closed bytes place reader =
    cond (waits last bytes place)
    (record { stand = None; next = place; reader = reader })
    (elim (read_at bytes place reader) [
      | Err e ↦ ended (Err e) place reader
      | Ok x ↦ elim x.field [
        | field.Sizes s ↦ ended (refused_at WrongTag place) place reader
        | field.Event n e ↦ ended (refused_at WrongTag place) place reader
        | field.End ↦ stood fields last free closed bytes x.next x.reader
        | field.Nothing ↦ ended (ended_whole free closed) place reader
      ]
    ])

-- the end field, and what comes behind it
abbrev pub stand_behind : Bool → ℕ → ℕ → List ℕ → ℕ → Reader → Stood
stand_behind = stood 2

-- behind the last byte of a trace nothing is waited for: a trace that waited there would stop short
abbrev pub ending_of : Option Ending → ℕ → Ending
ending_of None place = refused_at StopsShort place
ending_of (Some ending) place = ending
