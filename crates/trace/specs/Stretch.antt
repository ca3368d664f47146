-- Events that stand one after another in a trace, done on lent tables.
--     Stretch, stretch      the events from a place on, up to the first field that is none
--     lines_behind          their lines
--     put                   their numbers and values, in a caller's slice
--     put_from, put_answer     behind those of so many; those of one answer
--     ran_of, ran_on        what doing them answers and leaves, from a pool and on lent tables
-- Assumes nothing.
use Rattle.std.specs.Prelude.{ℕ, zero, suc, List, [], ◌∷◌, length, Ok, Err}
use Rattle.rules.specs.declared.Sizes.{Sizes}
use Rattle.rules.specs.declared.Event.{Event}
use Rattle.rules.specs.declared.Answer.{Answer}
use Rattle.rules.specs.declared.Collector.{Collector}
use Rattle.rules.specs.Pool.{Pool}
use Rattle.rules.specs.Outcome.{answers, after}
use Rattle.tables.specs.Tables.{Tables}
use Rattle.tables.specs.Lie.{pool_of, tables_of}
use Rattle.fields.specs.declared.Stage.TheVariants.{Events}
use Rattle.fields.specs.declared.Reader.{Reader}
use Rattle.fields.specs.declared.Field.TheVariants as field
use Rattle.fields.specs.Field.{read_at}
use Rattle.trace.specs.declared.Ran.{Ran}
use Rattle.trace.specs.Replay.{Line, line_of}

-- the events, the place behind them, and the last step number
pub record Stretch : Type 0 where
  pub events : List Event
  pub next : ℕ
  pub step : ℕ

abbrev pub no_event : ℕ → ℕ → Stretch
no_event place step = record { events = []; next = place; step = step }

abbrev pub with_event : Event → Stretch → Stretch
with_event e x = record { events = e ∷ x.events; next = x.next; step = x.step }

-- the reader between two events
abbrev pub behind : ℕ → Reader
behind step = record { stage = Events; step = step }

-- so many at most
unfoldable pub stretch_of : ℕ → List ℕ → ℕ → ℕ → Stretch
stretch_of zero bytes place step = no_event place step
stretch_of (suc most) bytes place step =
    elim (read_at bytes place (behind step)) [
      | Err e ↦ no_event place step
      | Ok x ↦ elim x.field [
        | field.Event n e ↦ with_event e (stretch_of most bytes x.next n)
        | field.Sizes s ↦ no_event place step
        | field.End ↦ no_event place step
        | field.Nothing ↦ no_event place step
      ]
    ]

-- an event has more than one byte, so that there are fewer of them than bytes, and one turn more finds that none follows
unfoldable pub stretch : List ℕ → ℕ → ℕ → Stretch
stretch bytes place step = stretch_of (suc (length bytes)) bytes place step

-- the lines of the events behind a step
unfoldable pub lines_behind : ℕ → List Answer → List Line
lines_behind step [] = []
lines_behind step (x ∷ answers) = line_of (suc step) x ∷ lines_behind (suc step) answers

-- numbers and values in turn, as far as there is room
unfoldable pub put : List ℕ → List Line → List ℕ
put room [] = room
put [] (line ∷ lines) = []
put (a ∷ []) (line ∷ lines) = a ∷ []
put (a ∷ b ∷ room) (line ∷ lines) = line.number ∷ line.value ∷ put room lines

-- behind the numbers and values of so many
unfoldable pub put_from : ℕ → List ℕ → List Line → List ℕ
put_from zero room lines = put room lines
put_from (suc i) [] lines = []
put_from (suc i) (a ∷ []) lines = a ∷ []
put_from (suc i) (a ∷ b ∷ room) lines = a ∷ b ∷ put_from i room lines

-- of one answer, whatever its step
abbrev pub put_answer : ℕ → List ℕ → Answer → List ℕ
put_answer i room x = put_from i room (line_of 0 x ∷ [])

-- what doing a stretch answers, and all that it leaves
pub record RanOn : Type 0 where
  pub ran : Ran
  pub tables : Tables
  pub answers : List ℕ

-- from a pool, written out
abbrev pub ran_of : Sizes → Pool → List ℕ → ℕ → ℕ → List ℕ → RanOn
ran_of s p bytes place step room =
    let x : Stretch = stretch bytes place step in
    let q : Pool = after s p x.events in
    record {
      ran = record { next = x.next; step = x.step; events = length x.events; collector = q.collector };
      tables = tables_of s q;
      answers = put room (lines_behind step (answers s p x.events));
    }

unfoldable pub ran_on : Sizes → Tables → Collector → List ℕ → ℕ → ℕ → List ℕ → RanOn
ran_on s t c bytes place step room = ran_of s (pool_of s t c) bytes place step room
