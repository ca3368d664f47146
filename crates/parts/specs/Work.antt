-- The events of a part of a trace, and the pool that they are done on.
--     Work, no_work                       some events from a pool, and none before there is a pool
--     rest_work, first_work, part_work    those of a part, as `rest_taken`, `first_taken` and `part_taken` of Part.antt take it
--     work_told                           what somebody has been told of them
-- Assumes nothing.
use Rattle.std.specs.Prelude.{ℕ, Bool, cond, List, [], Ok, Err}
use Rattle.rules.specs.declared.Sizes.{Sizes}
use Rattle.rules.specs.declared.Event.{Event}
use Rattle.rules.specs.Pool.{Pool, fresh}
use Rattle.fields.specs.declared.Stage.TheVariants.{First, Events, Ended}
use Rattle.fields.specs.declared.Reader.{Reader}
use Rattle.fields.specs.declared.Field.TheVariants as field
use Rattle.fields.specs.Field.{read_at}
use Rattle.trace.specs.Replay.{Left, untouched, stands}
use Rattle.trace.specs.Stretch.{stretch}
use Rattle.trace.specs.Stand.{waits}
use Rattle.trace.specs.Told.{Telling, told_by}

pub record Work : Type 0 where
  pub pool : Left
  pub events : List Event

abbrev pub no_work : Work
no_work = record { pool = untouched; events = [] }

-- behind the sizes field, from a place on; behind the end field there are none
unfoldable pub rest_work : List ℕ → ℕ → Reader → Sizes → Pool → Work
rest_work bytes place reader s p =
    let events : List Event = (stretch bytes place reader.step).events in
    record { pool = stands s p; events = elim reader.stage [ First ↦ events | Events ↦ events | Ended ↦ [] ] }

-- the first field
unfoldable pub first_work : (Sizes → Bool) → Bool → List ℕ → Reader → Work
first_work takes last bytes reader =
    cond (waits last bytes 0) no_work
    (elim (read_at bytes 0 reader) [
      | Err e ↦ no_work
      | Ok x ↦ elim x.field [
        | field.Sizes s ↦ cond (takes s) (rest_work bytes x.next x.reader s (fresh s)) no_work
        | field.Event n e ↦ no_work
        | field.End ↦ no_work
        | field.Nothing ↦ no_work
      ]
    ])

unfoldable pub part_work : (Sizes → Bool) → Bool → List ℕ → Reader → Left → Work
part_work takes last bytes reader untouched = first_work takes last bytes reader
part_work takes last bytes reader (stands s p) = rest_work bytes 0 reader s p

-- one event after another; before there is a pool there are none
unfoldable pub work_told : {X : Type 0} → Telling X → Work → X → X
work_told tell w x = elim w.pool [ untouched ↦ x | stands s p ↦ told_by tell s p x w.events ]
