-- How a part begins: with its events, or with nothing to do.
--     SomeArrays          what lies in the arrays, of which one is at hand
--     GoesOn              the events of a part come first, on the pool at the arrays' beginnings
--     StaysSo             no event is done: a field is waited for, or the trace has ended
--     BegunAs             one of the two
--     whole_part, whole_work     what the part is to answer and leave, and its events
--     TakenSo             the part is taken, whatever is printed for it
-- Assumes nothing.
use Rattle.std.specs.Prelude.{ℕ, ◌≡◌, Bool, List, [], Option}
use Rattle.std.specs.declared.ops.ControlFlow.{ControlFlow}
use Rattle.std.specs.declared.ops.ControlFlow.TheVariants.{Continue, Break}
use Rattle.fields.specs.declared.Stage.TheVariants.{Events}
use Rattle.tables.specs.Tables.{Tables}
use Rattle.tables.specs.Lie.{pool_of}
use Rattle.trace.specs.Replay.{Ending}
use Rattle.parts.specs.declared.Progress.{Progress}
use Rattle.parts.specs.declared.Part.{Part}
use Rattle.parts.specs.Part.{Taken, rest_taken, part_taken}
use Rattle.parts.specs.Work.{Work, rest_work, part_work}
use Rattle.parts.specs.Arrays.{is_small, front, left_in, Holds, Set, Takes}

abbrev pub SomeArrays : Progress → List ℕ → Type 0
SomeArrays x used = (t : Tables) × (t.used ≡ used) × Set x t

-- what the part is to answer and leave
abbrev pub whole_part : Progress → Tables → Bool → List ℕ → Taken
whole_part x t last bytes = part_taken is_small last bytes x.reader (left_in x t)

-- and its events
abbrev pub whole_work : Progress → Tables → Bool → List ℕ → Work
whole_work x t last bytes = part_work is_small last bytes x.reader (left_in x t)

-- the part is taken: how the trace stands behind it, the place of the first byte that is still needed, and what is kept for the next part
abbrev pub TakenSo : Progress → Tables → List ℕ → Bool → Option Ending → ℕ → Progress → Tables → Type 0
TakenSo x t bytes last stand next y after =
    ((whole_part x t last bytes).stood ≡ record { stand = stand; next = next; reader = y.reader }) × (left_in y after ≡ (whole_part x t last bytes).left)

pub record GoesOn (x : Progress) (t : Tables) (last : Bool) (bytes : List ℕ) (y : Progress) (place : ℕ) : Type 0 where
  pub holds : Holds y t
  pub events : y.reader.stage ≡ Events
  pub step : y.reader.step ≡ x.reader.step
  pub same : whole_part x t last bytes ≡ rest_taken last bytes place y.reader y.sizes (pool_of y.sizes (front y.sizes t) y.collector)
  pub work : whole_work x t last bytes ≡ rest_work bytes place y.reader y.sizes (pool_of y.sizes (front y.sizes t) y.collector)

pub record StaysSo (x : Progress) (t : Tables) (last : Bool) (bytes : List ℕ) (part : Part) : Type 0 where
  pub none : part.events ≡ 0
  pub idle : (whole_work x t last bytes).events ≡ []
  pub takes : (room : List ℕ) → Takes (whole_part x t last bytes) x room part t room

-- with the events from a place on, and what is kept of the pool that they are done on; or with what the part answers
abbrev pub BegunAs : Progress → Tables → Bool → List ℕ → ControlFlow Part (Progress × ℕ) → Type 0
BegunAs x t last bytes (Continue from) = GoesOn x t last bytes from.0 from.1
BegunAs x t last bytes (Break part) = StaysSo x t last bytes part
