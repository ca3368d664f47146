-- What is known of the reader and the pool between two parts, and where a part waits.
--     Between          nothing before the sizes field, then a pool
--     arrays_between   and so it is in a program's arrays
--     Stretched, stretched     where the events of a part lie: each has 7 bytes at least
--     WaitsAt, few_left     where a part waits fewer bytes are left than a field may have
--     first_of, work_of     the first field, once it is read, and the events of the part then
--     part_waits       a part that waits
-- Assumes nothing.
use Prim.Native.Nat.{ℕ, suc, ◌+◌, ◌*◌, ◌≤◌, ◌<◌}
use mathlib.Core.Path.{◌≡◌, refl}
use mathlib.Core.Bool.{Bool, true, false, cond, not}
use mathlib.Core.List.{List, []}
use native.Mathlib.Omega.{arith}
use borrow.Author.Tests.{ltb-true}
use lib.ListN.{length}
use Rattle.std.specs.Prelude.{Some, None, Result, Ok, Err}
use Rattle.rules.specs.declared.Sizes.{Sizes}
use Rattle.rules.specs.declared.Refusal.TheVariants.{WrongSize, WrongTag}
use Rattle.rules.specs.Pool.{Pool, fresh}
use Rattle.rules.specs.Outcome.{after, free_records}
use Rattle.laws.proofs.Tests.{and_right}
use Rattle.fields.specs.declared.Stage.{Stage}
use Rattle.fields.specs.declared.Stage.TheVariants.{First, Events, Ended}
use Rattle.fields.specs.declared.Reader.{Reader}
use Rattle.fields.specs.declared.Field.TheVariants as field
use Rattle.fields.specs.declared.Read.{Read}
use Rattle.fields.specs.declared.RefusedAt.{RefusedAt}
use Rattle.fields.specs.Field.{read_at}
use Rattle.fields.specs.Part.{longest}
use Rattle.fields.proofs.Taken.{taken_at_lem}
use Rattle.tables.specs.Tables.{Tables}
use Rattle.tables.specs.Lie.{pool_of}
use Rattle.trace.specs.declared.Stood.{Stood}
use Rattle.trace.specs.Replay.{Left, Ending, untouched, stands}
use Rattle.trace.specs.Stretch.{Stretch, behind, stretch}
use Rattle.trace.specs.Stand.{waits, stood}
use Rattle.fields.proofs.Comes.{reader_at, Comes, a_refusal, the_sizes, an_event, the_end, nothing, read_comes}
use Rattle.trace.proofs.Behind.{look}
use Rattle.trace.proofs.Along.{Runs, no_event_lem, then_more, stretch-runs}
use Rattle.parts.specs.declared.Progress.{Progress}
use Rattle.parts.specs.Arrays.{front, left_in}
use Rattle.parts.specs.Part.{Taken, rest_taken, stops_at, first_taken, part_taken}
use Rattle.parts.specs.Work.{Work, no_work, rest_work}

pub data Between : Reader → Left → Type 0 where
  before_sizes : {step : ℕ} → Between (reader_at First step) untouched
  behind_sizes : {step : ℕ} {s : Sizes} {p : Pool} → Between (reader_at Events step) (stands s p)
  behind_end_lem : {step : ℕ} {s : Sizes} {p : Pool} → Between (reader_at Ended step) (stands s p)

-- what lies in a program's arrays is so
pub arrays_between : (x : Progress) (t : Tables) → Between x.reader (left_in x t)
unfolding left_in
arrays_between x t = by_stage x.reader.stage
  where
    pool : Left
    pool = stands x.sizes (pool_of x.sizes (front x.sizes t) x.collector)

    by_stage : (stage : Stage) → Between (reader_at stage x.reader.step) (elim stage [ First ↦ untouched | Events ↦ pool | Ended ↦ pool ])
    by_stage First = before_sizes
    by_stage Events = behind_sizes
    by_stage Ended = behind_end_lem

-- ---- where events lie

pub record Stretched (bytes : List ℕ) (place : ℕ) (x : Stretch) : Type 0 where
  pub least : place + length x.events * 7 ≤ x.next
  pub inside : x.next ≤ length bytes

module _ (bytes : List ℕ) where
  runs_lie : {place step : ℕ} (x : Stretch) → Runs bytes place step x → place ≤ length bytes → Stretched bytes place x
  runs_lie x (no_event_lem none) inside = record { least = omega arith; inside = inside }
  runs_lie x (then_more {place = place} {step = step} {rest = rest} read more) inside =
      let lies = taken_at_lem bytes place (behind step) read refl in
      let later = runs_lie rest more lies.inside in
      record { least = omega (arith, lies.least, later.least); inside = later.inside }

  pub stretched : (place step : ℕ) → place ≤ length bytes → Stretched bytes place (stretch bytes place step)
  stretched place step = runs_lie (stretch bytes place step) (stretch-runs bytes place step)

-- ---- where a part waits

pub record WaitsAt (last : Bool) (bytes : List ℕ) (x : Stood) (left : Left) : Type 0 where
  pub between : Between x.reader left
  pub inside : x.next ≤ length bytes
  pub waits : waits last bytes x.next ≡ true

pub few_left : {last : Bool} {bytes : List ℕ} {x : Stood} {left : Left} → WaitsAt last bytes x left → length bytes < x.next + longest
unfolding waits
few_left {last} {bytes} {x} w = ltb-true (length bytes) (x.next + longest) (and_right (not last) _ w.waits)

-- a part that has ended does not wait
not_waiting : {ending : Ending} → Some ending ≡ None → ⊥
not_waiting h = let z : ◌≡◌ {A = ℕ} 0 1 = cc in omega arith

-- the events of a part, once the first field is read
abbrev pub work_of : List ℕ → (Sizes → Bool) → Result Read RefusedAt → Work
work_of bytes takes (Err e) = no_work
work_of bytes takes (Ok x) =
    elim x.field [
      | field.Sizes s ↦ cond (takes s) (rest_work bytes x.next x.reader s (fresh s)) no_work
      | field.Event n e ↦ no_work
      | field.End ↦ no_work
      | field.Nothing ↦ no_work
    ]

module _ (last : Bool) (bytes : List ℕ) where
  module _ (s : Sizes) (q : Pool) where
    abbrev stood_on : ℕ → ℕ → Reader → Stood
    stood_on fields = stood fields last (free_records q) q.collector.closed bytes

    abbrev Shown : Stood → Type 0
    Shown x = x.stand ≡ None → WaitsAt last bytes x (stands s q)

    ended-waits : (fields place step : ℕ) → place ≤ length bytes → Shown (stood_on (suc fields) place (reader_at Ended step))
    unfolding stood
    ended-waits fields place step inside =
        by_read (waits last bytes place) refl (read_at bytes place (reader_at Ended step)) (read_comes bytes place step Ended)
      where
        by_read : (wait : Bool) → waits last bytes place ≡ wait → (x : Result Read RefusedAt) → Comes bytes place step Ended x
            → Shown (look wait (stood_on fields) (free_records q) q.collector.closed place (reader_at Ended step) x)
        by_read true e x comes = λ h. record { between = behind_end_lem; inside = inside; waits = e }
        by_read false e x (a_refusal why) = λ h. absurd (not_waiting h)
        by_read false e x nothing = λ h. absurd (not_waiting h)

    events_wait : (place step : ℕ) → place ≤ length bytes → Shown (stood_on 2 place (behind step))
    unfolding stood
    events_wait place step inside =
        by_read (waits last bytes place) refl (read_at bytes place (behind step)) (read_comes bytes place step Events)
      where
        by_read : (wait : Bool) → waits last bytes place ≡ wait → (x : Result Read RefusedAt) → Comes bytes place step Events x
            → Shown (look wait (stood_on 1) (free_records q) q.collector.closed place (behind step) x)
        by_read true e x comes = λ h. record { between = behind_sizes; inside = inside; waits = e }
        by_read false e x (a_refusal why) = λ h. absurd (not_waiting h)
        by_read false e x (an_event event next lies) = λ h. absurd (not_waiting h)
        by_read false e x (the_end next lies) = ended-waits 0 next step lies.inside

  -- of a part, by what it answers and leaves
  abbrev PartWaits : Taken → Type 0
  PartWaits x = x.stood.stand ≡ None → WaitsAt last bytes x.stood x.left

  rest_waits : (s : Sizes) (p : Pool) (place step : ℕ) → place ≤ length bytes → PartWaits (rest_taken last bytes place (behind step) s p)
  unfolding rest_taken
  rest_waits s p place step inside =
      let x = stretch bytes place step in events_wait s (after s p x.events) x.next x.step (stretched bytes place step inside).inside

  -- the first field, once it is read
  abbrev pub first_of : (Sizes → Bool) → Reader → Result Read RefusedAt → Taken
  first_of takes reader (Err e) = stops_at e.why e.place reader
  first_of takes reader (Ok x) =
      elim x.field [
        | field.Sizes s ↦ cond (takes s) (rest_taken last bytes x.next x.reader s (fresh s)) (stops_at WrongSize 0 reader)
        | field.Event n e ↦ stops_at WrongTag 0 reader
        | field.End ↦ stops_at WrongTag 0 reader
        | field.Nothing ↦ stops_at WrongTag 0 reader
      ]

  abbrev pub first_waits : Reader → Taken
  first_waits reader = record { lines = []; stood = record { stand = None; next = 0; reader = reader }; left = untouched }

  module _ (takes : Sizes → Bool) where
    first_waits_lem : (step : ℕ) → PartWaits (first_taken takes last bytes (reader_at First step))
    unfolding first_taken
    first_waits_lem step = by_read (waits last bytes 0) refl (read_at bytes 0 (reader_at First step)) (read_comes bytes 0 step First)
      where
        by_takes : (b : Bool) (s : Sizes) (next : ℕ) → next ≤ length bytes
            → PartWaits (cond b (rest_taken last bytes next (behind 0) s (fresh s)) (stops_at WrongSize 0 (reader_at First step)))
        by_takes true s next inside = rest_waits s (fresh s) next 0 inside
        by_takes false s next inside = λ h. absurd (not_waiting h)

        by_read : (wait : Bool) → waits last bytes 0 ≡ wait → (x : Result Read RefusedAt) → Comes bytes 0 step First x
            → PartWaits (cond wait (first_waits (reader_at First step)) (first_of takes (reader_at First step) x))
        by_read true e x comes = λ h. record { between = before_sizes; inside = omega arith; waits = e }
        by_read false e x (a_refusal why) = λ h. absurd (not_waiting h)
        by_read false e x (the_sizes s next range lies) = by_takes (takes s) s next lies.inside

    pub part_waits : (reader : Reader) (left : Left) → Between reader left → PartWaits (part_taken takes last bytes reader left)
    unfolding part_taken rest_taken
    part_waits reader left (before_sizes {step = step}) = first_waits_lem step
    part_waits reader left (behind_sizes {step = step} {s = s} {p = p}) = rest_waits s p 0 step (omega arith)
    part_waits reader left (behind_end_lem {step = step} {s = s} {p = p}) = ended-waits s p 1 0 step (omega arith)
