-- Where a part ends.
--     EndsBy          the place of a refusal is in the part
--     part_ends       so it is for every part
-- Assumes nothing.
use Prim.Native.Nat.{ℕ, zero, suc, ◌≤◌}
use mathlib.Core.Bool.{Bool, true, false, cond}
use mathlib.Core.List.{List}
use native.Mathlib.Omega.{arith}
use lib.ListN.{length}
use Rattle.std.specs.Prelude.{Option, Some, None, Result, Ok, Err}
use Rattle.rules.specs.declared.Sizes.{Sizes}
use Rattle.rules.specs.declared.Refusal.TheVariants.{WrongSize}
use Rattle.rules.specs.Pool.{Pool, fresh}
use Rattle.rules.specs.Outcome.{after, free_records}
use Rattle.fields.specs.declared.Stage.{Stage}
use Rattle.fields.specs.declared.Stage.TheVariants.{First, Events, Ended}
use Rattle.fields.specs.declared.Reader.{Reader}
use Rattle.fields.specs.declared.Read.{Read}
use Rattle.fields.specs.declared.RefusedAt.{RefusedAt}
use Rattle.fields.specs.Field.{read_at}
use Rattle.trace.specs.Replay.{Left, Ending}
use Rattle.trace.specs.Stretch.{behind, stretch}
use Rattle.trace.specs.Stand.{waits, stood}
use Rattle.fields.proofs.Comes.{reader_at, Comes, a_refusal, the_sizes, an_event, the_end, nothing, read_comes}
use Rattle.trace.proofs.Behind.{look}
use Rattle.parts.specs.Part.{Taken, rest_taken, stops_at, first_taken, part_taken}
use Rattle.parts.proofs.Between.{Between, before_sizes, behind_sizes, behind_end_lem, stretched, first_of, first_waits}

abbrev pub PlaceBy : ℕ → Ending → Type 0
PlaceBy n (Ok w) = Unit
PlaceBy n (Err e) = e.place ≤ n

abbrev pub EndsBy : ℕ → Option Ending → Type 0
EndsBy n None = Unit
EndsBy n (Some ending) = PlaceBy n ending

module _ (last : Bool) (free closed : ℕ) (bytes : List ℕ) where
  stood-ends : (fields place step : ℕ) (stage : Stage) → place ≤ length bytes
      → EndsBy (length bytes) (stood fields last free closed bytes place (reader_at stage step)).stand
  unfolding stood
  stood-ends zero place step stage inside = inside
  stood-ends (suc fields) place step stage inside =
      by_read (read_at bytes place (reader_at stage step)) (read_comes bytes place step stage) (waits last bytes place) (λ next stage. stood-ends fields next step stage)
    where
      by_read : {stage : Stage} (x : Result Read RefusedAt) → Comes bytes place step stage x → (wait : Bool)
          → ((next : ℕ) (stage : Stage) → next ≤ length bytes → EndsBy (length bytes) (stood fields last free closed bytes next (reader_at stage step)).stand)
          → EndsBy (length bytes)
          (look wait (stood fields last free closed bytes) free closed place (reader_at stage step) x).stand
      by_read x comes true onward = tt
      by_read x (a_refusal why) false onward = inside
      by_read x (the_sizes s next range lies) false onward = inside
      by_read x (an_event e next lies) false onward = inside
      by_read x (the_end next lies) false onward = onward next Ended lies.inside
      by_read x nothing false onward = tt

module _ (last : Bool) (bytes : List ℕ) where
  abbrev Inside : Taken → Type 0
  Inside x = EndsBy (length bytes) x.stood.stand

  rest_ends : (s : Sizes) (p : Pool) (place step : ℕ) → place ≤ length bytes → Inside (rest_taken last bytes place (behind step) s p)
  unfolding rest_taken
  rest_ends s p place step inside =
      let x = stretch bytes place step in
      let q = after s p x.events in
      stood-ends last (free_records q) q.collector.closed bytes 2 x.next x.step Events (stretched bytes place step inside).inside

  module _ (takes : Sizes → Bool) where
    first_ends : (step : ℕ) → Inside (first_taken takes last bytes (reader_at First step))
    unfolding first_taken
    first_ends step = by_read (waits last bytes 0) (read_at bytes 0 (reader_at First step)) (read_comes bytes 0 step First)
      where
        by_takes : (b : Bool) (s : Sizes) (next : ℕ) → next ≤ length bytes
            → Inside (cond b (rest_taken last bytes next (behind 0) s (fresh s)) (stops_at WrongSize 0 (reader_at First step)))
        by_takes true s next inside = rest_ends s (fresh s) next 0 inside
        by_takes false s next inside = omega arith

        by_read : (wait : Bool) (x : Result Read RefusedAt) → Comes bytes 0 step First x
            → Inside (cond wait (first_waits last bytes (reader_at First step)) (first_of last bytes takes (reader_at First step) x))
        by_read true x comes = tt
        by_read false x (a_refusal why) = omega arith
        by_read false x (the_sizes s next range lies) = by_takes (takes s) s next lies.inside

    pub part_ends : (reader : Reader) (left : Left) → Between reader left → Inside (part_taken takes last bytes reader left)
    unfolding part_taken rest_taken
    part_ends reader left (before_sizes {step = step}) = first_ends step
    part_ends reader left (behind_sizes {step = step} {s = s} {p = p}) = rest_ends s p 0 step (omega arith)
    part_ends reader left (behind_end_lem {step = step} {s = s} {p = p}) = stood-ends last (free_records p) p.collector.closed bytes 2 0 step Ended (omega arith)
