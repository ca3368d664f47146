-- The events of a trace that arrives in parts: those of a part, and then those that are left where the part stands.
--     stretch_along       a stretch of a part, and then what comes behind it
--     stretch-behind      the events from a place on are those of what stands there
--     left_work           the events that are left where a part stands so
--     ended-left          behind the end field none is left
--     rest_works          the events of the trace, behind the sizes field
--     work_lines, rest_lines, first_lines     the lines of the events of a part
--     SoundWork, first_sound     they are done on a sound pool
-- Assumes nothing.
use Prim.Native.Nat.{ℕ, zero, suc, ◌+◌, ◌≤◌}
use mathlib.Core.Path.{◌≡◌, refl, sym, ap, ◌∙◌}
use mathlib.Core.Bool.{Bool, true, false, cond}
use mathlib.Core.List.{List, [], ◌∷◌, ◌++◌}
use native.Mathlib.Omega.{arith}
use native.Mathlib.Nat.{add-zero}
use lib.ListN.{length, drop, length-append}
use Rattle.std.specs.Prelude.{Some, None, Result, Ok, Err}
use Rattle.rules.specs.declared.Sizes.{Sizes}
use Rattle.rules.specs.declared.Event.{Event}
use Rattle.rules.specs.declared.Refusal.TheVariants.{WrongSize}
use Rattle.rules.specs.Size.{in_range}
use Rattle.rules.specs.Pool.{Pool, fresh}
use Rattle.rules.specs.Sound.{Sound}
use Rattle.rules.specs.Outcome.{answers, after, free_records}
use Rattle.soundness.proofs.Kept.{fresh_is_sound}
use Rattle.fields.specs.declared.Stage.{Stage}
use Rattle.fields.specs.declared.Stage.TheVariants.{First, Events, Ended}
use Rattle.fields.specs.declared.Reader.{Reader}
use Rattle.fields.specs.declared.Read.{Read}
use Rattle.fields.specs.declared.RefusedAt.{RefusedAt}
use Rattle.fields.specs.Field.{read_at}
use Rattle.fields.specs.Part.{moved}
use Rattle.fields.proofs.Comes.{reader_at, event_read, Comes, a_refusal, the_sizes, an_event, the_end, nothing, read_comes}
use Rattle.trace.specs.declared.Stood.{Stood}
use Rattle.trace.specs.Replay.{Line, untouched, stands, at_start}
use Rattle.trace.specs.Stretch.{Stretch, behind, stretch, lines_behind}
use Rattle.trace.specs.Stand.{waits, stood}
use Rattle.trace.proofs.Behind.{look}
use Rattle.trace.proofs.Along.{is_event, Runs, no_event_lem, then_more, stretch_event, stretch-none, stretch-runs, stretch-ends}
use Rattle.parts.specs.Part.{stand_on, rest_taken, stops_at, first_taken}
use Rattle.parts.specs.Work.{Work, no_work, rest_work, first_work}
use Rattle.parts.proofs.Field.{taken_in_part, read_in_front, read_behind}
use Rattle.parts.proofs.Between.{stretched, first_of, work_of, first_waits}
use Rattle.parts.proofs.Goes.{enough}

-- ---- a stretch of a part

-- an event, by the field that stands at a place
one_event : (bytes : List ℕ) (place step next : ℕ) (e : Event) → read_at bytes place (behind step) ≡ Ok (event_read (suc step) e next)
    → (stretch bytes place step).events ≡ e ∷ (stretch bytes next (suc step)).events
one_event bytes place step next e read = ap (λ (x : Stretch). x.events) (stretch_event bytes place step (suc step) e next read)

module _ (part more : List ℕ) where
  along : {place step : ℕ} (x : Stretch) → Runs part place step x
      → (stretch (part ++ more) place step).events ≡ x.events ++ (stretch (part ++ more) x.next x.step).events
  along x (no_event_lem none) = refl
  along x (then_more {place = place} {step = step} {next = next} {e = e} {rest = rest} read later) =
      one_event (part ++ more) place step next e (taken_in_part part more place (behind step) (event_read (suc step) e next) read refl)
      ∙ ap (λ (events : List Event). e ∷ events) (along rest later)

  pub stretch_along : (place step : ℕ) → let x = stretch part place step in
      (stretch (part ++ more) place step).events ≡ x.events ++ (stretch (part ++ more) x.next x.step).events
  stretch_along place step = along (stretch part place step) (stretch-runs part place step)

module _ (bytes : List ℕ) (n : ℕ) (inside : n ≤ length bytes) where
  still_none : (r : Result Read RefusedAt) → is_event r ≡ false → is_event (moved n r) ≡ false
  unfolding moved
  still_none (Err e) none = refl
  still_none (Ok x) none = none

  moved_along : {place step : ℕ} (x : Stretch) → Runs (drop n bytes) place step x → (stretch bytes (n + place) step).events ≡ x.events
  unfolding moved
  moved_along x (no_event_lem {place = place} {step = step} none) =
      let there = read_behind bytes n inside place (behind step) in
      ap (λ (y : Stretch). y.events)
      (stretch-none bytes (n + place) step (ap is_event there ∙ still_none (read_at (drop n bytes) place (behind step)) none))
  moved_along x (then_more {place = place} {step = step} {next = next} {e = e} {rest = rest} read later) =
      one_event bytes (n + place) step (n + next) e (read_behind bytes n inside place (behind step) ∙ ap (moved n) read)
      ∙ ap (λ (events : List Event). e ∷ events) (moved_along rest later)

  pub stretch-behind : (step : ℕ) → (stretch bytes n step).events ≡ (stretch (drop n bytes) 0 step).events
  stretch-behind step =
      ap (λ (place : ℕ). (stretch bytes place step).events) (sym (add-zero n))
      ∙ moved_along (stretch (drop n bytes) 0 step) (stretch-runs (drop n bytes) 0 step)

-- ---- what is left

-- what a part leaves of the bytes, where it stands so
abbrev pub left_work : List ℕ → Stood → Sizes → Pool → List Event
left_work bytes x s p = elim x.stand [ Some ending ↦ [] | None ↦ (rest_work (drop x.next bytes) 0 x.reader s p).events ]

module _ (last : Bool) (part more : List ℕ) (whole : last ≡ true → more ≡ []) (s : Sizes) (q : Pool) where
  abbrev all : List ℕ
  all = part ++ more

  abbrev stood_on : ℕ → ℕ → Reader → Stood
  stood_on fields = stood fields last (free_records q) q.collector.closed part

  -- behind the end field no event is left
  pub ended-left : (fields place step : ℕ) → left_work all (stood_on fields place (reader_at Ended step)) s q ≡ []
  unfolding stood rest_work
  ended-left zero place step = refl
  ended-left (suc fields) place step = by_read (read_at part place (reader_at Ended step)) (read_comes part place step Ended) (waits last part place)
    where
      by_read : (x : Result Read RefusedAt) → Comes part place step Ended x → (wait : Bool)
          → left_work all (look wait (stood_on fields) (free_records q) q.collector.closed place (reader_at Ended step) x) s q ≡ []
      by_read x comes true = refl
      by_read x (a_refusal why) false = refl
      by_read x nothing false = refl

  -- behind the events of a part
  events_left : (place step : ℕ) → place ≤ length all → is_event (read_at part place (behind step)) ≡ false
      → (stretch all place step).events ≡ left_work all (stood_on 2 place (behind step)) s q
  unfolding stood rest_work
  events_left place step inside none = by_wait (waits last part place) refl
    where
      by_read : (x : Result Read RefusedAt) → Comes part place step Events x → is_event x ≡ false
          → [] ≡ left_work all (look false (stood_on 1) (free_records q) q.collector.closed place (behind step) x) s q
      by_read x (a_refusal why) none = refl
      by_read x (an_event e next lies) none = absurd (let z : ◌≡◌ {A = ℕ} 0 1 = cc in omega arith)
      by_read x (the_end next lies) none = sym (ended-left 1 next step)

      by_wait : (wait : Bool) → waits last part place ≡ wait
          → (stretch all place step).events
          ≡ left_work all (look wait (stood_on 1) (free_records q) q.collector.closed place (behind step) (read_at part place (behind step))) s q
      by_wait true e = stretch-behind all place inside step
      by_wait false e =
          let same = read_in_front part more place (behind step) (enough last part more whole place e) in
          ap (λ (x : Stretch). x.events) (stretch-none all place step (ap is_event same ∙ none))
          ∙ by_read (read_at part place (behind step)) (read_comes part place step Events) none

pub rest_works : (last : Bool) (part more : List ℕ) → (last ≡ true → more ≡ []) → (s : Sizes) (p : Pool) (place step : ℕ) → place ≤ length part
    → let x = stretch part place step in let q = after s p x.events in
    (stretch (part ++ more) place step).events ≡ x.events ++ left_work (part ++ more) (stand_on last part x.next (behind x.step) q) s q
rest_works last part more whole s p place step inside =
    let x = stretch part place step in
    let within : x.next ≤ length (part ++ more) = omega (arith, (stretched part place step inside).inside, length-append part more) in
    stretch_along part more place step
    ∙ ap (λ (events : List Event). x.events ++ events) (events_left last part more whole s (after s p x.events) x.next x.step within (stretch-ends part place step))

-- ---- the lines of a part are those of its events

abbrev pub work_lines : ℕ → Work → List Line
work_lines step w = elim w.pool [ untouched ↦ [] | stands s p ↦ lines_behind step (answers s p w.events) ]

module _ (last : Bool) (bytes : List ℕ) where
  pub rest_lines : (place : ℕ) (reader : Reader) (s : Sizes) (p : Pool)
      → (rest_taken last bytes place reader s p).lines ≡ work_lines reader.step (rest_work bytes place reader s p)
  unfolding rest_taken rest_work lines_behind answers
  rest_lines place reader s p = by_stage reader.stage
    where
      by_stage : (stage : Stage)
          → (rest_taken last bytes place (reader_at stage reader.step) s p).lines ≡ work_lines reader.step (rest_work bytes place (reader_at stage reader.step) s p)
      by_stage First = refl
      by_stage Events = refl
      by_stage Ended = refl

pub first_lines : (takes : Sizes → Bool) (last : Bool) (bytes : List ℕ) → (first_taken takes last bytes at_start).lines ≡ work_lines 0 (first_work takes last bytes at_start)
unfolding first_taken first_work
first_lines takes last bytes = by_wait (waits last bytes 0)
  where
    by_takes : (b : Bool) (s : Sizes) (next : ℕ)
        → (cond b (rest_taken last bytes next (behind 0) s (fresh s)) (stops_at WrongSize 0 at_start)).lines
        ≡ work_lines 0 (cond b (rest_work bytes next (behind 0) s (fresh s)) no_work)
    by_takes true s next = rest_lines last bytes next (behind 0) s (fresh s)
    by_takes false s next = refl

    by_read : (r : Result Read RefusedAt) → Comes bytes 0 0 First r → (first_of last bytes takes at_start r).lines ≡ work_lines 0 (work_of bytes takes r)
    by_read r (a_refusal why) = refl
    by_read r (the_sizes s next range lies) = by_takes (takes s) s next

    by_wait : (wait : Bool) → (cond wait (first_waits last bytes at_start) (first_of last bytes takes at_start (read_at bytes 0 at_start))).lines
        ≡ work_lines 0 (cond wait no_work (work_of bytes takes (read_at bytes 0 at_start)))
    by_wait true = refl
    by_wait false = by_read (read_at bytes 0 at_start) (read_comes bytes 0 0 First)

-- ---- the events of a part are done on a sound pool

abbrev pub SoundWork : Work → Type 0
SoundWork w = elim w.pool [ untouched ↦ Unit | stands s p ↦ (in_range s ≡ true) × Sound s p ]

pub first_sound : (takes : Sizes → Bool) (last : Bool) (bytes : List ℕ) → SoundWork (first_work takes last bytes at_start)
unfolding first_work rest_work
first_sound takes last bytes = by_wait (waits last bytes 0)
  where
    by_takes : (b : Bool) (s : Sizes) (next : ℕ) → in_range s ≡ true → SoundWork (cond b (rest_work bytes next (behind 0) s (fresh s)) no_work)
    by_takes true s next range = (range, fresh_is_sound s)
    by_takes false s next range = tt

    by_read : (r : Result Read RefusedAt) → Comes bytes 0 0 First r → SoundWork (work_of bytes takes r)
    by_read r (a_refusal why) = tt
    by_read r (the_sizes s next range lies) = by_takes (takes s) s next range

    by_wait : (wait : Bool) → SoundWork (cond wait no_work (work_of bytes takes (read_at bytes 0 at_start)))
    by_wait true = tt
    by_wait false = by_read (read_at bytes 0 at_start) (read_comes bytes 0 0 First)
