-- What a part behind the sizes field answers and leaves, on the arrays.
--     Stays, stood_stays          how a trace stands behind some events: the step number is the same, and the sizes field has been read
--     stretch-steps, ran_steps    the step number of a stretch's last event
--     rest_events, rest_ended     what a part is, by what may come
--     left_later                  behind the sizes field a pool lies in the arrays
--     events_taken_lem            the events are done
--     ended-taken                 the end field has been read before
-- Assumes nothing.
use Prim.Native.Nat.{ℕ, zero, suc, ◌+◌}
use mathlib.Core.Path.{◌≡◌, refl, sym, ap, ◌∙◌, subst}
use mathlib.Core.Bool.{Bool, true, false}
use mathlib.Core.List.{List, []}
use native.Mathlib.Omega.{arith}
use native.Mathlib.Nat.{add-zero}
use lib.ListN.{length}
use Rattle.std.specs.Prelude.{Result}
use Rattle.rules.specs.declared.Sizes.{Sizes}
use Rattle.rules.specs.declared.Collector.{Collector}
use Rattle.rules.specs.Pool.{Pool}
use Rattle.rules.specs.Outcome.{answers, after}
use Rattle.rules.specs.Sound.{Sound}
use Rattle.laws.proofs.Runs.{run_keeps}
use Rattle.soundness.proofs.Kept.{event_keeps_sound}
use Rattle.tables.specs.Tables.{Tables}
use Rattle.tables.specs.Lie.{pool_of}
use Rattle.tables.proofs.RoundTrip.{pool_of_tables, known_back}
use Rattle.fresh.specs.Free.{free_in}
use Rattle.fields.specs.declared.Stage.{Stage}
use Rattle.fields.specs.declared.Stage.TheVariants.{First, Events, Ended}
use Rattle.fields.specs.declared.Reader.{Reader}
use Rattle.fields.specs.declared.Read.{Read}
use Rattle.fields.specs.declared.RefusedAt.{RefusedAt}
use Rattle.fields.specs.Field.{read_at}
use Rattle.trace.specs.declared.Stood.{Stood}
use Rattle.trace.specs.declared.Ran.{Ran}
use Rattle.trace.specs.Replay.{Left, untouched, stands}
use Rattle.trace.specs.Stretch.{Stretch, behind, stretch, lines_behind, put, RanOn, ran_on}
use Rattle.trace.specs.Stand.{waits, stood, stand_behind}
use Rattle.fields.proofs.Comes.{reader_at, Comes, a_refusal, the_sizes, an_event, the_end, nothing, read_comes}
use Rattle.trace.proofs.Behind.{look}
use Rattle.trace.proofs.Along.{Runs, no_event_lem, then_more, stretch-runs}
use Rattle.trace.proofs.Sized.{length_lines, free_written}
use Rattle.parts.specs.declared.Progress.{Progress}
use Rattle.parts.specs.Part.{Taken, stand_on, rest_taken}
use Rattle.parts.specs.Arrays as arrays
use Rattle.parts.specs.Arrays.{front, left_in, Long, Holds, Later, HoldsAt, part_of, Takes}
use Rattle.parts.proofs.Front.{ran_known}

-- ---- behind the events

pub record Stays (n : ℕ) (y : Stood) : Type 0 where
  pub later : Later y.reader.stage
  pub step : y.reader.step ≡ n

module _ (last : Bool) (free closed : ℕ) (bytes : List ℕ) where
  pub stood_stays : (fields place step : ℕ) (stage : Stage) → Later stage → Stays step (stood fields last free closed bytes place (reader_at stage step))
  unfolding stood
  stood_stays zero place step stage later = record { later = later; step = refl }
  stood_stays (suc fields) place step stage later =
      by_read (read_at bytes place (reader_at stage step)) (read_comes bytes place step stage) (waits last bytes place) later (λ next stage. stood_stays fields next step stage)
    where
      by_read : {stage : Stage} (x : Result Read RefusedAt) → Comes bytes place step stage x → (wait : Bool) → Later stage
          → ((next : ℕ) (stage : Stage) → Later stage → Stays step (stood fields last free closed bytes next (reader_at stage step)))
          → Stays step
          (look wait (stood fields last free closed bytes) free closed place (reader_at stage step) x)
      by_read x comes true later onward = record { later = later; step = refl }
      by_read x (a_refusal why) false later onward = record { later = later; step = refl }
      by_read x (the_sizes s next range lies) false later onward = absurd later
      by_read x (an_event e next lies) false later onward = record { later = later; step = refl }
      by_read x (the_end next lies) false later onward = onward next Ended tt
      by_read x nothing false later onward = record { later = later; step = refl }

-- ---- a stretch

steps_along : (bytes : List ℕ) {place step : ℕ} (x : Stretch) → Runs bytes place step x → x.step ≡ step + length x.events
steps_along bytes x (no_event_lem {step = step} none) = sym (add-zero step)
steps_along bytes x (then_more {step = step} {rest = rest} read more) = omega (arith, steps_along bytes rest more)

pub stretch-steps : (bytes : List ℕ) (place step : ℕ) → let x = stretch bytes place step in x.step ≡ step + length x.events
stretch-steps bytes place step = steps_along bytes (stretch bytes place step) (stretch-runs bytes place step)

pub ran_steps : (s : Sizes) (t : Tables) (c : Collector) (bytes : List ℕ) (place step : ℕ) (room : List ℕ) {x : RanOn}
    → ran_on s t c bytes place step room ≡ x → x.ran.step ≡ step + x.ran.events
unfolding ran_on
ran_steps s t c bytes place step room run = subst (λ (z : RanOn). z.ran.step ≡ step + z.ran.events) run (stretch-steps bytes place step)

-- ---- a part, by what may come

module _ (last : Bool) (bytes : List ℕ) (place : ℕ) (reader : Reader) (s : Sizes) (p : Pool) where
  abbrev pub events_taken : Taken
  events_taken =
      let x : Stretch = stretch bytes place reader.step in
      let q : Pool = after s p x.events in
      record {
        lines = lines_behind reader.step (answers s p x.events);
        stood = stand_on last bytes x.next (behind x.step) q;
        left = stands s q;
      }

  abbrev pub ended_taken : Taken
  ended_taken = record { lines = []; stood = stand_on last bytes place reader p; left = stands s p }

  pub rest_events : (reader.stage ≡ Ended → ⊥) → rest_taken last bytes place reader s p ≡ events_taken
  unfolding rest_taken
  rest_events unended = by_stage reader.stage unended
    where
      by_stage : (stage : Stage) → (stage ≡ Ended → ⊥) → elim stage [ First ↦ events_taken | Events ↦ events_taken | Ended ↦ ended_taken ] ≡ events_taken
      by_stage First unended = refl
      by_stage Events unended = refl
      by_stage Ended unended = absurd (unended refl)

  pub rest_ended : reader.stage ≡ Ended → rest_taken last bytes place reader s p ≡ ended_taken
  unfolding rest_taken
  rest_ended closed = ap (λ (stage : Stage). elim stage [ First ↦ events_taken | Events ↦ events_taken | Ended ↦ ended_taken ]) closed

-- ---- behind the sizes field a pool lies in the arrays

pub left_later : (stage : Stage) (pool : Left) → Later stage → elim stage [ First ↦ untouched | Events ↦ pool | Ended ↦ pool ] ≡ pool
left_later First pool later = absurd later
left_later Events pool later = refl
left_later Ended pool later = refl

holds_later : (stage : Stage) {x : Progress} {t : Tables} → Later stage → Holds x t → HoldsAt stage x t
holds_later First later holds = absurd later
holds_later Events later holds = holds
holds_later Ended later holds = holds

module _ {x : Progress} {t : Tables} (long : Long t) (holds : Holds x t) (last : Bool) (bytes : List ℕ) (place : ℕ) (room : List ℕ) where
  abbrev pool : Pool
  pool = pool_of x.sizes (front x.sizes t) x.collector

  pub events_taken_lem : Later x.reader.stage → (x.reader.stage ≡ Ended → ⊥) → {y : Stood} {ran : Ran} {left : Tables} {filled : List ℕ}
      → arrays.Runs x.sizes (ran_on x.sizes (front x.sizes t) x.collector bytes place x.reader.step room) ran left filled
      → y ≡ stand_behind last (free_in x.sizes.n (front x.sizes left).used) ran.collector.closed bytes ran.next (behind ran.step)
      → Takes (rest_taken last bytes place x.reader x.sizes pool) x room (part_of (record { reader = behind ran.step; sizes = x.sizes; collector = ran.collector }) y ran.events) left filled
  unfolding ran_on left_in
  events_taken_lem later unended {y} {ran} {left} {filled} runs behind-events =
      let s : Sizes = x.sizes in
      let trail : Stretch = stretch bytes place x.reader.step in
      let q : Pool = after s pool trail.events in
      let known = holds.known in
      let sound : Sound s q = run_keeps s (Sound s) (event_keeps_sound s known.sizes) pool known.tables.sound trail.events in
      let taken = rest_events last bytes place x.reader s pool unended in
      let stays = subst (Stays ran.step) (sym behind-events)
      (stood_stays last (free_in s.n (front s left).used) ran.collector.closed bytes 2 ran.next ran.step Events tt) in
      let back : pool_of s (front s left) ran.collector ≡ q =
      ap (λ (z : RanOn). pool_of s z.tables z.ran.collector) (sym runs.same)
      ∙ pool_of_tables s q sound.shaped sound.log_length sound.history_length in
      let count : ran.events ≡ length trail.events = ap (λ (z : RanOn). z.ran.events) (sym runs.same) in
      record {
        stood =
            ap (λ (z : Taken). z.stood) taken
            ∙ ap (λ (free : ℕ). stand_behind last free q.collector.closed bytes trail.next (behind trail.step)) (free_written s q sound)
            ∙ ap (λ (z : RanOn). stand_behind last (free_in s.n z.tables.used) z.ran.collector.closed bytes z.ran.next (behind z.ran.step))
            runs.same
            ∙ sym behind-events;
        numbered = (answers s pool trail.events, ap (λ (z : Taken). z.lines) taken);
        events = count ∙ sym (length_lines s pool x.reader.step trail.events) ∙ ap (λ (z : Taken). length z.lines) (sym taken);
        answers = ap (λ (z : RanOn). z.answers) (sym runs.same) ∙ ap (λ (z : Taken). put room z.lines) (sym taken);
        left =
            left_later y.reader.stage (stands s (pool_of s (front s left) ran.collector)) stays.later
            ∙ ap (stands s) back
            ∙ ap (λ (z : Taken). z.left) (sym taken);
        set =
            record {
              long = runs.long;
              holds =
                  holds_later y.reader.stage stays.later
                  (record { small = holds.small; known = ran_known known bytes place x.reader.step room runs.same });
            };
        step =
            stays.step
            ∙ ap (λ (z : RanOn). z.ran.step) (sym runs.same)
            ∙ stretch-steps bytes place x.reader.step
            ∙ ap (λ (n : ℕ). x.reader.step + n) (sym count);
      }

  pub ended-taken : x.reader.stage ≡ Ended → {y : Stood}
      → y ≡ stand_behind last (free_in x.sizes.n (front x.sizes t).used) x.collector.closed bytes place x.reader
      → Takes (rest_taken last bytes place x.reader x.sizes pool) x room (part_of x y 0) t room
  unfolding left_in put pool_of lines_behind
  ended-taken closed {y} behind_end_lem =
      let s : Sizes = x.sizes in
      let taken = rest_ended last bytes place x.reader s pool closed in
      let later : Later x.reader.stage = subst Later (sym closed) tt in
      let stays = subst (Stays x.reader.step) (sym behind_end_lem)
      (stood_stays last (free_in s.n (front s t).used) x.collector.closed bytes 2 place x.reader.step x.reader.stage later) in
      record {
        stood =
            ap (λ (z : Taken). z.stood) taken
            ∙ ap (λ (free : ℕ). stand_behind last free x.collector.closed bytes place x.reader)
            (free_written s pool holds.known.tables.sound ∙ ap (λ (z : Tables). free_in s.n z.used) (known_back holds.known))
            ∙ sym behind_end_lem;
        events = ap (λ (z : Taken). length z.lines) (sym taken);
        numbered = ([], ap (λ (z : Taken). z.lines) taken);
        answers = ap (λ (z : Taken). put room z.lines) (sym taken);
        left = left_later y.reader.stage (stands s pool) stays.later ∙ ap (λ (z : Taken). z.left) (sym taken);
        set = record { long = long; holds = holds_later y.reader.stage stays.later (record { small = holds.small; known = holds.known }) };
        step = stays.step ∙ sym (add-zero x.reader.step);
      }
