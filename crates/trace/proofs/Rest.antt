-- A stretch done event by event on lent tables: what the events still to be done answer and leave, together with what has been answered, stays the same.
--     rest_on            what the events from a place on answer and leave, with so many done before
--     rest_starts       none is done
--     pool_again, known_again     the pool after an event, by what it left of the tables
--     rest_event        one is done
--     rest_ends         none follows
--     Going             the events of a stretch are being done
--     going_starts, goes_on_lem, going_ends     before the first, by the event field that stands at the place, and where none does
-- Assumes nothing.
use Prim.Native.Nat.{ℕ, suc, ◌+◌, ◌/◌, ◌≤◌}
use mathlib.Core.Path.{◌≡◌, refl, sym, ap, ◌∙◌, subst}
use mathlib.Core.Bool.{false}
use mathlib.Core.List.{List, ◌∷◌}
use native.Mathlib.Omega.{arith}
use native.Mathlib.Nat.{zero-add, add-zero}
use native.Mathlib.Numerals.{add-one}
use lib.ListN.{length}
use Rattle.std.specs.Prelude.{Some, None, Ok}
use Rattle.rules.specs.declared.Sizes.{Sizes}
use Rattle.rules.specs.declared.Event.{Event}
use Rattle.rules.specs.declared.Collector.{Collector}
use Rattle.rules.specs.Pool.{Pool}
use Rattle.rules.specs.Outcome.{outcome, answers, after}
use Rattle.soundness.proofs.Kept.{event_keeps_sound}
use Rattle.tables.specs.Tables.{Tables}
use Rattle.tables.specs.Lie.{pool_of, tables_of}
use Rattle.tables.specs.Known.{Known}
use Rattle.tables.specs.Event.{Called, written, event_on}
use Rattle.tables.proofs.RoundTrip.{pool_of_tables, known_back, sound_known}
use Rattle.fields.specs.Field.{byte_at, event_at, read_at, EventSized}
use Rattle.trace.specs.Replay.{line_of}
use Rattle.trace.specs.Stretch.{Stretch, behind, stretch, lines_behind, put_from, RanOn, ran_on}
use Rattle.trace.proofs.Put.{Puts, put_all}
use Rattle.fields.proofs.Comes.{event_read}
use Rattle.trace.proofs.Along.{is_event, no_event_is, stretch_event, stretch-none}

-- a pool and events of a stretch, with so many done before
abbrev rest_of : Sizes → Pool → Stretch → ℕ → ℕ → List ℕ → RanOn
rest_of s p x step done room =
    let q : Pool = after s p x.events in
    record {
      ran = record { next = x.next; step = x.step; events = done + length x.events; collector = q.collector };
      tables = tables_of s q;
      answers = put_from done room (lines_behind step (answers s p x.events));
    }

unfoldable pub rest_on : Sizes → Tables → Collector → List ℕ → ℕ → ℕ → ℕ → List ℕ → RanOn
rest_on s t c bytes place step done room = rest_of s (pool_of s t c) (stretch bytes place step) step done room

module _ {s : Sizes} {t : Tables} {c : Collector} (known : Known s t c) (bytes : List ℕ) (place step : ℕ) where
  pub rest_starts : (room : List ℕ) → ran_on s t c bytes place step room ≡ rest_on s t c bytes place step 0 room
  unfolding ran_on rest_on put_from
  rest_starts room = rw zero-add refl

  -- the pool after an event, by what the event left of the tables
  pub pool_again : (e : Event) → let y = event_on s t c e in pool_of s y.tables y.collector ≡ (outcome s (pool_of s t c) e).pool
  unfolding event_on written
  pool_again e =
      let sound = event_keeps_sound s known.sizes (pool_of s t c) known.tables.sound e in
      pool_of_tables s (outcome s (pool_of s t c) e).pool sound.shaped sound.log_length sound.history_length

  pub known_again : (e : Event) → let y = event_on s t c e in Known s y.tables y.collector
  unfolding event_on written
  known_again e = sound_known s known.sizes (outcome s (pool_of s t c) e).pool (event_keeps_sound s known.sizes (pool_of s t c) known.tables.sound e)

  -- one event more is done, and its line is put
  module _ (e : Event) (next : ℕ) (read : read_at bytes place (behind step) ≡ Ok (event_read (step + 1) e next)) (done : ℕ) (room stored : List ℕ) where
    abbrev Next : Called → Type 0
    Next y =
        Puts done room stored (line_of (step + 1) y.answer)
        → rest_on s t c bytes place step done room ≡ rest_on s y.tables y.collector bytes next (step + 1) (done + 1) stored

    next_event : Next (event_on s t c e)
    unfolding rest_on event_on written lines_behind answers after
    next_event puts =
        let p = pool_of s t c in
        let o = outcome s p e in
        let y = stretch bytes next (step + 1) in
        let more = answers s o.pool y.events in
        let count : done + suc (length y.events) ≡ done + 1 + length y.events = omega arith in
        ap (λ (x : Stretch). rest_of s p x step done room) (stretch_event bytes place step (step + 1) e next read)
        ∙ (λ j.
        record {
          ran = record { next = y.next; step = y.step; events = count j; collector = (after s o.pool y.events).collector };
          tables = tables_of s (after s o.pool y.events);
          answers =
              (ap (λ (k : ℕ). put_from done room (line_of k o.answer ∷ lines_behind k more)) (sym (add-one step))
              ∙ puts.then (lines_behind (step + 1) more)) j;
        })
        ∙ ap (λ (q : Pool). rest_of s q y (step + 1) (done + 1) stored) (sym (pool_again e))

    pub rest_event : {y : Called} → event_on s t c e ≡ y → Next y
    rest_event did = subst Next did next_event

  pub rest_ends : (done : ℕ) (room : List ℕ) → is_event (read_at bytes place (behind step)) ≡ false
      → rest_on s t c bytes place step done room ≡ record { ran = record { next = place; step = step; events = done; collector = c }; tables = t; answers = room }
  unfolding rest_on lines_behind answers after pool_of
  rest_ends done room none =
      ap (λ (x : Stretch). rest_of s (pool_of s t c) x step done room) (stretch-none bytes place step none)
      ∙ (λ j.
      record {
        ran = record { next = place; step = step; events = add-zero done j; collector = c };
        tables = known_back known j;
        answers = put_all done room j;
      })

-- the events of a stretch are being done: so many are, in a slice with room for so many
pub record Going (s : Sizes) (whole : RanOn) (bytes : List ℕ) (room : ℕ) (before : List ℕ) (t : Tables) (c : Collector) (place step done : ℕ) (stored : List ℕ) : Type 0 where
  pub known : Known s t c
  pub half : room ≡ length before / 2
  pub long : length stored ≡ length before
  pub few : done ≤ place
  pub same : whole ≡ rest_on s t c bytes place step done stored

pub going_starts : {s : Sizes} {t : Tables} {c : Collector} → Known s t c → (bytes : List ℕ) (place step : ℕ) (before : List ℕ)
    → Going s (ran_on s t c bytes place step before) bytes (length before / 2) before t c place step 0 before
going_starts known bytes place step before =
    record { known = known; half = refl; long = refl; few = omega arith; same = rest_starts known bytes place step before }

-- what stands at a place: an event field of so many bytes, or none
module _ (bytes : List ℕ) (place step : ℕ) {s : Sizes} {whole : RanOn} {room : ℕ} {before : List ℕ} {t : Tables} {c : Collector} {done : ℕ} {answers : List ℕ} (going : Going s whole bytes room before t c place step done answers) where
  pub goes_on_lem : {size : ℕ} → EventSized bytes place step (Some size) → {e : Event} {y : Called} {stored : List ℕ} → e ≡ event_at (byte_at bytes place) bytes (place + 7) → event_on s t c e ≡ y
      → Puts done answers stored (line_of (step + 1) y.answer)
      → Going s whole bytes room before y.tables y.collector (place + size) (step + 1) (done + 1) stored
  goes_on_lem {size} sized {e} {y} {stored} event did puts =
      record {
        known = subst (λ (z : Called). Known s z.tables z.collector) did (known_again going.known bytes place step e);
        half = going.half;
        long = puts.long ∙ going.long;
        few = omega (arith, sized.whole.0, going.few);
        same =
            going.same
            ∙ rest_event going.known bytes place step e (place + size) (sized.reads ∙ ap (λ (d : Event). Ok (event_read (step + 1) d (place + size))) (sym event))
            done answers stored did puts;
      }

  pub going_ends : EventSized bytes place step None → whole ≡ record { ran = record { next = place; step = step; events = done; collector = c }; tables = t; answers = answers }
  going_ends sized =
      going.same
      ∙ rest_ends going.known bytes place step done answers (no_event_is (read_at bytes place (behind step)) sized.none)
