-- A trace behind its sizes field.
--     fresh-refused, inexact, untold     the lent tables have other lengths: nothing is touched, and nothing is told
--     Started, fresh_starts, started_known, started_pool     else they are those of a fresh pool
--     length_lines, free_written     how many lines the events give; the free records, counted in the table of a pool
--     sized-ends, sized_told        the events done, and how the trace stands behind them, are the whole of it; and what is told of them
-- Assumes nothing.
use Prim.Native.Nat.{ℕ, suc}
use mathlib.Core.Path.{◌≡◌, refl, sym, ap, ◌∙◌, subst}
use mathlib.Core.Bool.{Bool, true, false, cond, ◌&&◌}
use mathlib.Core.List.{List, [], ◌∷◌, append-nil}
use native.Mathlib.Omega.{arith}
use lib.ListN.{length}
use Rattle.rules.specs.declared.Sizes.{Sizes}
use Rattle.rules.specs.declared.Event.{Event}
use Rattle.rules.specs.declared.Refusal.{Refusal}
use Rattle.rules.specs.declared.Refusal.TheVariants.{WrongSize}
use Rattle.rules.specs.declared.Answer.TheVariants.{Fresh, Refused}
use Rattle.rules.specs.declared.Collector.{Collector}
use Rattle.rules.specs.Size.{in_range}
use Rattle.rules.specs.Pool.{Pool, fresh}
use Rattle.rules.specs.Outcome.{outcome, answers, after, free_marks, free_records}
use Rattle.rules.specs.Sound.{Sound}
use Rattle.laws.proofs.Runs.{run_keeps}
use Rattle.soundness.proofs.Kept.{fresh_is_sound, event_keeps_sound}
use Rattle.tables.specs.Tables.{Tables}
use Rattle.tables.specs.Bits.{words_of}
use Rattle.tables.specs.Lie.{pool_of, tables_of}
use Rattle.tables.specs.Known.{Known}
use Rattle.tables.specs.Event.{Called, written}
use Rattle.tables.proofs.Packed.{length-words_of, packed_words, marks_words}
use Rattle.tables.proofs.RoundTrip.{pool_of_tables, sound_known}
use Rattle.fresh.specs.Fits.{is_exact, refused_on}
use Rattle.fresh.specs.Fresh.{made_fresh}
use Rattle.fresh.specs.Free.{free_in}
use Rattle.fresh.proofs.Free.{free_marks_lem}
use Rattle.trace.specs.declared.Stood.{Stood}
use Rattle.fields.specs.Field.{refused_at}
use Rattle.trace.specs.Replay.{Ending, untouched, stands, stops, with_lines}
use Rattle.trace.specs.Stretch.{behind, stretch, lines_behind, put, RanOn, ran_of, ran_on}
use Rattle.trace.specs.Stand.{stand_behind, ending_of}
use Rattle.trace.specs.Traced.{Traced, traced_by, sized}
use Rattle.trace.specs.Told.{Telling, told_by, told_on, told_sized}
use Rattle.trace.proofs.Along.{goes_on, stretch-ends, goes-stretch}
use Rattle.trace.proofs.Behind.{goes_last}

-- a fresh pool, if the lent tables have its lengths
made : Sizes → Tables → Collector → Bool → Called
made s t c exact = cond exact (written s (record { answer = Fresh; pool = fresh s })) (refused_on WrongSize t c)

-- the tables had the lengths of these sizes, and a fresh pool lies in them now
pub record Started (s : Sizes) (t : Tables) (y : Called) : Type 0 where
  pub exact : is_exact s t ≡ true
  pub lies : y ≡ written s (record { answer = Fresh; pool = fresh s })

module _ (s : Sizes) (t : Tables) (c : Collector) (range : in_range s ≡ true) {y : Called} (call : made_fresh s t c ≡ y) where
  fresh_made : made s t c (is_exact s t) ≡ y
  unfolding made_fresh made
  fresh_made = ap (λ (b : Bool). made s t c (b && is_exact s t)) (sym range) ∙ call

  pub fresh-refused : (why : Refusal) → y.answer ≡ Refused why → (bytes : List ℕ) (place : ℕ) (room : List ℕ)
      → sized s t c bytes place room ≡ record { replay = record { ending = refused_at why 0; events = 0; collector = c }; tables = y.tables; answers = room }
  unfolding made written sized traced_by put
  fresh-refused why refused bytes place room = by_exact (is_exact s t) fresh_made
    where
      by_exact : (b : Bool) → made s t c b ≡ y
          → traced_by t c room (cond b (goes_on (λ s. is_exact s t) bytes place (behind 0) (stands s (fresh s))) (stops WrongSize 0 untouched))
          ≡ record { replay = record { ending = refused_at why 0; events = 0; collector = c }; tables = y.tables; answers = room }
      by_exact true e =
          let other : Fresh ≡ Refused why = ap (λ (z : Called). z.answer) e ∙ refused in
          absurd (let z : ◌≡◌ {A = ℕ} 0 1 = cc in omega arith)
      by_exact false e =
          let same : Refused WrongSize ≡ Refused why = ap (λ (z : Called). z.answer) e ∙ refused in
          let because : WrongSize ≡ why = cc in
          λ j. record { replay = record { ending = refused_at (because j) 0; events = 0; collector = c }; tables = (e j).tables; answers = room }

  pub inexact : (why : Refusal) → y.answer ≡ Refused why → is_exact s t ≡ false
  unfolding made written
  inexact why refused = by_exact (is_exact s t) refl fresh_made
    where
      by_exact : (b : Bool) → is_exact s t ≡ b → made s t c b ≡ y → is_exact s t ≡ false
      by_exact true exact e =
          let other : Fresh ≡ Refused why = ap (λ (z : Called). z.answer) e ∙ refused in
          absurd (let z : ◌≡◌ {A = ℕ} 0 1 = cc in omega arith)
      by_exact false exact e = exact

  pub fresh_starts : ((why : Refusal) → y.answer ≡ Refused why → ⊥) → Started s t y
  unfolding made written
  fresh_starts taken = by_exact (is_exact s t) refl fresh_made
    where
      by_exact : (b : Bool) → is_exact s t ≡ b → made s t c b ≡ y → Started s t y
      by_exact true exact e = record { exact = exact; lies = sym e }
      by_exact false exact e = absurd (taken WrongSize (ap (λ (z : Called). z.answer) (sym e)))

pub untold : {X : Type 0} (tell : Telling X) (s : Sizes) (t : Tables) (bytes : List ℕ) (place : ℕ) (x : X) → is_exact s t ≡ false → x ≡ told_sized tell s t bytes place x
unfolding told_sized
untold tell s t bytes place x inexact = ap (λ (b : Bool). cond b (told_by tell s (fresh s) x (stretch bytes place 0).events) x) (sym inexact)

pub length_lines : (s : Sizes) (p : Pool) (step : ℕ) (events : List Event) → length (lines_behind step (answers s p events)) ≡ length events
unfolding lines_behind answers
length_lines s p step [] = refl
length_lines s p step (e ∷ events) = ap suc (length_lines s (outcome s p e).pool (suc step) events)

-- the free records, counted in the table of a pool
pub free_written : (s : Sizes) (q : Pool) → Sound s q → free_records q ≡ free_in s.n (tables_of s q).used
unfolding free_records tables_of
free_written s q sound =
    let used : List Bool = q.records.used in
    let size : length used ≡ s.n = sound.shaped.records.used in
    sym (free_marks_lem s.n (words_of used) (length-words_of s.n used size) (packed_words s.n used size) ∙ ap free_marks (marks_words s.n used size))

module _ {s : Sizes} {t : Tables} {y : Called} (range : in_range s ≡ true) (started : Started s t y) where
  pub started_known : Known s y.tables y.collector
  unfolding written
  started_known = subst (λ (z : Called). Known s z.tables z.collector) (sym started.lies) (sound_known s range (fresh s) (fresh_is_sound s))

  pub started_pool : pool_of s y.tables y.collector ≡ fresh s
  unfolding written
  started_pool =
      let sound = fresh_is_sound s in
      ap (λ (z : Called). pool_of s z.tables z.collector) started.lies ∙ pool_of_tables s (fresh s) sound.shaped sound.log_length sound.history_length

  pub sized_told : {X : Type 0} (tell : Telling X) (bytes : List ℕ) (place : ℕ) (x : X) → told_on tell s y.tables y.collector bytes place 0 x ≡ told_sized tell s t bytes place x
  unfolding told_sized
  sized_told tell bytes place x =
      let events = (stretch bytes place 0).events in
      ap (λ (p : Pool). told_by tell s p x events) started_pool ∙ ap (λ (b : Bool). cond b (told_by tell s (fresh s) x events) x) (sym started.exact)

  module _ (c : Collector) (bytes : List ℕ) (place : ℕ) (room : List ℕ) where
    -- how the trace stands behind the events that were done
    abbrev pub standing : RanOn → Stood
    standing x = stand_behind true (free_in s.n x.tables.used) x.ran.collector.closed bytes x.ran.next (behind x.ran.step)

    -- the whole, from that
    abbrev pub whole : RanOn → Traced
    whole x =
        record {
          replay = record { ending = ending_of (standing x).stand x.ran.next; events = x.ran.events; collector = x.ran.collector };
          tables = x.tables;
          answers = x.answers;
        }

    pub replay_runs : sized s t c bytes place room ≡ whole (ran_of s (fresh s) bytes place 0 room)
    unfolding sized traced_by
    replay_runs =
        let takes : Sizes → Bool = (λ s. is_exact s t) in
        let x = stretch bytes place 0 in
        let q = after s (fresh s) x.events in
        let sound : Sound s q = run_keeps s (Sound s) (event_keeps_sound s range) (fresh s) (fresh_is_sound s) x.events in
        let lines = lines_behind 0 (answers s (fresh s) x.events) in
        ap (λ (b : Bool). traced_by t c room (cond b (goes_on takes bytes place (behind 0) (stands s (fresh s))) (stops WrongSize 0 untouched))) started.exact
        ∙ ap (traced_by t c room)
        (goes-stretch takes bytes s (fresh s) place 0 ∙ ap (with_lines lines) (goes_last takes bytes s q x.next x.step (stretch-ends bytes place 0)))
        ∙ (λ j.
        record {
          replay =
              record {
                ending = ending_of (stand_behind true (free_written s q sound j) q.collector.closed bytes x.next (behind x.step)).stand x.next;
                events = (ap length (append-nil lines) ∙ length_lines s (fresh s) 0 x.events) j;
                collector = q.collector;
              };
          tables = tables_of s q;
          answers = put room (append-nil lines j);
        })

    sized-runs : {x : RanOn} → ran_on s y.tables y.collector bytes place 0 room ≡ x → sized s t c bytes place room ≡ whole x
    unfolding ran_on
    sized-runs {x} run = replay_runs ∙ ap whole (ap (λ (p : Pool). ran_of s p bytes place 0 room) (sym started_pool) ∙ run)

    pub sized-ends : {x : RanOn} {stood : Stood} {ending : Ending}
        → ran_on s y.tables y.collector bytes place 0 room ≡ x
        → stood ≡ standing x
        → ending ≡ ending_of stood.stand x.ran.next
        → sized s t c bytes place room
        ≡ record { replay = record { ending = ending; events = x.ran.events; collector = x.ran.collector }; tables = x.tables; answers = x.answers }
    sized-ends {x} run behind-events ends =
        sized-runs run
        ∙ (λ j.
        record {
          replay = record { ending = sym (ends ∙ ap (λ (z : Stood). ending_of z.stand x.ran.next) behind-events) j; events = x.ran.events; collector = x.ran.collector };
          tables = x.tables;
          answers = x.answers;
        })
