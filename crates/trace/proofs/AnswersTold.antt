-- What `Answers` is told of a trace is what the call on a whole trace puts into the caller's slice.
--     answers_by        of the events of a run
--     answers_traced    of a trace
--     traced_with       what the call answers beside
-- Assumes nothing.
use Prim.Native.Nat.{ℕ, suc, ◌+◌}
use mathlib.Core.Path.{◌≡◌, refl, sym, ap, ◌∙◌}
use mathlib.Core.Bool.{Bool, true, false, cond}
use mathlib.Core.List.{List, [], ◌∷◌}
use native.Mathlib.Omega.{arith}
use native.Mathlib.Nat.{add-zero}
use native.Mathlib.Numerals.{add-one}
use lib.ListN.{length}
use Rattle.std.specs.Prelude.{Result}
use Rattle.rules.specs.declared.Sizes.{Sizes}
use Rattle.rules.specs.declared.Event.{Event}
use Rattle.rules.specs.declared.Collector.{Collector}
use Rattle.rules.specs.declared.Refusal.TheVariants.{WrongSize}
use Rattle.rules.specs.Size.{in_range}
use Rattle.rules.specs.Pool.{Pool, fresh}
use Rattle.rules.specs.Outcome.{outcome, answers}
use Rattle.tables.specs.Tables.{Tables}
use Rattle.fresh.specs.Fits.{is_exact}
use Rattle.fields.specs.declared.Stage.TheVariants.{First}
use Rattle.fields.specs.declared.Read.{Read}
use Rattle.fields.specs.declared.RefusedAt.{RefusedAt}
use Rattle.fields.specs.Field.{read_at}
use Rattle.fields.proofs.Comes.{Comes, a_refusal, the_sizes, read_comes}
use Rattle.trace.specs.declared.teller.Answers.{Answers}
use Rattle.trace.specs.Replay.{untouched, stands, stops, at_start}
use Rattle.trace.specs.Stretch.{behind, stretch, lines_behind, put, put_from}
use Rattle.trace.specs.Traced.{Traced, traced, traced_by, sized}
use Rattle.trace.specs.Told.{told_of, told_by, told_sized, told_traced, answer_put}
use Rattle.trace.proofs.Put.{put_all, put_then}
use Rattle.trace.proofs.Along.{goes_on}
use Rattle.trace.proofs.Sized.{replay_runs}
use Rattle.trace.proofs.FirstField.{traced-sized, traced-refused, refused_told, sizes_told}

-- the same slice, with other contents, and other many events
abbrev with_answers : Answers → List ℕ → ℕ → Answers
with_answers x now events = record { answers = record { ref_ptr = x.answers.ref_ptr; ghost_name = x.answers.ghost_name; now = now }; events = events }

pub answers_by : (s : Sizes) (p : Pool) (step : ℕ) (events : List Event) (x : Answers)
    → told_by answer_put s p x events ≡ with_answers x (put_from x.events x.answers.now (lines_behind step (answers s p events))) (x.events + length events)
unfolding told_by lines_behind answers
answers_by s p step [] x = λ j. with_answers x (sym (put_all x.events x.answers.now) j) (sym (add-zero x.events) j)
answers_by s p step (e ∷ events) x =
    let o = outcome s p e in
    let y : Answers = told_of answer_put s p x e in
    let count : x.events + 1 + length events ≡ x.events + suc (length events) = omega arith in
    answers_by s o.pool (suc step) events y
    ∙ (λ j. with_answers x ((ap (λ (i : ℕ). put_from i y.answers.now (lines_behind (suc step) (answers s o.pool events))) (add-one x.events) ∙ sym (put_then x.events (suc step) x.answers.now o.answer (lines_behind (suc step) (answers s o.pool events)))) j) (count j))

-- ---- a trace

module _ (t : Tables) (c : Collector) (bytes : List ℕ) (x : Answers) (none : x.events ≡ 0) where
  abbrev lent : List ℕ
  lent = x.answers.now

  sized_answers : (s : Sizes) (place : ℕ) → in_range s ≡ true
      → (told_sized answer_put s t bytes place x).answers ≡ (with_answers x (sized s t c bytes place lent).answers 0).answers
  unfolding told_sized sized traced_by put put_from
  sized_answers s place range = by_exact (is_exact s t) refl
    where
      events : List Event
      events = (stretch bytes place 0).events

      told : Bool → Answers
      told b = cond b (told_by answer_put s (fresh s) x events) x

      by_exact : (b : Bool) → is_exact s t ≡ b → (told (is_exact s t)).answers ≡ (with_answers x (sized s t c bytes place lent).answers 0).answers
      by_exact true exact =
          ap (λ (b : Bool). (told b).answers) exact
          ∙ ap (λ (y : Answers). y.answers) (answers_by s (fresh s) 0 events x)
          ∙ (λ j.
          (with_answers x
          ((ap (λ (i : ℕ). put_from i lent (lines_behind 0 (answers s (fresh s) events))) none
          ∙ ap (λ (z : Traced). z.answers) (sym (replay_runs range (record { exact = exact; lies = refl }) c bytes place lent))) j)
          0).answers)
      by_exact false inexact =
          ap (λ (b : Bool). (told b).answers) inexact
          ∙ (λ j.
          (with_answers x
          (ap (λ (b : Bool). (traced_by t c lent (cond b (goes_on (λ s. is_exact s t) bytes place (behind 0) (stands s (fresh s))) (stops WrongSize 0 untouched))).answers) (sym inexact) j)
          0).answers)

  pub answers_traced : (told_traced answer_put t bytes x).answers ≡ (with_answers x (traced t c bytes lent).answers 0).answers
  answers_traced = by_read (read_at bytes 0 at_start) refl (read_comes bytes 0 0 First)
    where
      by_read : (r : Result Read RefusedAt) → read_at bytes 0 at_start ≡ r → Comes bytes 0 0 First r
          → (told_traced answer_put t bytes x).answers ≡ (with_answers x (traced t c bytes lent).answers 0).answers
      by_read r read (a_refusal why) =
          ap (λ (y : Answers). y.answers) (sym (refused_told answer_put t bytes x read))
          ∙ (λ j. (with_answers x (ap (λ (z : Traced). z.answers) (sym (traced-refused t c bytes lent read)) j) 0).answers)
      by_read r read (the_sizes s next range lies) =
          ap (λ (y : Answers). y.answers) (sym (sizes_told answer_put t bytes x read refl))
          ∙ sized_answers s next range
          ∙ (λ j. (with_answers x (ap (λ (z : Traced). z.answers) (sym (traced-sized t c bytes lent read refl)) j) 0).answers)

-- the rest of what the call answers is the same, whatever the room
pub traced_with : (t : Tables) (c : Collector) (bytes room : List ℕ) {answers : List ℕ} → (traced t c bytes room).answers ≡ answers
    → traced t c bytes room ≡ record { replay = (traced t c bytes []).replay; tables = (traced t c bytes []).tables; answers = answers }
unfolding traced traced_by
traced_with t c bytes room same = λ j. record { replay = (traced t c bytes []).replay; tables = (traced t c bytes []).tables; answers = same j }
