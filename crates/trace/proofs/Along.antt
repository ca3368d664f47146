-- A replay along a stretch: its events are done one after another, each with its line, and the replay goes on behind them, where no event stands.
--     is_event            a field is an event
--     Runs, stretch-runs    a stretch, event by event
--     stretch-ends       behind a stretch no event stands
--     goes_on, goes_on_turn     a replay with turns enough
--     goes_along, goes-stretch     the lines of a stretch, and then what comes behind it; a stretch of a part of the bytes, and of all of them
-- Assumes nothing.
use Prim.Native.Nat.{ℕ, zero, suc, ◌-◌, ◌≤◌, ◌<◌}
use mathlib.Core.Path.{◌≡◌, refl, sym, ap, ◌∙◌, subst}
use mathlib.Core.Bool.{Bool, true, false}
use mathlib.Core.List.{List}
use native.Mathlib.Omega.{arith}
use lib.ListN.{length}
use Rattle.std.specs.Prelude.{Result, Ok, Err}
use Rattle.rules.specs.declared.Sizes.{Sizes}
use Rattle.rules.specs.declared.Event.{Event}
use Rattle.rules.specs.Pool.{Pool}
use Rattle.rules.specs.Outcome.{outcome, answers, after}
use Rattle.fields.specs.declared.Stage.{Stage}
use Rattle.fields.specs.declared.Stage.TheVariants.{Events}
use Rattle.fields.specs.declared.Reader.{Reader}
use Rattle.fields.specs.declared.Field.{Field}
use Rattle.fields.specs.declared.Field.TheVariants as field
use Rattle.fields.specs.declared.Read.{Read}
use Rattle.fields.specs.declared.RefusedAt.{RefusedAt}
use Rattle.fields.specs.Field.{read_at}
use Rattle.fields.specs.Part.{is_taken}
use Rattle.trace.specs.Replay.{Left, stands, Replayed, line_of, with_line, with_lines, goes}
use Rattle.trace.specs.Stretch.{Stretch, no_event, with_event, behind, stretch, lines_behind}
use Rattle.fields.proofs.Comes.{reader_at, event_read, Comes, a_refusal, an_event, the_end, read_comes}
use Rattle.trace.proofs.Turns.{turn, goes_turn, stretch_turn, stretch_turn_lem}

abbrev pub is_event : Result Read RefusedAt → Bool
is_event (Err e) = false
is_event (Ok x) = elim x.field [ field.Sizes s ↦ false | field.Event step e ↦ true | field.End ↦ false | field.Nothing ↦ false ]

pub no_event_is : (r : Result Read RefusedAt) → ((x : Read) (n : ℕ) (e : Event) → r ≡ Ok x → x.field ≡ field.Event n e → ⊥) → is_event r ≡ false
no_event_is (Err e) other = refl
no_event_is (Ok x) other = by_field x.field refl
  where
    by_field : (f : Field) → x.field ≡ f → is_event (Ok (record { field = f; next = x.next; reader = x.reader })) ≡ false
    by_field (field.Sizes s) is = refl
    by_field (field.Event n e) is = absurd (other x n e refl is)
    by_field field.End is = refl
    by_field field.Nothing is = refl

module _ (bytes : List ℕ) (place step : ℕ) where
  -- an event stands there, and the next field behind it
  pub stretch_event : (n : ℕ) (e : Event) (next : ℕ) → read_at bytes place (behind step) ≡ Ok (event_read n e next)
      → stretch bytes place step ≡ with_event e (stretch bytes next n)
  stretch_event n e next read = stretch_turn_lem bytes place step ∙ ap (stretch_turn (stretch bytes) place step) read

  pub stretch-none : is_event (read_at bytes place (behind step)) ≡ false → stretch bytes place step ≡ no_event place step
  stretch-none none = stretch_turn_lem bytes place step ∙ by_read (read_at bytes place (behind step)) none
    where
      by_read : (r : Result Read RefusedAt) → is_event r ≡ false → stretch_turn (stretch bytes) place step r ≡ no_event place step
      by_read (Err e) none = refl
      by_read (Ok x) none = by_field x.field none
        where
          by_field : (f : Field) → is_event (Ok (record { field = f; next = x.next; reader = x.reader })) ≡ false
              → stretch_turn (stretch bytes) place step (Ok (record { field = f; next = x.next; reader = x.reader })) ≡ no_event place step
          by_field (field.Sizes s) none = refl
          by_field (field.Event n e) none = absurd (let z : ◌≡◌ {A = ℕ} 0 1 = cc in omega arith)
          by_field field.End none = refl
          by_field field.Nothing none = refl

module _ (bytes : List ℕ) where
  pub data Runs : ℕ → ℕ → Stretch → Type 0 where
    no_event_lem : {place step : ℕ} → is_event (read_at bytes place (behind step)) ≡ false → Runs place step (no_event place step)
    then_more : {place step next : ℕ} {e : Event} {rest : Stretch}
        → read_at bytes place (behind step) ≡ Ok (event_read (suc step) e next) → Runs next (suc step) rest → Runs place step (with_event e rest)

  runs_within : (most place step : ℕ) → length bytes - place < most → Runs place step (stretch bytes place step)
  runs_within zero place step enough = absurd (omega arith)
  runs_within (suc most) place step enough =
      subst (Runs place step) (sym (stretch_turn_lem bytes place step))
      (by_read (read_at bytes place (behind step)) refl (read_comes bytes place step Events) (λ next n later inside. runs_within most next n (omega arith)))
    where
      by_read : (x : Result Read RefusedAt) → read_at bytes place (behind step) ≡ x → Comes bytes place step Events x
          → ((next n : ℕ) → place < next → next ≤ length bytes → Runs next n (stretch bytes next n))
          → Runs place step (stretch_turn (stretch bytes) place step x)
      by_read x read (a_refusal why) rest = no_event_lem (ap is_event read)
      by_read x read (an_event e next lies) rest = then_more read (rest next (suc step) (omega arith) (omega arith))
      by_read x read (the_end next lies) rest = no_event_lem (ap is_event read)

  pub stretch-runs : (place step : ℕ) → Runs place step (stretch bytes place step)
  stretch-runs place step = runs_within (suc (length bytes)) place step (omega arith)

  ends_at : {place step : ℕ} (x : Stretch) → Runs place step x → is_event (read_at bytes x.next (behind x.step)) ≡ false
  ends_at x (no_event_lem none) = none
  ends_at x (then_more {rest = rest} read more) = ends_at rest more

  pub stretch-ends : (place step : ℕ) → let x = stretch bytes place step in is_event (read_at bytes x.next (behind x.step)) ≡ false
  stretch-ends place step = ends_at (stretch bytes place step) (stretch-runs place step)

module _ (takes : Sizes → Bool) (bytes : List ℕ) where
  -- the replay from a place on
  abbrev pub goes_on : ℕ → Reader → Left → Replayed
  goes_on = goes (suc (length bytes)) takes bytes

  pub goes_on_turn : (place step : ℕ) (stage : Stage) (left : Left)
      → goes_on place (reader_at stage step) left ≡ turn takes goes_on place left (read_at bytes place (reader_at stage step))
  goes_on_turn place step stage left = goes_turn takes bytes (suc (length bytes)) place step stage left (omega arith)

  -- a part whose fields are read so in all the bytes
  module _ (part : List ℕ) (same : (place : ℕ) (reader : Reader) (x : Read) → read_at part place reader ≡ Ok x → is_taken x.field ≡ true → read_at bytes place reader ≡ Ok x) where
    pub goes_along : (s : Sizes) (p : Pool) {place step : ℕ} (x : Stretch) → Runs part place step x
        → goes_on place (behind step) (stands s p)
        ≡ with_lines (lines_behind step (answers s p x.events)) (goes_on x.next (behind x.step) (stands s (after s p x.events)))
    unfolding lines_behind answers after
    goes_along s p x (no_event_lem none) = refl
    goes_along s p x (then_more {place = place} {step = step} {next = next} {e = e} {rest = rest} read more) =
        let o = outcome s p e in
        goes_on_turn place step Events (stands s p)
        ∙ ap (turn takes goes_on place (stands s p)) (same place (behind step) (event_read (suc step) e next) read refl)
        ∙ ap (with_line (line_of (suc step) o.answer)) (goes_along s o.pool rest more)

  pub goes-stretch : (s : Sizes) (p : Pool) (place step : ℕ)
      → let x = stretch bytes place step in
      goes_on place (behind step) (stands s p)
      ≡ with_lines (lines_behind step (answers s p x.events)) (goes_on x.next (behind x.step) (stands s (after s p x.events)))
  goes-stretch s p place step = goes_along bytes (λ place reader x read taken. read) s p (stretch bytes place step) (stretch-runs bytes place step)
