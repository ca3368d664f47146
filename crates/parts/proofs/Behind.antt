-- A replay from a place on is the replay of what stands there, with the places moved.
--     moved_replay      a replay, in a trace of which it is not the beginning
--     unmoved_replay    it is the beginning
--     moved_again       what was moved twice
--     goes-behind       the replay from a place on
-- Assumes nothing.
use Prim.Native.Nat.{ℕ, zero, suc, ◌+◌, ◌-◌, ◌≤◌, ◌<◌}
use mathlib.Core.Path.{◌≡◌, refl, sym, ap, ◌∙◌}
use mathlib.Core.Bool.{Bool, true, false, cond}
use mathlib.Core.List.{List}
use native.Mathlib.Omega.{arith}
use native.Mathlib.Nat.{zero-add, add-zero, add_assoc}
use lib.ListN.{length, drop}
use Rattle.std.specs.Prelude.{Result, Ok, Err}
use Rattle.rules.specs.declared.Sizes.{Sizes}
use Rattle.rules.specs.declared.Refusal.TheVariants.{WrongSize}
use Rattle.rules.specs.Pool.{fresh}
use Rattle.rules.specs.Outcome.{outcome}
use Rattle.fields.specs.declared.Stage.{Stage}
use Rattle.fields.specs.declared.Stage.TheVariants.{Events, Ended}
use Rattle.fields.specs.declared.Reader.{Reader}
use Rattle.fields.specs.declared.Read.{Read}
use Rattle.fields.specs.declared.RefusedAt.{RefusedAt}
use Rattle.fields.specs.Field.{refused_at, read_at}
use Rattle.fields.specs.Part.{moved}
use Rattle.trace.specs.Replay.{Left, Ending, untouched, stands, Replayed, stops, line_of, with_line}
use Rattle.fields.proofs.Comes.{reader_at, Comes, a_refusal, the_sizes, an_event, the_end, nothing, read_comes}
use Rattle.trace.proofs.Turns.{turn}
use Rattle.trace.proofs.Along.{goes_on, goes_on_turn}
use Rattle.parts.specs.Part.{moved_ending}
use Rattle.parts.proofs.Field.{read_behind}

abbrev pub moved_replay : ℕ → Replayed → Replayed
moved_replay n x = record { lines = x.lines; ending = moved_ending n x.ending; left = x.left }

pub unmoved_replay : (x : Replayed) → moved_replay 0 x ≡ x
unfolding moved_ending
unmoved_replay x = λ k. record { lines = x.lines; ending = by_ending x.ending k; left = x.left }
  where
    by_ending : (e : Ending) → moved_ending 0 e ≡ e
    by_ending (Ok w) = refl
    by_ending (Err e) = ap (refused_at e.why) (zero-add e.place)

pub moved_again : (m n : ℕ) (x : Replayed) → moved_replay m (moved_replay n x) ≡ moved_replay (m + n) x
unfolding moved_ending
moved_again m n x = λ k. record { lines = x.lines; ending = by_ending x.ending k; left = x.left }
  where
    by_ending : (e : Ending) → moved_ending m (moved_ending n e) ≡ moved_ending (m + n) e
    by_ending (Ok w) = refl
    by_ending (Err e) = ap (refused_at e.why) (sym (add_assoc m n e.place))

-- the sizes are taken, or not
sizes_moved : (n : ℕ) (b : Bool) (place : ℕ) (left : Left) (x y : Replayed) → x ≡ moved_replay n y
    → cond b x (stops WrongSize (n + place) left) ≡ moved_replay n (cond b y (stops WrongSize place left))
unfolding moved_ending
sizes_moved n true place left x y same = same
sizes_moved n false place left x y same = refl

module _ (takes : Sizes → Bool) (bytes : List ℕ) (n : ℕ) (inside : n ≤ length bytes) where
  abbrev rest : List ℕ
  rest = drop n bytes

  moved_within : (turns place step : ℕ) (stage : Stage) (left : Left) → length rest - place < turns
      → goes_on takes bytes (n + place) (reader_at stage step) left ≡ moved_replay n (goes_on takes rest place (reader_at stage step) left)
  unfolding moved moved_ending
  moved_within zero place step stage left enough = absurd (omega arith)
  moved_within (suc turns) place step stage left enough =
      goes_on_turn takes bytes (n + place) step stage left
      ∙ ap (turn takes (goes_on takes bytes) (n + place) left) (read_behind bytes n inside place (reader_at stage step))
      ∙ by_read (read_at rest place (reader_at stage step)) stage left (read_comes rest place step stage)
      (λ next m then x later within. moved_within turns next m then x (omega arith))
      ∙ sym (ap (moved_replay n) (goes_on_turn takes rest place step stage left))
    where
      by_read : (x : Result Read RefusedAt) (stage : Stage) (left : Left) → Comes rest place step stage x
          → ((next m : ℕ) (then : Stage) (y : Left) → place < next → next ≤ length rest
          → goes_on takes bytes (n + next) (reader_at then m) y ≡ moved_replay n (goes_on takes rest next (reader_at then m) y))
          → turn takes (goes_on takes bytes) (n + place) left (moved n x) ≡ moved_replay n (turn takes (goes_on takes rest) place left x)
      by_read x stage left (a_refusal why) same = refl
      by_read x stage left (the_sizes s next range lies) same =
          let pool : Left = stands s (fresh s) in
          sizes_moved n (takes s) place left (goes_on takes bytes (n + next) (reader_at Events 0) pool) (goes_on takes rest next (reader_at Events 0) pool)
          (same next 0 Events pool (omega arith) (omega arith))
      by_read x stage untouched (an_event e next lies) same = refl
      by_read x stage (stands s p) (an_event e next lies) same =
          ap (with_line (line_of (suc step) (outcome s p e).answer))
          (same next (suc step) Events (stands s (outcome s p e).pool) (omega arith) (omega arith))
      by_read x stage left (the_end next lies) same = same next step Ended left (omega arith) (omega arith)
      by_read x stage untouched nothing same = refl
      by_read x stage (stands s p) nothing same = refl

  pub goes-behind : (reader : Reader) (left : Left) → goes_on takes bytes n reader left ≡ moved_replay n (goes_on takes rest 0 reader left)
  goes-behind reader left =
      ap (λ (place : ℕ). goes_on takes bytes place reader left) (sym (add-zero n))
      ∙ moved_within (suc (length rest)) 0 reader.step reader.stage left (omega arith)
