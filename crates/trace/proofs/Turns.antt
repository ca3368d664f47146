-- A replay and a stretch, turn by turn. The definitions count turns; each field that is taken has at least one byte, so that with as many turns as bytes are left
-- it does not show how many there are.
--     Enough, turn, goes_turn                a replay, by what stands at its place
--     stretch_turn, stretch_turn_lem         a stretch, by what stands at its place
-- Assumes nothing.
use Prim.Native.Nat.{ℕ, zero, suc, ◌-◌, ◌≤◌, ◌<◌}
use mathlib.Core.Path.{◌≡◌, refl, ap}
use mathlib.Core.Bool.{Bool, cond}
use mathlib.Core.List.{List}
use native.Mathlib.Omega.{arith}
use lib.ListN.{length}
use Rattle.std.specs.Prelude.{Result, Ok, Err}
use Rattle.rules.specs.declared.Sizes.{Sizes}
use Rattle.rules.specs.declared.Refusal.TheVariants.{WrongSize, StopsShort}
use Rattle.rules.specs.Pool.{fresh}
use Rattle.rules.specs.Outcome.{outcome}
use Rattle.fields.specs.declared.Stage.{Stage}
use Rattle.fields.specs.declared.Stage.TheVariants.{Events, Ended}
use Rattle.fields.specs.declared.Reader.{Reader}
use Rattle.fields.specs.declared.Field.TheVariants as field
use Rattle.fields.specs.declared.Read.{Read}
use Rattle.fields.specs.declared.RefusedAt.{RefusedAt}
use Rattle.fields.specs.Field.{read_at}
use Rattle.trace.specs.Replay.{Left, untouched, stands, Replayed, stops, line_of, with_line, ends, goes}
use Rattle.trace.specs.Stretch.{Stretch, no_event, with_event, behind, stretch_of, stretch}
use Rattle.fields.proofs.Comes.{reader_at, Comes, a_refusal, the_sizes, an_event, the_end, nothing, read_comes}

-- ---- a replay

-- how a replay goes on from a place
abbrev pub Onward : Type 0
Onward = ℕ → Reader → Left → Replayed

-- a turn of a replay that then goes on so
abbrev pub turn : (Sizes → Bool) → Onward → ℕ → Left → Result Read RefusedAt → Replayed
turn takes onward place left (Err e) = stops e.why e.place left
turn takes onward place left (Ok x) =
    elim x.field [
      | field.Sizes s ↦ cond (takes s) (onward x.next x.reader (stands s (fresh s))) (stops WrongSize place left)
      | field.Event step e ↦
          elim left [
            | untouched ↦ stops StopsShort place untouched
            | stands s p ↦ let o = outcome s p e in with_line (line_of step o.answer) (onward x.next x.reader (stands s o.pool))
          ]
      | field.End ↦ onward x.next x.reader left
      | field.Nothing ↦ ends place left
    ]

module _ (takes : Sizes → Bool) (bytes : List ℕ) where
  -- two replays that go on alike behind a field that is taken
  same_turn : (first second : Onward) (place step : ℕ) (stage : Stage) (left : Left)
      → ((next n : ℕ) (then : Stage) (x : Left) → place < next → next ≤ length bytes → first next (reader_at then n) x ≡ second next (reader_at then n) x)
      → turn takes first place left (read_at bytes place (reader_at stage step)) ≡ turn takes second place left (read_at bytes place (reader_at stage step))
  same_turn first second place step stage left same = by_read (read_at bytes place (reader_at stage step)) stage left (read_comes bytes place step stage)
    where
      by_read : (x : Result Read RefusedAt) (stage : Stage) (left : Left) → Comes bytes place step stage x → turn takes first place left x ≡ turn takes second place left x
      by_read x stage left (a_refusal why) = refl
      by_read x stage left (the_sizes s next range lies) =
          ap (λ (rest : Replayed). cond (takes s) rest (stops WrongSize place left)) (same next 0 Events (stands s (fresh s)) (omega arith) (omega arith))
      by_read x stage untouched (an_event e next lies) = refl
      by_read x stage (stands s p) (an_event e next lies) =
          ap (with_line (line_of (suc step) (outcome s p e).answer))
          (same next (suc step) Events (stands s (outcome s p e).pool) (omega arith) (omega arith))
      by_read x stage left (the_end next lies) = same next step Ended left (omega arith) (omega arith)
      by_read x stage left nothing = refl

  -- more turns than bytes are left are enough: nothing that is taken stands behind the last byte
  pub goes_turn : (turns place step : ℕ) (stage : Stage) (left : Left) → length bytes - place < turns
      → goes turns takes bytes place (reader_at stage step) left ≡ turn takes (goes turns takes bytes) place left (read_at bytes place (reader_at stage step))
  unfolding goes
  goes_turn zero place step stage left enough = absurd (omega arith)
  goes_turn (suc turns) place step stage left enough =
      same_turn (goes turns takes bytes) (goes (suc turns) takes bytes) place step stage left
      (λ next n then x later inside. goes_turn turns next n then x (omega arith))

-- ---- a stretch

-- a turn of a stretch that then goes on so
abbrev pub stretch_turn : (ℕ → ℕ → Stretch) → ℕ → ℕ → Result Read RefusedAt → Stretch
stretch_turn onward place step (Err e) = no_event place step
stretch_turn onward place step (Ok x) =
    elim x.field [
      | field.Event n e ↦ with_event e (onward x.next n)
      | field.Sizes s ↦ no_event place step
      | field.End ↦ no_event place step
      | field.Nothing ↦ no_event place step
    ]

module _ (bytes : List ℕ) where
  -- two stretches that go on alike behind an event
  same_stretch : (first second : ℕ → ℕ → Stretch) (place step : ℕ)
      → ((next n : ℕ) → place < next → next ≤ length bytes → first next n ≡ second next n)
      → stretch_turn first place step (read_at bytes place (behind step)) ≡ stretch_turn second place step (read_at bytes place (behind step))
  same_stretch first second place step same = by_read (read_at bytes place (behind step)) (read_comes bytes place step Events)
    where
      by_read : (x : Result Read RefusedAt) → Comes bytes place step Events x → stretch_turn first place step x ≡ stretch_turn second place step x
      by_read x (a_refusal why) = refl
      by_read x (an_event e next lies) = ap (with_event e) (same next (suc step) (omega arith) (omega arith))
      by_read x (the_end next lies) = refl

  stretch_of_turn : (most place step : ℕ) → length bytes - place < most
      → stretch_of most bytes place step ≡ stretch_turn (stretch_of most bytes) place step (read_at bytes place (behind step))
  unfolding stretch_of
  stretch_of_turn zero place step enough = absurd (omega arith)
  stretch_of_turn (suc most) place step enough =
      same_stretch (stretch_of most bytes) (stretch_of (suc most) bytes) place step (λ next n later inside. stretch_of_turn most next n (omega arith))

  pub stretch_turn_lem : (place step : ℕ) → stretch bytes place step ≡ stretch_turn (stretch bytes) place step (read_at bytes place (behind step))
  unfolding stretch
  stretch_turn_lem place step = stretch_of_turn (suc (length bytes)) place step (omega arith)
