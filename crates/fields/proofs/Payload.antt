-- A field whose payload is whole, by its tag: refused where b, the test of its payload, is true, and else taken. Each law takes what was read of the field
-- as equations.
--     sizes_read_lem     the sizes
--     end_read_lem       the end
--     event_read_lem     an event
-- Assumes nothing.
use Prim.Native.Nat.{ℕ, ◌+◌}
use mathlib.Core.Path.{◌≡◌}
use mathlib.Core.Bool.{Bool, cond, not}
use mathlib.Core.List.{List}
use borrow.Author.Tests.{eq-eqb, ne_eqb}
use lib.Dec.{eqb}
use Rattle.std.specs.Prelude.{Result, Ok, Err}
use Rattle.rules.specs.declared.Sizes.{Sizes}
use Rattle.rules.specs.declared.Event.{Event}
use Rattle.rules.specs.declared.Refusal.{Refusal}
use Rattle.rules.specs.declared.Refusal.TheVariants.{WrongSize, WrongStep, WrongCount}
use Rattle.rules.specs.Size.{in_range}
use Rattle.fields.specs.declared.Stage.TheVariants.{Events, Ended}
use Rattle.fields.specs.declared.Reader.{Reader}
use Rattle.fields.specs.declared.Read.{Read}
use Rattle.fields.specs.declared.Field.TheVariants as field
use Rattle.fields.specs.Field.{byte_at, four_at, sizes_tag, end_tag, payload_at, sizes_at, event_at, decide, taken, taken_or_not}

module _ (bytes : List ℕ) (place : ℕ) (reader : Reader) {payload : ℕ} (b : Bool) (long : payload ≡ payload_at bytes place) where
  pub sizes_read_lem : {s : Sizes} {fits : Bool} → byte_at bytes place ≡ sizes_tag → s ≡ sizes_at bytes (place + 3) payload → fits ≡ in_range s → not fits ≡ b
      → ◌≡◌ {A = Result Read Refusal}
      (cond b (Err WrongSize) (Ok (record { field = field.Sizes s; next = place + 3 + payload; reader = record { stage = Events; step = 0 } })))
      (taken_or_not bytes place reader)
  unfolding taken_or_not decide taken
  sizes_read_lem tag sizes range test = rw (← long, eq-eqb (byte_at bytes place) sizes_tag tag, ← sizes, ← range, test)

  module _ {step : ℕ} (other : byte_at bytes place ≡ sizes_tag → ⊥) (number : step ≡ four_at bytes (place + 3)) where
    pub end_read_lem : byte_at bytes place ≡ end_tag → not (eqb step reader.step) ≡ b
        → ◌≡◌ {A = Result Read Refusal}
        (cond b (Err WrongCount) (Ok (record { field = field.End; next = place + 3 + payload; reader = record { stage = Ended; step = reader.step } })))
        (taken_or_not bytes place reader)
    unfolding taken_or_not decide taken
    end_read_lem tag test =
        rw (← long, ne_eqb (byte_at bytes place) sizes_tag other, eq-eqb (byte_at bytes place) end_tag tag, ← number, test)

    pub event_read_lem : {e : Event} → (byte_at bytes place ≡ end_tag → ⊥) → e ≡ event_at (byte_at bytes place) bytes (place + 3 + 4)
        → not (eqb step (reader.step + 1)) ≡ b
        → ◌≡◌ {A = Result Read Refusal}
        (cond b (Err WrongStep) (Ok (record { field = field.Event step e; next = place + 3 + payload; reader = record { stage = Events; step = step } })))
        (taken_or_not bytes place reader)
    unfolding taken_or_not decide taken
    event_read_lem more event test =
        rw (← long, ne_eqb (byte_at bytes place) sizes_tag other, ne_eqb (byte_at bytes place) end_tag more, ← number, ← event, test)
