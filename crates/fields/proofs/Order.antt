-- What stands at a place, by the order of its tests: "fewer than three bytes left 9; 7; 8; payload not whole 9; then ..", and "a byte after the end field".
--     Headed, payload_whole      the tests on the first three bytes of a field refuse nothing, and its payload is whole
--     at_stage, read_stage       what is read at a stage
-- Assumes nothing.
use Prim.Native.Nat.{ℕ, ◌+◌, ◌≤◌}
use mathlib.Core.Path.{◌≡◌, sym, ap}
use mathlib.Core.Bool.{false}
use mathlib.Core.List.{List}
use borrow.Author.Tests.{le-ltb, eq-eqb, ne_eqb}
use lib.ListN.{length}
use Rattle.std.specs.Prelude.{Result}
use Rattle.rules.specs.declared.Refusal.{Refusal}
use Rattle.fields.specs.declared.Stage.{Stage}
use Rattle.fields.specs.declared.Stage.TheVariants.{First, Events, Ended}
use Rattle.fields.specs.declared.Reader.{Reader}
use Rattle.fields.specs.declared.Read.{Read}
use Rattle.fields.specs.Field.{byte_at, two_at, payload_of, payload_at, misplaced, refusals, decide, taken_or_not, field_at, behind_end, placed, read_at}

-- the first three bytes of a field are there, and no test on them refuses it
pub record Headed (bytes : List ℕ) (place : ℕ) (reader : Reader) (payload : ℕ) : Type 0 where
  pub begins : place + 3 ≤ length bytes
  pub says : payload ≡ payload_at bytes place
  pub known : payload_of (byte_at bytes place) ≡ 0 → ⊥
  pub placed : misplaced reader.stage (byte_at bytes place) ≡ false
  pub long : two_at bytes (place + 1) ≡ payload

pub payload_whole : {bytes : List ℕ} {place : ℕ} {reader : Reader} {payload : ℕ} → Headed bytes place reader payload → place + 3 + payload ≤ length bytes
    → taken_or_not bytes place reader ≡ field_at bytes place reader
unfolding field_at refusals decide taken_or_not
payload_whole {bytes} {place} {reader} {payload} head whole =
    rw (
      ← head.says,
      le-ltb (length bytes) (place + 3) head.begins,
      ne_eqb (payload_of (byte_at bytes place)) 0 head.known,
      head.placed,
      eq-eqb (two_at bytes (place + 1)) payload head.long,
      le-ltb (length bytes) (place + 3 + payload) whole,
    )

module _ (bytes : List ℕ) (place : ℕ) (reader : Reader) where
  abbrev pub at_stage : Stage → Result Read Refusal
  at_stage stage = elim stage [ First ↦ field_at bytes place reader | Events ↦ field_at bytes place reader | Ended ↦ behind_end bytes place reader ]

  pub read_stage : (stage : Stage) → reader.stage ≡ stage → placed place (at_stage stage) ≡ read_at bytes place reader
  unfolding read_at
  read_stage stage e = sym (ap (λ s. placed place (at_stage s)) e)
