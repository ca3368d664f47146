-- "ended_whole case, input in hexadecimal", of document 01: its bytes, the lines that are printed for it, and what specs/Promise.antt says of it, computed by the
-- definitions.
-- Assumes nothing.
use Prim.Native.Nat.{ℕ}
use mathlib.Core.Path.{◌≡◌, refl}
use mathlib.Core.Bool.{true}
use mathlib.Core.List.{List, [], ◌∷◌, ◌++◌}
use Rattle.rules.specs.declared.Event.TheVariants.{Make, Drop, Collect}
use Rattle.rules.proofs.Starred.{computes}
use Rattle.fields.specs.Field.{payload_of, payload_for, event_at, refusals, decide, taken, field_at, behind_end, read_at}
use Rattle.trace.specs.Replay.{Line, ended_whole, goes, replayed}
use Rattle.trace.specs.Stretch.{stretch_of, stretch}
use Rattle.trace.specs.Promise.{events_of, line_at, line_frees}

-- 20 0004 with a step number
collect_at : ℕ → List ℕ
collect_at step = 0x20 ∷ 0x00 ∷ 0x04 ∷ 0x00 ∷ 0x00 ∷ 0x00 ∷ step ∷ []

bytes : List ℕ
bytes =
    (0x01 ∷ 0x00 ∷ 0x08 ∷ 0x00 ∷ 0x02 ∷ 0x00 ∷ 0x01 ∷ 0x00 ∷ 0x01 ∷ 0x00 ∷ 0x01 ∷ [])
    ++ (0x10 ∷ 0x00 ∷ 0x06 ∷ 0x00 ∷ 0x00 ∷ 0x00 ∷ 0x01 ∷ 0x00 ∷ 0x00 ∷ [])
    ++ (0x12 ∷ 0x00 ∷ 0x06 ∷ 0x00 ∷ 0x00 ∷ 0x00 ∷ 0x02 ∷ 0x00 ∷ 0x00 ∷ [])
    ++ collect_at 3 ++ collect_at 4 ++ collect_at 5 ++ collect_at 6 ++ collect_at 7 ++ collect_at 8
    ++ (0x10 ∷ 0x00 ∷ 0x06 ∷ 0x00 ∷ 0x00 ∷ 0x00 ∷ 0x09 ∷ 0x00 ∷ 0x00 ∷ [])
    ++ (0x7F ∷ 0x00 ∷ 0x04 ∷ 0x00 ∷ 0x00 ∷ 0x00 ∷ 0x09 ∷ [])

line : ℕ → ℕ → ℕ → Line
line step number value = record { step = step; number = number; value = value }

printed : (replayed (λ s. true) bytes).lines
    ≡ line 1 0 1 ∷ line 2 0 0 ∷ line 3 0 0 ∷ line 4 0 0 ∷ line 5 0 0 ∷ line 6 0 0 ∷ line 7 0 1 ∷ line 8 0 0 ∷ line 9 0 2 ∷ []
unfolding computes collect_at bytes line payload_of payload_for event_at refusals decide taken field_at behind_end read_at goes replayed
printed = refl

ended : (replayed (λ s. true) bytes).ending ≡ ended_whole 1 1
unfolding computes collect_at bytes line payload_of payload_for event_at refusals decide taken field_at behind_end read_at goes replayed
ended = refl

-- the words of what is promised speak of these events, and of the line that frees record 1
events : events_of bytes ≡ Make 0 0 ∷ Drop 0 0 ∷ Collect ∷ Collect ∷ Collect ∷ Collect ∷ Collect ∷ Collect ∷ Make 0 0 ∷ []
unfolding computes collect_at bytes payload_of payload_for event_at refusals decide taken field_at behind_end read_at stretch_of stretch events_of
events = refl

freed : line_frees (record { 0 = 1 }) Collect (line_at (replayed (λ s. true) bytes).lines 6) ≡ true
unfolding computes collect_at bytes payload_of payload_for event_at refusals decide taken field_at behind_end read_at goes replayed line_frees
freed = refl
