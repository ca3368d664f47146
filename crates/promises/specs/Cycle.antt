-- A cycle, of "What the pool is" of document 01.
--     Opens, Closes     an event opens a cycle, closes one
--     ToClose           events that go on until the cycle closes, with the last of them
--     Cycle             a whole cycle: the event that opens it, and those up to the one that closes it
--     freed_among       a record is freed by one of some events, by their answers
-- Assumes nothing.
use Rattle.std.specs.Prelude.{◌≡◌, Bool, false, ◌||◌, List, [], ◌∷◌}
use Rattle.rules.specs.declared.Sizes.{Sizes}
use Rattle.rules.specs.declared.RecordNumber.{RecordNumber}
use Rattle.rules.specs.declared.Event.{Event}
use Rattle.rules.specs.declared.Answer.{Answer}
use Rattle.rules.specs.Pool.{Pool}
use Rattle.rules.specs.Outcome.{outcome, answers_freed}

-- "A cycle opens with the step out of phase 0"
pub record Opens (s : Sizes) (p : Pool) (e : Event) : Type 0 where
  pub before : p.collector.phase ≡ 0
  pub after : (outcome s p e).pool.collector.phase ≡ 0 → ⊥

-- "and closes with the step back to it"
pub record Closes (s : Sizes) (p : Pool) (e : Event) : Type 0 where
  pub before : p.collector.phase ≡ 0 → ⊥
  pub after : (outcome s p e).pool.collector.phase ≡ 0

pub data ToClose (s : Sizes) : Pool → List Event → Type 0 where
  closing : {p : Pool} {e : Event} → Closes s p e → ToClose s p (e ∷ [])
  going_on : {p : Pool} {e : Event} {events : List Event} → ((outcome s p e).pool.collector.phase ≡ 0 → ⊥) → ToClose s (outcome s p e).pool events → ToClose s p (e ∷ events)

pub record Cycle (s : Sizes) (p : Pool) (e : Event) (events : List Event) : Type 0 where
  pub opens : Opens s p e
  pub to_close : ToClose s (outcome s p e).pool events

-- one of some events answers that the record is freed
unfoldable pub freed_among : RecordNumber → List Event → List Answer → Bool
freed_among a [] answers = false
freed_among a (e ∷ events) [] = false
freed_among a (e ∷ events) (x ∷ answers) = answers_freed a e x || freed_among a events answers
