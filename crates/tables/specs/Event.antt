-- An event on lent tables in which a sound pool lies.
--     Called     what a call answers and leaves
--     LentPool   a pool between two calls: tables and the collector's record
--     written    an outcome of the rules, written out
--     event_on    an event on tables
--     SomePool, Answers     what a worker event that is lent some of the tables asks of them, and what it does
--     InPhase, Steps        the same of a collector step
-- Assumes nothing.
use Rattle.std.specs.Prelude.{ℕ, ◌≡◌}
use Rattle.rules.specs.declared.Sizes.{Sizes}
use Rattle.rules.specs.declared.Event.{Event}
use Rattle.rules.specs.declared.Event.TheVariants.{Collect}
use Rattle.rules.specs.declared.Answer.{Answer}
use Rattle.rules.specs.declared.Collector.{Collector}
use Rattle.rules.specs.declared.Answered.{Answered}
use Rattle.rules.specs.Reply.{Outcome}
use Rattle.rules.specs.Outcome.{outcome}
use Rattle.tables.specs.Tables.{Tables}
use Rattle.tables.specs.Lie.{pool_of, tables_of}
use Rattle.tables.specs.Known.{Known}

-- an answer, the collector's record after it, and every table entry after it
pub record Called : Type 0 where
  pub answer : Answer
  pub collector : Collector
  pub tables : Tables

-- a pool between two calls
pub record LentPool : Type 0 where
  pub tables : Tables
  pub collector : Collector

unfoldable pub written : Sizes → Outcome → Called
written s o = record { answer = o.answer; collector = o.pool.collector; tables = tables_of s o.pool }

unfoldable pub event_on : Sizes → Tables → Collector → Event → Called
event_on s t c e = written s (outcome s (pool_of s t c) e)

-- ---- inner functions, which are lent some of the tables: `at` puts these among the others

-- the tables at hand are tables of a sound pool
abbrev pub SomePool : Sizes → (Tables → Tables) → Type 0
SomePool s at = (t : Tables) × (c : Collector) × Known s (at t) c

-- of every sound pool in whose tables those at hand lie: the event gives this answer, leaves the tables at hand so, and nothing else of the pool changes
abbrev pub Answers : Sizes → Event → (Tables → Tables) → Answer → (Tables → Tables) → Type 0
Answers s e before answer after =
    (t : Tables) (c : Collector) → Known s (before t) c → event_on s (before t) c e ≡ record { answer = answer; collector = c; tables = after t }

-- the tables at hand are tables of a sound pool in this phase
abbrev pub InPhase : ℕ → Sizes → (Tables → Tables) → Collector → Type 0
InPhase k s at c = (t : Tables) × Known s (at t) c × (c.phase ≡ k)

-- of every sound pool in this phase in whose tables those at hand lie: the collect event gives this answer, leaves the collector's record and the tables at
-- hand so, and nothing else of the pool changes
abbrev pub Steps : ℕ → Sizes → (Tables → Tables) → Collector → Answered → (Tables → Tables) → Type 0
Steps k s before c x after =
    (t : Tables) → Known s (before t) c → c.phase ≡ k → event_on s (before t) c Collect ≡ record { answer = x.answer; collector = x.collector; tables = after t }
