-- What each exported call answers and leaves: the public calls of `pool`, with an answer as its number and its value, and the collector's record as three numbers.
--     sizes_of, collector_of     sizes and the collector's record, of numbers
--     event_of              the event of a tag and four numbers
--     Numbers, numbers     all that a call on a pool answers and leaves, in numbers
-- Assumes nothing.
use Rattle.std.specs.Prelude.{ℕ, cond, eqb}
use Rattle.rules.specs.declared.Sizes.{Sizes}
use Rattle.rules.specs.declared.Event.{Event}
use Rattle.rules.specs.declared.Event.TheVariants.{Make, Move, Drop, Load, Store, Look, Post, Collect}
use Rattle.rules.specs.declared.Collector.{Collector}
use Rattle.rules.specs.Reply.{number, value}
use Rattle.tables.specs.Tables.{Tables}
use Rattle.tables.specs.Event.{Called}

abbrev pub sizes_of : (n k w r b : ℕ) → Sizes
sizes_of n k w r b = record { n = n; k = k; w = w; r = r; b = b }

abbrev pub collector_of : (phase position closed : ℕ) → Collector
collector_of phase position closed = record { phase = phase; position = position; closed = closed }

-- the event of a trace's tag, with its numbers in the trace's order; collect, if it is no other's
unfoldable pub event_of : (tag a b c d : ℕ) → Event
event_of tag a b c d =
    cond (eqb tag 0x10) (Make a b)
    (cond (eqb tag 0x11) (Move a b c)
    (cond (eqb tag 0x12) (Drop a b)
    (cond (eqb tag 0x13) (Load a b c d)
    (cond (eqb tag 0x14) (Store a b c d)
    (cond (eqb tag 0x15) (Look a b c)
    (cond (eqb tag 0x16) (Post a b c)
    Collect))))))

-- the number and the value of the answer, the collector's record, and every table entry
pub record Numbers : Type 0 where
  pub number : ℕ
  pub value : ℕ
  pub phase : ℕ
  pub position : ℕ
  pub closed : ℕ
  pub tables : Tables

unfoldable pub numbers : Called → Numbers
numbers x =
    record {
      number = number x.answer;
      value = value x.answer;
      phase = x.collector.phase;
      position = x.collector.position;
      closed = x.collector.closed;
      tables = x.tables;
    }
