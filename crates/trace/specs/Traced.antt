-- A whole trace on lent tables: what the call answers and leaves, for every byte string and every table.
--     left_on             the tables and the collector's record at the end of a replay
--     Traced, traced_by   all that the call answers and leaves, by a replay
--     traced              by the replay of the trace
--     sized               by what comes behind a sizes field
-- Assumes nothing.
use Rattle.std.specs.Prelude.{ℕ, suc, cond, List, length}
use Rattle.rules.specs.declared.Sizes.{Sizes}
use Rattle.rules.specs.declared.Refusal.TheVariants.{WrongSize}
use Rattle.rules.specs.declared.Collector.{Collector}
use Rattle.rules.specs.Pool.{fresh}
use Rattle.tables.specs.Tables.{Tables}
use Rattle.tables.specs.Lie.{tables_of}
use Rattle.fresh.specs.Fits.{is_exact}
use Rattle.tables.specs.Event.{LentPool}
use Rattle.trace.specs.declared.Replay.{Replay}
use Rattle.trace.specs.Replay.{Left, untouched, stands, Replayed, stops, goes, replayed}
use Rattle.trace.specs.Stretch.{behind, put}

-- "ends the replay with the tables as the fields before left them"
abbrev pub left_on : LentPool → Left → LentPool
left_on x untouched = x
left_on x (stands s p) = record { tables = tables_of s p; collector = p.collector }

-- all that the call answers and leaves
pub record Traced : Type 0 where
  pub replay : Replay
  pub tables : Tables
  pub answers : List ℕ

unfoldable pub traced_by : Tables → Collector → List ℕ → Replayed → Traced
traced_by t c room x =
    let y : LentPool = left_on (record { tables = t; collector = c }) x.left in
    record {
      replay = record { ending = x.ending; events = length x.lines; collector = y.collector };
      tables = y.tables;
      answers = put room x.lines;
    }

-- Sizes are taken if the lent tables have their lengths
unfoldable pub traced : Tables → Collector → List ℕ → List ℕ → Traced
traced t c bytes room = traced_by t c room (replayed (λ s. is_exact s t) bytes)

-- what comes behind a sizes field, which stands at the trace's start
unfoldable pub sized : Sizes → Tables → Collector → List ℕ → ℕ → List ℕ → Traced
sized s t c bytes place room =
    traced_by t c room (cond (is_exact s t) (goes (suc (length bytes)) (λ s. is_exact s t) bytes place (behind 0) (stands s (fresh s))) (stops WrongSize 0 untouched))
