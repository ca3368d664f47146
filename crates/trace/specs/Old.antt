-- A whole trace on the tables of before document 02's request 9, with a number for each mark.
--     old_left_on                   the tables and the collector's record at the end of a replay
--     old_traced_by, old_traced     what a whole trace answers and leaves
--     old_trace                     what it answers and leaves on packed tables, in the old form
-- Assumes nothing.
use Rattle.std.specs.Prelude.{ℕ, List, length}
use Rattle.rules.specs.declared.Sizes.{Sizes}
use Rattle.rules.specs.declared.Collector.{Collector}
use Rattle.tables.specs.Tables.{Tables}
use Rattle.tables.specs.Event.{LentPool}
use Rattle.events.specs.Old.{old_tables_of, old_exact, stands_for}
use Rattle.trace.specs.Replay.{Left, untouched, stands, Replayed, replayed}
use Rattle.trace.specs.Stretch.{put}
use Rattle.trace.specs.Traced.{Traced}

abbrev pub old_left_on : LentPool → Left → LentPool
old_left_on x untouched = x
old_left_on x (stands s p) = record { tables = old_tables_of s p; collector = p.collector }

abbrev pub old_traced_by : Tables → Collector → List ℕ → Replayed → Traced
old_traced_by t c room x =
    let y : LentPool = old_left_on (record { tables = t; collector = c }) x.left in
    record {
      replay = record { ending = x.ending; events = length x.lines; collector = y.collector };
      tables = y.tables;
      answers = put room x.lines;
    }

unfoldable pub old_traced : Tables → Collector → List ℕ → List ℕ → Traced
old_traced t c bytes room = old_traced_by t c room (replayed (λ s. old_exact s t) bytes)

abbrev pub old_trace : Sizes → Traced → Traced
old_trace s x = record { replay = x.replay; tables = stands_for s x.tables; answers = x.answers }
