-- The report of a whole trace on lent tables: what the call answers and leaves, for every byte string and every table.
--     ReportOn, report_by      all that the call answers and leaves, by the replay of the trace and its closed cycles
--     report_traced            of the trace
-- Assumes nothing.
use Rattle.std.specs.Prelude.{ℕ, List, [], ℤ, length}
use Rattle.rules.specs.declared.Collector.{Collector}
use Rattle.tables.specs.Tables.{Tables}
use Rattle.fresh.specs.Fits.{is_exact}
use Rattle.cycles.specs.declared.Cycle.{Cycle}
use Rattle.cycles.specs.Slice.{put_cycles}
use Rattle.trace.specs.Traced.{Traced, traced}
use Rattle.tally.specs.declared.Report.{Report}
use Rattle.tally.specs.Report.{reported}

pub record ReportOn : Type 0 where
  pub report : Report
  pub tables : Tables
  pub numbers : List ℤ

-- the trace is replayed, its lines are put nowhere, and the numbers of its cycles are
abbrev pub report_by : Traced → List Cycle → List ℤ → ReportOn
report_by x closed room = record { report = record { replay = x.replay; cycles = length closed }; tables = x.tables; numbers = put_cycles room closed }

unfoldable pub report_traced : Tables → Collector → List ℕ → List ℤ → ReportOn
report_traced t c bytes room = report_by (traced t c bytes []) (reported (λ s. is_exact s t) bytes).cycles room
