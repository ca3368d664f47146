-- The report of a whole trace on the tables of before document 02's request 9, with a number for each mark.
--     old_report_traced     what the call answers and leaves
--     old_report            what it answers and leaves on packed tables, in the old form
-- Assumes nothing.
use Rattle.std.specs.Prelude.{ℕ, List, [], ℤ}
use Rattle.rules.specs.declared.Sizes.{Sizes}
use Rattle.rules.specs.declared.Collector.{Collector}
use Rattle.tables.specs.Tables.{Tables}
use Rattle.events.specs.Old.{old_exact, stands_for}
use Rattle.trace.specs.Old.{old_traced}
use Rattle.tally.specs.Report.{reported}
use Rattle.tally.specs.Traced.{ReportOn, report_by}

unfoldable pub old_report_traced : Tables → Collector → List ℕ → List ℤ → ReportOn
old_report_traced t c bytes room = report_by (old_traced t c bytes []) (reported (λ s. old_exact s t) bytes).cycles room

abbrev pub old_report : Sizes → ReportOn → ReportOn
old_report s x = record { report = x.report; tables = stands_for s x.tables; numbers = x.numbers }
