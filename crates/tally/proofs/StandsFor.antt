-- The report of a whole trace on packed tables with unused bits 0, and on the old ones that they stand for: equal answers, and tables that stand for equal tables
-- (document 02, request 9). Assumes nothing.
use Prim.Native.Nat.{ℕ}
use mathlib.Core.Path.{◌≡◌}
use mathlib.Core.List.{List, []}
use lib.IntN.{ℤ}
use lib.ListN.{length}
use Rattle.rules.specs.declared.Sizes.{Sizes}
use Rattle.rules.specs.declared.Collector.{Collector}
use Rattle.rules.specs.Size.{links}
use Rattle.tables.specs.Tables.{Tables}
use Rattle.events.specs.Old.{stands_for, PackedWords}
use Rattle.trace.proofs.StandsFor.{same_exact, traced_same}
use Rattle.tally.specs.Report.{reported}
use Rattle.tally.specs.Traced.{report_by, report_traced}
use Rattle.tally.specs.Old.{old_report_traced, old_report}

pub report_same : {s : Sizes} {t : Tables} → PackedWords s t → length t.counts ≡ s.n → length t.values ≡ links s → (c : Collector) (bytes : List ℕ) (room : List ℤ)
    → old_report_traced (stands_for s t) c bytes room ≡ old_report s (report_traced t c bytes room)
unfolding old_report_traced report_traced
report_same packed counted valued c bytes room =
    λ j. report_by (traced_same packed counted valued c bytes [] j) (reported (λ z. same_exact packed counted valued z j) bytes).cycles room
