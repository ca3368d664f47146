-- The text of a part's cycles, in a program's buffers.
--     HasRoom      the numbers and the lines of a part's cycles have room
--     Ready        the next part may come
--     ReportOf     a part is taken, and the lines of its cycles stand in the buffer
-- Assumes nothing.
use Rattle.std.specs.Prelude.{ℕ, ◌+◌, ◌*◌, ◌≤◌, ◌≡◌, List, ℤ, length}
use Rattle.tables.specs.Tables.{Tables}
use Rattle.text.specs.Text.{StartsWith}
use Rattle.cycles.specs.Tally.{Few}
use Rattle.parts.specs.Part.{Taken}
use Rattle.parts.specs.Arrays.{left_in, Set}
use Rattle.reports.specs.declared.Reporting.{Reporting}
use Rattle.reports.specs.declared.ReportText.{ReportText}
use Rattle.reports.specs.Told.{PartTold}
use Rattle.reports.specs.Printed.{cycles_printed}

-- an event has at least 7 bytes, and closes one cycle at most; a cycle has three numbers and a line of at most 114 bytes
pub record HasRoom (bytes : List ℕ) (numbers : List ℤ) (text : List ℕ) : Type 0 where
  pub cycles : length bytes * 3 ≤ length numbers * 7
  pub lines : length bytes * 114 ≤ length text * 7

-- the arrays between two parts, and how large the numbers are: no more cycles have closed than there were events
pub record Ready (x : Reporting) (t : Tables) : Type 0 where
  pub set : Set x.progress t
  pub few : Few x.progress.reader.step x.tally
  pub fewer : x.cycles ≤ x.progress.reader.step

-- how the trace stands behind the part, what is left in the arrays, what its events tell, and the text of its cycles
pub record ReportOf (taken : Taken) (told : PartTold) (before : ℕ) (x : ReportText) (after : Tables) (text : List ℕ) : Type 0 where
  pub stood : taken.stood ≡ record { stand = x.stand; next = x.next; reader = x.reporting.progress.reader }
  pub left : left_in x.reporting.progress after ≡ taken.left
  pub tally : x.reporting.tally ≡ told.tally
  pub cycles : x.reporting.cycles ≡ before + length told.cycles
  pub lines : StartsWith text x.size (cycles_printed before told.cycles)
  pub ready : Ready x.reporting after
