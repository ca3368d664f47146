-- The text of a part, in a program's buffers.
--     HasRoom       the answers and the lines of a part have room
--     TextOf        a part is taken, and its lines stand in the buffer
--     PlaceFits     the offset of a refusal has 64 bits
-- Assumes nothing.
use Rattle.std.specs.Prelude.{ℕ, ◌+◌, ◌*◌, ◌≤◌, ◌≡◌, List, length, Ok, Err}
use Rattle.tables.specs.Tables.{Tables}
use Rattle.text.specs.Text.{StartsWith}
use Rattle.trace.specs.Replay.{Ending}
use Rattle.parts.specs.declared.Part.{Part}
use Rattle.parts.specs.Part.{Taken}
use Rattle.parts.specs.Arrays.{left_in, Set}
use Rattle.parts.specs.Printed.{lines_printed}

-- an event has at least 7 bytes, two numbers in the answer, and a line of at most 24 bytes
pub record HasRoom (bytes numbers text : List ℕ) : Type 0 where
  pub answers : length bytes * 2 ≤ length numbers * 7
  pub lines : length bytes * 24 + 448 ≤ length text * 7

-- how the trace stands behind the part, what is left in the arrays, and the text of the part's lines
pub record TextOf (taken : Taken) (part : Part) (size : ℕ) (after : Tables) (text : List ℕ) : Type 0 where
  pub stood : taken.stood ≡ record { stand = part.stand; next = part.next; reader = part.progress.reader }
  pub left : left_in part.progress after ≡ taken.left
  pub set : Set part.progress after
  pub lines : StartsWith text size (lines_printed taken.lines)

abbrev pub PlaceFits : ℕ → Ending → Type 0
PlaceFits base (Ok w) = Unit
PlaceFits base (Err e) = base + e.place ≤ 18446744073709551615
