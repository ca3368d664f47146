-- What `report` prints, as text: of a whole trace, and part by part.
--     cycles_printed, report_printed     the text of a report
--     report_parts                       what is printed for the parts, one after another
-- Assumes nothing.
use Rattle.std.specs.Prelude.{ℕ, suc, ◌+◌, Bool, true, false, List, [], ◌∷◌, ◌++◌, length, drop, Some, None}
use Rattle.rules.specs.declared.Sizes.{Sizes}
use Rattle.rules.specs.declared.Refusal.TheVariants.{StopsShort}
use Rattle.fields.specs.declared.Reader.{Reader}
use Rattle.text.specs.Cycle.{cycle_text}
use Rattle.cycles.specs.declared.Cycle.{Cycle}
use Rattle.cycles.specs.declared.Tally.{Tally}
use Rattle.fields.specs.Field.{refused_at}
use Rattle.trace.specs.Replay.{Left}
use Rattle.tally.specs.Report.{Reported}
use Rattle.parts.specs.Part.{Taken, part_taken, moved_ending}
use Rattle.parts.specs.Work.{part_work}
use Rattle.parts.specs.Printed.{ending_printed}
use Rattle.reports.specs.Told.{PartTold, told_work}

-- "prints for each closed cycle: `cycle`, its ordinal from 1, `taken` .., `freed` .., `net` ..": behind so many cycles
unfoldable pub cycles_printed : ℕ → List Cycle → List ℕ
cycles_printed before [] = []
cycles_printed before (c ∷ cycles) = cycle_text (suc before) c.taken c.freed c.net ++ cycles_printed (suc before) cycles

-- "After the last comes 01's `end` line, or its `refused` line."
unfoldable pub report_printed : Reported → List ℕ
report_printed x = cycles_printed 0 x.cycles ++ ending_printed x.ending

-- the same, part by part: the lines of the cycles that close in a part, and behind the last part how the trace ended
unfoldable pub report_parts : (Sizes → Bool) → List (List ℕ) → ℕ → List ℕ → Reader → Left → Tally → ℕ → List ℕ
report_parts takes [] base rest reader left tally before =
    let x : Taken = part_taken takes true rest reader left in
    cycles_printed before (told_work tally (part_work takes true rest reader left)).cycles
    ++ elim x.stood.stand [ Some ending ↦ ending_printed (moved_ending base ending) | None ↦ ending_printed (refused_at StopsShort (base + x.stood.next)) ]
report_parts takes (piece ∷ pieces) base rest reader left tally before =
    let part : List ℕ = rest ++ piece in
    let x : Taken = part_taken takes false part reader left in
    let y : PartTold = told_work tally (part_work takes false part reader left) in
    cycles_printed before y.cycles
    ++ elim x.stood.stand [
      | Some ending ↦ ending_printed (moved_ending base ending)
      | None ↦ report_parts takes pieces (base + x.stood.next) (drop x.stood.next part) x.stood.reader x.left y.tally (before + length y.cycles)
    ]
