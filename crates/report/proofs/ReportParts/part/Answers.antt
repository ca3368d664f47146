-- `report`'s part meets its contract: it waits or ends as parts/proofs/Turn.antt says of what `part_told` answers. Assumes nothing.
use Rattle.parts.specs.declared.Part.{Part}
use Rattle.parts.proofs.Turn.{part_waiting, part_fits}
use Rattle.reports.specs.declared.ReportText.{ReportText}
use Rattle.report.proofs.ReportParts.part.Goals as goal

abbrev part_in : ReportText → Part
part_in x = record { stand = x.stand; next = x.next; events = 0; progress = x.reporting.progress }

pub returns-clause-ends : goal.returns-clause-ends
returns-clause-ends c = part_fits _ _ _ _ (part_in c.report_text-done.result) c.report_text-done.ensures.report.stood c.requires.bytes_len_bound

pub returns-clause-waits : goal.returns-clause-waits
returns-clause-waits c = part_waiting _ _ _ _ (part_in c.report_text-done.result) c.report_text-done.ensures.report.stood
