-- The call of `tally`, in numbers.
use Rattle.std.proofs.Common.{rules}
use Rattle.tables.specs.Tables.{lent}
use Rattle.tables.specs.Lent.{contents}
use Rattle.tally.specs.Traced.{report_traced}
use Rattle.yuyarisun.proofs.InNumbers.{report_in_numbers}
use Rattle.yuyarisun.proofs.yuyarisun_report.Goals as goal

pub returns : goal.returns
returns c =
    let at = c.args in
    let tables = lent at.used.now at.counts.now at.held.now at.candidates.now at.makers.now at.values.now at.changed.now at.registers.now at.snoops.now at.logs.now at.history.now at.lengths.now in
    let done =
    report_in_numbers c.set.new.self c.get.ensures (λ k. report_traced tables k at.bytes.now at.lines.now) c.report_trace-x.result (contents c.report_trace-x.new.t) c.report_trace-x.new.numbers
    c.ended.result c.ended.new.free c.ended.new.place c.report_trace-x.ensures.done c.ended.ensures.number c.ended.ensures.free c.ended.ensures.place c.set.ensures.set in
    search rules
