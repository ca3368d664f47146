-- `tally::report_trace` meets its contract: `Cycles` is told of the trace from no cycle on. Assumes nothing.
use Rattle.std.proofs.Common.{rules}
use Rattle.tables.specs.Lent.{contents}
use Rattle.tally.proofs.Whole.{same_name, told_reports}
use Rattle.tally.proofs.report_trace.Goals as goal

pub returns-clause-done : goal.returns-clause-done
returns-clause-done c =
    let same = same_name (contents c.args.t.now) c.args.bytes.now _ c.trace_told-replay.ensures.told in
    let report = told_reports (contents c.args.t.now) c.args.bytes.now _ c.trace_told-replay.ensures.told c.args.c c.default.ensures.1 c.trace_told-replay.ensures.done in
    search rules
