-- The call of `trace`, in numbers.
use Rattle.std.proofs.Common.{rules}
use Rattle.tables.specs.Tables.{lent}
use Rattle.tables.specs.Lent.{contents}
use Rattle.trace.specs.Traced.{traced}
use Rattle.yuyarisun.proofs.InNumbers.{trace_in_numbers}
use Rattle.yuyarisun.proofs.yuyarisun_trace.Goals as goal

pub returns : goal.returns
returns c =
    let at = c.args in
    let tables = lent at.used.now at.counts.now at.held.now at.candidates.now at.makers.now at.values.now at.changed.now at.registers.now at.snoops.now at.logs.now at.history.now at.lengths.now in
    let done =
    trace_in_numbers c.set.new.self c.get.ensures (λ k. traced tables k at.bytes.now at.answers.now) c.replay_trace-x.result (contents c.replay_trace-x.new.t) c.replay_trace-x.new.answers
    c.ended.result c.ended.new.free c.ended.new.place c.replay_trace-x.ensures.done c.ended.ensures.number c.ended.ensures.free c.ended.ensures.place c.set.ensures.set in
    search rules
