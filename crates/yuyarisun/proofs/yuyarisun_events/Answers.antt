-- The call of `many`, in numbers.
use Rattle.std.proofs.Common.{rules}
use Rattle.tables.specs.Tables.{lent}
use Rattle.tables.specs.Lent.{contents}
use Rattle.many.specs.Many.{many_on}
use Rattle.yuyarisun.specs.Exported.{sizes_of}
use Rattle.yuyarisun.proofs.InNumbers.{many_in_numbers}
use Rattle.yuyarisun.proofs.yuyarisun_events.Goals as goal

pub returns : goal.returns
returns c =
    let at = c.args in
    let tables = lent at.used.now at.counts.now at.held.now at.candidates.now at.makers.now at.values.now at.changed.now at.registers.now at.snoops.now at.logs.now at.history.now at.lengths.now in
    let done =
    many_in_numbers c.set.new.self c.get.ensures (λ k. many_on (sizes_of at.n at.k at.w at.r at.b) tables k at.bytes.now at.step.now at.answers.now) c.many_events-x.result (contents c.many_events-x.new.t) c.many_events-x.new.answers
    c.stopped.result c.stopped.new.place c.many_events-x.ensures.done c.stopped.ensures.number c.stopped.ensures.place c.set.ensures.set in
    search rules
