-- The event on a pool that is known to be sound, in numbers.
use Rattle.std.proofs.Common.{rules}
use Rattle.tables.specs.Tables.{lent}
use Rattle.tables.specs.Lent.{contents}
use Rattle.tables.specs.Event.{event_on}
use Rattle.yuyarisun.specs.Exported.{sizes_of}
use Rattle.yuyarisun.proofs.InNumbers.{in_numbers}
use Rattle.yuyarisun.proofs.yuyarisun_inner_event.Goals as goal

pub returns : goal.returns
returns c =
    let at = c.args in
    let tables = lent at.used.now at.counts.now at.held.now at.candidates.now at.makers.now at.values.now at.changed.now at.registers.now at.snoops.now at.logs.now at.history.now at.lengths.now in
    let done =
    in_numbers (λ k. event_on (sizes_of at.n at.k at.w at.r at.b) tables k c.event_of-e.result) c.event_known-x.result (contents c.event_known-x.new.t) c.answered.result c.answered.new.value
    c.answered.new.c c.get.ensures c.event_known-x.ensures.done c.answered.ensures.number c.answered.ensures.value c.answered.ensures.set in
    search rules
