-- The call of `pool`, in numbers.
use Rattle.tables.specs.Lent.{contents}
use Rattle.pool.specs.Calls.{called}
use Rattle.yuyarisun.proofs.InNumbers.{in_numbers}
use Rattle.yuyarisun.proofs.one_event.Goals as goal

pub returns-clause-done : goal.returns-clause-done
returns-clause-done c =
    in_numbers (λ k. called c.args.s (contents c.args.t.now) k c.args.e) c.event-x.result (contents c.event-x.new.t) c.answered.result c.answered.new.value c.answered.new.c c.get.ensures
    c.event-x.ensures.done
    c.answered.ensures.number
    c.answered.ensures.value
    c.answered.ensures.set
