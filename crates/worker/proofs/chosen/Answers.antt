-- `worker::chosen` meets its contract: it is `chosen_is`. Assumes nothing.
use mathlib.Core.Path.{ap, ◌∙◌}
use Rattle.std.proofs.Common.{rules}
use Rattle.tables.specs.There.{record_there}
use Rattle.worker.specs.Raw.{free_from}
use Rattle.worker.proofs.Free.{chosen_is}
use Rattle.worker.proofs.chosen.Goals as goal

pub returns : goal.returns
returns c p marks_are last_is =
    chosen_is c.args.n c.args.used.now p marks_are c.args.last last_is c.first_free.result c.or_else.result
    (c.first_free.ensures ∙ ap (λ i. record_there (free_from c.args.n c.args.used.now i)) c.from.ensures)
    (search rules)
