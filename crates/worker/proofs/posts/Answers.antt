-- `worker::posts` meets its contract: it is `no_such_lem` or `posted`. Assumes nothing.
use mathlib.Core.Path.{◌≡◌, refl, ap, ◌∙◌}
use mathlib.Core.Bool.{true, ◌&&◌}
use Rattle.rules.specs.declared.Event.TheVariants.{Post}
use Rattle.rules.specs.Size.{board_number}
use Rattle.rules.specs.Outcome.{has_worker, has_register, has_entry, refusals}
use Rattle.worker.specs.Lent.{stores_on}
use Rattle.worker.proofs.Refused.{all_true, no_such_lem}
use Rattle.worker.proofs.Store.{posted}
use Rattle.worker.proofs.posts.Goals as goal
use Rattle.worker.proofs.posts.Goals.{In_default}

pub returns-in-Err : goal.returns-in-Err
unfolding refusals
returns-in-Err c t k known =
    no_such_lem known (Post c.args.w c.args.e c.args.r) c.has_worker.ensures c.has_register.ensures c.has_entry.ensures refl c.in-Err.ensures

-- worker, register and entry are there
there : (c : In_default) → let at = c.args in (has_worker at.s at.w && has_register at.s at.r && has_entry at.s at.e) ≡ true
there c = all_true c.has_worker.ensures c.has_register.ensures c.has_entry.ensures c.in_default.ensures

pub returns : goal.returns
returns c t k known =
    let at = c.args in
    let takes = c.link_takes-old in
    posted known at.w at.e at.r (there (goal.at.returns c).In_default) c.board_number-l.result (c.board_number-l.ensures.0 ∙ ap (board_number at.s) c.from.ensures)
    takes.result
    (stores_on takes.new.held takes.new.values takes.new.changed at.registers.now at.snoops.now takes.new.logs takes.new.lengths t)
    takes.ensures.0
    (takes.ensures.1 t)
