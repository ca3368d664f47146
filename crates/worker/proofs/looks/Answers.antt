-- `worker::looks` meets its contract: it is `no_such_lem` or `looked`. Assumes nothing.
use mathlib.Core.Path.{◌≡◌, refl, ap, ◌∙◌}
use mathlib.Core.Bool.{true, ◌&&◌}
use Rattle.rules.specs.declared.Event.TheVariants.{Look}
use Rattle.rules.specs.Size.{board_number}
use Rattle.rules.specs.Outcome.{has_worker, has_register, has_entry, refusals}
use Rattle.worker.proofs.Refused.{all_true, no_such_lem}
use Rattle.worker.proofs.Events.{looked}
use Rattle.worker.proofs.looks.Goals as goal
use Rattle.worker.proofs.looks.Goals.{In_default}

pub returns-in-Err : goal.returns-in-Err
unfolding refusals
returns-in-Err c t k known =
    no_such_lem known (Look c.args.w c.args.r c.args.e) c.has_worker.ensures c.has_register.ensures c.has_entry.ensures refl c.in-Err.ensures

-- worker, register and entry are there
there : (c : In_default) → let at = c.args in (has_worker at.s at.w && has_register at.s at.r && has_entry at.s at.e) ≡ true
there c = all_true c.has_worker.ensures c.has_register.ensures c.has_entry.ensures c.in_default.ensures

pub returns : goal.returns
returns c t k known =
    looked known c.args.w c.args.r c.args.e (there (goal.at.returns c).In_default) c.board_number-l.result
    (c.board_number-l.ensures.0 ∙ ap (board_number c.args.s) c.from.ensures)
    c.register_takes-a.result
    c.register_takes-a.new.registers
    c.register_takes-a.ensures
