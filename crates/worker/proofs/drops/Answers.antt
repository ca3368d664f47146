-- `worker::drops` meets its contract: it is `no_such_register` or `dropped`. Assumes nothing.
use Prim.Native.Nat.{◌+◌, ◌*◌}
use mathlib.Core.Path.{◌≡◌, refl, sym, ◌∙◌}
use mathlib.Core.Bool.{true, ◌&&◌}
use lib.ListN.{set}
use Rattle.rules.specs.declared.Event.TheVariants.{Drop}
use Rattle.rules.specs.declared.Answer.TheVariants.{Dropped}
use Rattle.rules.specs.Outcome.{has_worker, has_register, refusals}
use Rattle.tables.specs.Tables.{put_registers}
use Rattle.worker.proofs.Refused.{no_such_register, both_true}
use Rattle.worker.proofs.Events.{dropped}
use Rattle.worker.proofs.drops.Goals as goal
use Rattle.worker.proofs.drops.Goals.{In_default}

pub returns-in-Err : goal.returns-in-Err
unfolding refusals
returns-in-Err c t k known = no_such_register known (Drop c.args.w c.args.r) c.has_worker.ensures c.has_register.ensures refl c.in-Err.ensures

-- worker and register are there
there : (c : In_default) → (has_worker c.args.s c.args.w && has_register c.args.s c.args.r) ≡ true
there c = both_true c.has_worker.ensures c.has_register.ensures c.in_default.ensures

pub returns : goal.returns
returns c t k known =
    let place = c.register_place-register.ensures.0 ∙ (λ j. c.from.ensures j * c.args.s.r + c.from-2.ensures j) in
    dropped known c.args.w c.args.r (there (goal.at.returns c).In_default)
    ∙ (λ j. record { answer = Dropped; collector = k; tables = put_registers (set c.args.registers.now (sym place j) 0) t })
