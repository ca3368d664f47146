-- `worker::moves` meets its contract: it is `no_such_register` or `moved`. Assumes nothing.
use mathlib.Core.Path.{◌≡◌, refl, sym, ◌∙◌}
use mathlib.Core.Bool.{true, ◌&&◌}
use Prim.Native.Nat.{ℕ, ◌+◌, ◌*◌}
use lib.ListN.{get_or, set}
use Rattle.rules.specs.declared.Event.TheVariants.{Move}
use Rattle.rules.specs.declared.Answer.TheVariants.{Moved}
use Rattle.rules.specs.Outcome.{has_worker, has_register, refusals}
use Rattle.tables.specs.Tables.{put_registers}
use Rattle.tables.specs.Lie.{record_number}
use Rattle.worker.proofs.Refused.{no_such_register, both_true}
use Rattle.worker.proofs.Events.{moved}
use Rattle.worker.proofs.moves.Goals as goal
use Rattle.worker.proofs.moves.Goals.{In_default}

pub returns-in-Err : goal.returns-in-Err
unfolding refusals
returns-in-Err c t k known =
    no_such_register known (Move c.args.w c.args.r c.args.q) c.has_worker.ensures (λ j. c.has_register.ensures j && c.has_register-2.ensures j) refl c.in-Err.ensures

-- worker and registers are there
there : (c : In_default) → let at = c.args in (has_worker at.s at.w && (has_register at.s at.r && has_register at.s at.q)) ≡ true
there c = both_true c.has_worker.ensures (λ j. c.has_register.ensures j && c.has_register-2.ensures j) c.in_default.ensures

pub returns : goal.returns
returns c t k known =
    let from = c.register_place-from.ensures.0 ∙ (λ j. c.from.ensures j * c.args.s.r + c.from-2.ensures j) in
    let to = c.register_place-to.ensures.0 ∙ (λ j. c.from-3.ensures j * c.args.s.r + c.from-4.ensures j) in
    moved known c.args.w c.args.r c.args.q (there (goal.at.returns c).In_default)
    ∙ (λ j.
    let a : ℕ = get_or c.args.registers.now (sym from j) 0 in
    record { answer = Moved (record_number a); collector = k; tables = put_registers (set c.args.registers.now (sym to j) a) t })
