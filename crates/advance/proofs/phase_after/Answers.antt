-- `advance::phase_after` meets its contract. Assumes nothing.
use Rattle.std.proofs.Common.{sym, ◌∙◌}
use Rattle.advance.proofs.After.{after_skipped, after_others}
use Rattle.advance.proofs.phase_after.Goals as goal
use Rattle.advance.proofs.phase_after.Goals.{in_default-via-in-2+in_default, in_default-via-in_default}

pub returns-in-2-eq0 : goal.returns-in-2-eq0
returns-in-2-eq0 c history h = after_skipped c.args.phase history (h ∙ c.in-2-eq0.is-1) c.in-2-eq0.is-0

pub returns-in_default : goal.returns-in_default
returns-in_default c history h =
    after_others c.args.phase history
    (λ e o.
    elim c.in_default.branch [
      | in_default-via-in-2+in_default w ↦ w.in_default.is-1.1 (sym h ∙ e)
      | in_default-via-in_default w ↦ w.in_default.is-0.1 o
    ])
