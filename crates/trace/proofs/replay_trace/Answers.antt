-- `trace::replay_trace` meets its contract: its teller puts the answers. Assumes nothing.
use mathlib.Core.Path.{refl, sym, ap, ◌∙◌}
use Rattle.tables.specs.Lent.{contents}
use Rattle.trace.proofs.AnswersTold.{answers_traced, traced_with}
use Rattle.trace.proofs.replay_trace.Goals as goal

-- the teller still has the caller's slice, and so the slice has what the teller put
pub returns-clause-done : goal.returns-clause-done
returns-clause-done c =
    let put = ap (λ x. x.answers) c.trace_told.ensures.told ∙ answers_traced (contents c.args.t.now) c.args.c c.args.bytes.now _ refl in
    let filled = c.answers-1.given.1.1 (sym (ap (λ a. a.ghost_name) put)) in
    let done = c.trace_told.ensures.done in
    traced_with (contents c.args.t.now) c.args.c c.args.bytes.now c.args.answers.now (sym (ap (λ a. a.now) put))
    ∙ (λ j. record { replay = (done j).replay; tables = (done j).tables; answers = sym filled j })
