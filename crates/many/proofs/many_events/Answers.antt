-- `many::many_events` meets its contract: what the tests refuse changes nothing; where they refuse nothing a sound pool lies in the tables, and the events are done on
-- it, each told to a teller that puts its number and value. Assumes nothing.
use mathlib.Core.Path.{◌≡◌, refl, sym, ap, ◌∙◌}
use Rattle.std.proofs.Common.{rules}
use Rattle.tables.specs.Lent.{contents}
use Rattle.pool.proofs.Checked.{answered, checked_known}
use Rattle.many.proofs.Checked.{refused_many, done_many}
use Rattle.many.proofs.Told.{answers_on, ran_with}
use Rattle.many.specs.Many.{done}
use Rattle.many.proofs.many_events.Goals as goal

pub returns-in-Err-clause-done : goal.returns-in-Err-clause-done
returns-in-Err-clause-done c =
    refused_many c.args.s (contents c.args.t.now) c.args.c c.args.bytes.now c.args.step c.args.answers.now
    (answered c.args.s c.args.c c.to_read.ensures c.check.ensures c.in-Err.is)

pub run_events-ran-requires-clause-known : goal.run_events-ran-requires-clause-known
run_events-ran-requires-clause-known c =
    checked_known c.args.s (contents c.args.t.now) c.args.c (answered c.args.s c.args.c c.to_read.ensures c.check.ensures c.in_default.is)

-- the teller still has the caller's slice, and so the slice has what the teller put
pub returns-clause-done : goal.returns-clause-done
returns-clause-done c =
    let t = contents c.args.t.now in
    let put = ap (λ x. x.answers) c.run_events-ran.ensures.told ∙ answers_on c.args.s t c.args.c c.args.bytes.now 0 c.args.step _ refl in
    let filled : _ ≡ c.run_events-ran.new.teller.answers.now = (let same = sym (ap (λ a. a.ghost_name) put) in search rules) in
    done_many c.args.s t c.args.c c.args.bytes.now c.args.step c.args.answers.now (answered c.args.s c.args.c c.to_read.ensures c.check.ensures c.in_default.is)
    ∙ ap (done c.args.bytes.now) (ran_with c.args.s t c.args.c c.args.bytes.now 0 c.args.step c.args.answers.now c.run_events-ran.ensures.ran (sym (ap (λ a. a.now) put)))
    ∙ (λ j. record { rest = sym c.rest_of.ensures j; ran = c.run_events-ran.result; tables = contents c.run_events-ran.new.t; answers = sym filled j })
