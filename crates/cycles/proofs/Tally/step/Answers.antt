-- `Tally::step` meets its contract, by the test of an opening. Assumes nothing.
use Rattle.std.proofs.Common.{arith, rules}
use mathlib.Core.Path.{sym, ◌∙◌}
use mathlib.Core.Bool.{true, false}
use Rattle.std.proofs.iter.runs.Sources.{halves_Small}
use Rattle.cycles.proofs.Stepped.{steps}
use Rattle.cycles.proofs.Tally.step.Goals as goal
use Rattle.cycles.proofs.Tally.step.Goals.{then-opens, else-opens}

pub returns : goal.returns
returns c =
    let small = halves_Small c.args.counts.now c.type_inv.counts in
    elim c.if-opens.branch [
      | then-opens w ↦ steps c.args.self _ c.args.turn true (sym c.opens.ensures ∙ w.if-opens.true) (search rules) (omega (arith, small, c.requires.1)) c.taken.ensures.taken c.taken.ensures.few c.freed.ensures.freed c.freed.ensures.few
      | else-opens w ↦ steps c.args.self _ c.args.turn false (sym c.opens.ensures ∙ w.if-opens.false) w.start-is (omega (arith, small, c.requires.1)) c.taken.ensures.taken c.taken.ensures.few c.freed.ensures.freed c.freed.ensures.few
    ]
