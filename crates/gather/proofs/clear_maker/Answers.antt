-- `gather::clear_maker` meets its contract. The loop's invariant: the places passed are done and the others as they were. Assumes nothing.
use mathlib.Core.Path.{sym, ◌∙◌}
use native.Mathlib.Omega.{arith}
use Rattle.gather.proofs.Made.{below_next, below_all}
use Rattle.gather.proofs.clear_maker.Goals as goal

pub loop-maker-preserved : goal.loop-maker-preserved
loop-maker-preserved c =
    let at = c.loop-maker in
    below_next c.args.w at.makers at.maker-index c.from.result (omega arith) c.from.ensures ∙ at.invariant

pub returns : goal.returns
returns c =
    let at = c.loop-maker in
    sym (below_all c.args.w at.makers at.maker-index (omega arith)) ∙ at.invariant
