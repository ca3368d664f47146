-- `join::lay_out` meets its contract. The loop's invariant: the parts so far are laid out. Assumes nothing.
use native.Mathlib.Omega.{arith}
use borrow.Author.Tests.{not-false}
use Prim.Native.Nat.{◌<◌}
use mathlib.Core.Path.{refl, sym, ◌∙◌}
use native.Mathlib.Numerals.{add-one}
use lib.ListN.{length, length-set}
use lib.Seq.{length-take-le}
use Rattle.join.specs.Joined.{sum}
use Rattle.join.proofs.Lengths.{all_lent, part_end}
use Rattle.join.proofs.Laid.{laid_next, all_laid, equal_is, laid_none, laid_here}
use Rattle.join.proofs.lay_out.Goals as goal

pub loop-i-init : goal.loop-i-init
unfolding sum
loop-i-init c = (refl, refl, λ j h. absurd (omega arith))

pub slice_bounds-open_part-end : goal.slice_bounds-open_part-end
slice_bounds-open_part-end c =
    sym (length-take-le _ _ (part_end c.args.lain.parts.now c.args.lain.lengths.now c.args.lain.lent c.loop-i-test.true c.loop-i.invariant.1).inside)

pub returns-in_err-opening : goal.returns-in_err-opening
returns-in_err-opening c =
    let at = c.loop-i in
    let end = part_end c.args.lain.parts.now c.args.lain.lengths.now c.args.lain.lent c.loop-i-test.true at.invariant.1 in
    rw c.from_residual.ensures
    (laid_none c.args.first c.args.lain.parts.now c.args.lain.lengths.now c.loop-i-test.true end.is at.invariant.1 c.open_part.ensures (sym c.in_err-opening.ensures.variant))

pub loop-i-preserved : goal.loop-i-preserved
loop-i-preserved c =
    let at = c.loop-i in
    let end = part_end c.args.lain.parts.now c.args.lain.lengths.now c.args.lain.lent c.loop-i-test.true at.invariant.1 in
    let inside : at.i < length at.cursors = omega (arith, at.invariant.0, (all_lent _ _ c.args.lain.lent).few) in (
      simp length-set at.invariant.0,
      rw (add-one at.i) end.is,
      laid_next c.args.first c.args.lain.parts.now c.args.lain.lengths.now at.cursors at.i _ inside
          (laid_here c.args.first c.args.lain.parts.now c.args.lain.lengths.now c.loop-i-test.true end.is at.invariant.1 c.open_part.ensures c.in_ok-opening.ensures.value
          (sym (equal_is c.args.first c.in_ok-opening.opening.sizes) ∙ not-false _ (sym c.if-ne.ensures)))
          at.invariant.2,
    )

pub returns : goal.returns
returns c = all_laid c.args.first c.args.lain.parts.now c.args.lain.lengths.now c.loop-i.cursors c.loop-i.invariant.0 (λ j h. c.loop-i.invariant.2 j (omega arith))
