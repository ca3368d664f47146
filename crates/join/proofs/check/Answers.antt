-- `join::check` meets its contract. The loop's invariant: what was seen so far and what is left to be seen are what is to be seen. Assumes nothing.
use native.Mathlib.Omega.{arith}
use borrow.Author.Rules.{rules}
use Prim.Native.Nat.{◌+◌}
use mathlib.Core.Path.{◌≡◌, refl, sym, ap, ◌∙◌}
use native.Mathlib.Numerals.{add-one}
use lib.ListN.{get_or, take, drop}
use lib.Seq.{length-take-le}
use Rattle.std.specs.Prelude.{Err}
use Rattle.join.specs.Part.{part_told, parts_told}
use Rattle.join.specs.Joined.{sum}
use Rattle.join.specs.Merge.{seen_parts}
use Rattle.join.proofs.Lengths.{part_end}
use Rattle.join.proofs.Reading.{seen_refused, seen_whole, told_next, seen_all}
use Rattle.join.proofs.check.Goals as goal

pub loop-length-init : goal.loop-length-init
unfolding sum
loop-length-init c = (refl, refl)

pub overflow_add-end : goal.overflow_add-end
overflow_add-end c = omega (arith, (part_end c.args.lain.parts.now c.args.lain.lengths.now c.args.lain.lent c.loop-length-test.true c.loop-length.invariant.0).inside)

pub slice_bounds-check_part-end : goal.slice_bounds-check_part-end
slice_bounds-check_part-end c =
    sym (length-take-le _ _ (part_end c.args.lain.parts.now c.args.lain.lengths.now c.args.lain.lent c.loop-length-test.true c.loop-length.invariant.0).inside)

pub returns-in_err-same : goal.returns-in_err-same
returns-in_err-same c =
    let at = c.loop-length in
    let args = c.args in
    let end = at.start + get_or args.lain.lengths.now at.length-index 0 in
    let refused : c.from_residual.result ≡ Err c.in_err-same.field-0.0 = search rules in
    refused
    ∙ seen_refused args.first at.same (parts_told args.lain.parts.now end (drop (at.length-index + 1) args.lain.lengths.now)) (part_told (take end args.lain.parts.now) at.start)
    c.in_err-same.ensures
    ∙ sym (at.invariant.1 ∙ ap (seen_parts args.first at.same) (told_next args.lain.parts.now at.start args.lain.lengths.now at.length-index c.loop-length-test.true))

pub loop-length-preserved : goal.loop-length-preserved
loop-length-preserved c =
    let at = c.loop-length in
    let args = c.args in
    let end = at.start + get_or args.lain.lengths.now at.length-index 0 in (
      rw (add-one at.length-index) (part_end args.lain.parts.now args.lain.lengths.now c.args.lain.lent c.loop-length-test.true at.invariant.0).is,
      at.invariant.1
          ∙ ap (seen_parts args.first at.same) (told_next args.lain.parts.now at.start args.lain.lengths.now at.length-index c.loop-length-test.true)
          ∙ seen_whole args.first at.same (parts_told args.lain.parts.now end (drop (at.length-index + 1) args.lain.lengths.now)) (part_told (take end args.lain.parts.now) at.start)
          c.in_ok-same.ensures,
    )

pub returns : goal.returns
returns c =
    let at = c.loop-length in
    let args = c.args in
    seen_all args.first at.same args.lain.parts.now at.start args.lain.lengths.now at.length-index (omega arith) ∙ sym at.invariant.1
