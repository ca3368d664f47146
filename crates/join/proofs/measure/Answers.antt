-- `join::measure` meets its contract. The loop's invariant: the merge has come to a step, and the fields of the events so far have the length that is summed up.
-- Assumes nothing.
use native.Mathlib.Omega.{arith}
use mathlib.Core.Path.{refl, sym}
use mathlib.Core.List.{[], ◌++◌}
use lib.ListN.{length, length-append}
use lib.Seq.{length-take-le}
use Rattle.join.proofs.Lengths.{all_lent}
use Rattle.join.proofs.Going.{going_start, within, took, going_takes, stuck, merged, not_ended}
use Rattle.join.proofs.measure.Goals as goal

pub slice_bounds-table-end : goal.slice_bounds-table-end
slice_bounds-table-end c = omega (arith, (all_lent _ _ c.args.lain.lent).few, c.requires.opened.nine)

pub slice_bounds-cursors-end : goal.slice_bounds-cursors-end
slice_bounds-cursors-end c = sym (length-take-le (length c.args.lain.lengths.now) c.args.table (omega (arith, (all_lent _ _ c.args.lain.lent).few, c.requires.opened.nine)))

pub loop-field-init : goal.loop-field-init
loop-field-init c = ([], going_start _ _ (all_lent _ _ c.args.lain.lent) c.requires.opened, refl, omega arith, omega arith)

pub take_next-requires : goal.take_next-requires
take_next-requires c = within _ _ (all_lent _ _ c.args.lain.lent) c.loop-field.invariant.1

pub loop-field-preserved : goal.loop-field-preserved
loop-field-preserved c =
    let at = c.loop-field in
    let lent = all_lent _ _ c.args.lain.lent in
    let taken = c.in-Some.ensures.takes.1 in
    let field = took _ _ lent at.invariant.1 taken in (
      at.invariant.0 ++ c.in-Some.field.now,
      going_takes _ _ lent at.invariant.1 taken,
      omega (arith, at.invariant.2, length-append at.invariant.0 c.in-Some.field.now),
      omega (arith, at.invariant.3, field.short),
      field.follows,
    )

pub all_ended-requires : goal.all_ended-requires
all_ended-requires c = rw c.in_default.ensures.same (within _ _ (all_lent _ _ c.args.lain.lent) c.loop-field.invariant.1).inside

pub returns-then-all_ended : goal.returns-then-all_ended
returns-then-all_ended c =
    let at = c.loop-field in
    let lent = all_lent _ _ c.args.lain.lent in
    let end = rw c.in_default.ensures.same at c.all_ended.ensures in
    record {
      most = omega (arith, at.invariant.3, at.invariant.4);
      merges = rw at.invariant.2 (merged _ _ lent at.invariant.1 (stuck _ _ lent at.invariant.1 c.in_default.ensures) end c.if-all_ended.true);
      other = tt;
    }

pub returns : goal.returns
returns c =
    let at = c.loop-field in
    let lent = all_lent _ _ c.args.lain.lent in
    let end = rw c.in_default.ensures.same at c.all_ended.ensures in
    record { most = tt; merges = tt; other = not_ended _ _ lent at.invariant.1 (stuck _ _ lent at.invariant.1 c.in_default.ensures) end c.if-all_ended.false }
