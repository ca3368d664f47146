-- `join::write_joined` meets its contract. The loop's invariant: the merge has come to a step, and the fields of the events so far are written behind the sizes
-- field. Assumes nothing.
use native.Mathlib.Omega.{arith}
use Prim.Native.Nat.{ℕ, ◌≤◌}
use mathlib.Core.Path.{◌≡◌, refl, sym, ap, ◌∙◌, subst}
use mathlib.Core.List.{List, [], ◌++◌}
use lib.ListN.{length, take, length-append}
use lib.Seq.{length-take-le}
use Rattle.text.specs.Text.{Written}
use Rattle.text.proofs.Written.{written_both}
use Rattle.join.specs.Joined.{first_field, joined_trace}
use Rattle.join.specs.Merge.{cursor_at}
use Rattle.join.proofs.Lengths.{Lent, all_lent}
use Rattle.join.proofs.Reading.{next_at}
use Rattle.join.proofs.Going.{going_start, within, going_takes, stuck}
use Rattle.join.proofs.Writing.{joined_length_lem, first_field_lem, text_most, text_all, joined_is, told_same}
use Rattle.join.proofs.write_joined.Goals as goal
use Rattle.join.proofs.write_joined.Goals.{Start}

-- the parts lie end to end
lent : (c : Start) → Lent c.args.lain.parts.now c.args.lain.lengths.now
lent c = all_lent c.args.lain.parts.now c.args.lain.lengths.now c.args.lain.lent

-- the first part's sizes field
first : (c : Start)
    → let place = (cursor_at c.args.table 0).place in
    (first_field c.requires.ready.told ≡ take place c.args.lain.parts.now) × (place ≤ length c.args.lain.parts.now)
first c = first_field_lem _ _ (lent c) c.requires.ready.reads _ (sym (ap next_at (c.requires.opened.opens 0 (lent c).some).1))

pub slice_bounds-put_bytes-end : goal.slice_bounds-put_bytes-end
slice_bounds-put_bytes-end c = sym (length-take-le _ _ (first (goal.at.slice_bounds-put_bytes-end c).Start).1)

pub put_bytes-at-requires : goal.put_bytes-at-requires
put_bytes-at-requires c =
    let start = (goal.at.put_bytes-at-requires c).Start in
    let ready = start.requires.ready in
    omega (arith, ready.room, joined_length_lem ready.told, ap length (first start).0)

pub slice_bounds-table-end : goal.slice_bounds-table-end
slice_bounds-table-end c = omega (arith, (all_lent _ _ c.args.lain.lent).few, c.requires.opened.nine)

pub slice_bounds-cursors-end : goal.slice_bounds-cursors-end
slice_bounds-cursors-end c = sym (length-take-le (length c.args.lain.lengths.now) c.args.table (omega (arith, (all_lent _ _ c.args.lain.lent).few, c.requires.opened.nine)))

pub loop-field-init : goal.loop-field-init
loop-field-init c = ([], going_start _ _ (all_lent _ _ c.args.lain.lent) c.requires.opened, record { place = omega arith; bytes = refl })

pub take_next-requires : goal.take_next-requires
take_next-requires c = within _ _ (all_lent _ _ c.args.lain.lent) c.loop-field.invariant.1

pub put_bytes-at-requires-in-Some : goal.put_bytes-at-requires-in-Some
put_bytes-at-requires-in-Some c =
    let at = c.loop-field in
    let start = (goal.at.put_bytes-at-requires-in-Some c).Start in
    let ready = start.requires.ready in
    let on = going_takes _ _ (lent start) at.invariant.1 c.in-Some.ensures.takes.1 in
    let begin = first start in
    omega (
      arith,
      at.invariant.2.place,
      c.put_bytes-at.ensures.place,
      ap length begin.0,
      ready.room,
      joined_length_lem ready.told,
      text_most _ _ (lent start) ready.reads ready.numbers on,
      length-append at.invariant.0 c.in-Some.field.now,
      c.put_bytes-at.auto.out,
      at.auto.out,
    )

pub loop-field-preserved : goal.loop-field-preserved
loop-field-preserved c =
    let at = c.loop-field in (
      at.invariant.0 ++ c.in-Some.field.now,
      going_takes _ _ (all_lent _ _ c.args.lain.lent) at.invariant.1 c.in-Some.ensures.takes.1,
      written_both at.invariant.2 c.put_bytes-at-in-Some.ensures,
    )

pub put_end-requires : goal.put_end-requires
put_end-requires c =
    let at = c.loop-field in
    let start = (goal.at.put_end-requires c).Start in
    let ready = start.requires.ready in
    let begin = first start in
    omega (
      arith,
      at.invariant.2.place,
      c.put_bytes-at.ensures.place,
      ap length begin.0,
      ready.room,
      joined_length_lem ready.told,
      text_most _ _ (lent start) ready.reads ready.numbers at.invariant.1,
      c.put_bytes-at.auto.out,
      at.auto.out,
    )

pub returns : goal.returns
returns c =
    let at = c.loop-field in
    let start = (goal.at.returns c).Start in
    let ready = start.requires.ready in
    let all = text_all _ _ (lent start) ready.reads ready.numbers at.invariant.1 (stuck _ _ (lent start) at.invariant.1 c.in_default.ensures) in
    let written = written_both c.put_bytes-at.ensures (written_both at.invariant.2 c.put_end.ensures) in
    let pieces = joined_is ready.told (first start).0 all.0 all.1 in
    record {
      written = λ told reads.
          let same : ready.told ≡ told = told_same (sym ready.reads ∙ reads) in
          subst (λ (text : List ℕ). Written start.args.out.now 0 text c.put_end.result c.put_end.new.out) (pieces ∙ ap joined_trace same) written;
    }
