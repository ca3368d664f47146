-- `join::take_next` meets its contract. The loop's invariant: in none of the parts so far does the event stand. Assumes nothing.
use native.Mathlib.Omega.{arith}
use lib.Seq.{set-get_or}
use Rattle.std.specs.Prelude.{None}
use Rattle.join.specs.Merge.{no_cursor, cursor_at, EventHere}
use Rattle.join.proofs.Lengths.{below_next}
use Rattle.join.proofs.take_next.Goals as goal

pub loop-cursor-preserved : goal.loop-cursor-preserved
loop-cursor-preserved c =
    let at = c.loop-cursor in
    rw (set-get_or at.cursors at.cursor-index no_cursor)
    (at.invariant.0, below_next (λ j. EventHere c.args.parts.now (cursor_at at.cursors j) c.args.step None) at.cursor-index at.invariant.1 c.in_default.ensures)

pub returns : goal.returns
returns c =
    let at = c.loop-cursor in
    record { takes = tt; none = λ i h. rw (← at.invariant.0) (at.invariant.1 i (omega arith)); same = at.invariant.0 }
