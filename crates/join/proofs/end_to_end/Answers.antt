-- `join::end_to_end` meets its contract. The loop's invariant: the lengths so far and what is left add up to the slice. Assumes nothing.
use native.Mathlib.Omega.{arith}
use borrow.Author.Tests.{ne_eqb}
use lib.Seq.{take_all}
use Prim.Native.Nat.{suc}
use lib.ListN.{length}
use Rattle.join.specs.Joined.{sum}
use Rattle.join.proofs.Lengths.{sum_next, sum_most, adds_up, left_over}
use Rattle.join.proofs.end_to_end.Goals as goal

pub returns-in_default : goal.returns-in_default
returns-in_default c =
    let at = c.loop-length in
    let parts = c.args.parts.now in
    let lengths = c.args.lengths.now in
    adds_up parts lengths (grind arith) (grind arith)
    (ne_eqb (sum lengths) (length parts) (λ e. omega (arith, sum_next lengths at.length-index (omega arith), sum_most lengths (suc at.length-index))))

pub returns : goal.returns
returns c =
    let at = c.loop-length in
    let parts = c.args.parts.now in
    let lengths = c.args.lengths.now in
    left_over parts lengths (grind arith) (grind arith) at.left
    (rw (← (take_all at.length-index lengths (omega arith))) at.invariant)
