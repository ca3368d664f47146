-- `gather::held_by` meets its contract. The loop's invariant: what the registers that are left do to the marks gives what all of them do to the marks at entry.
-- Assumes nothing.
use Prim.Native.Nat.{ℕ, ◌+◌}
use mathlib.Core.Path.{◌≡◌, sym, ap, ◌∙◌}
use mathlib.Core.Bool.{true}
use native.Mathlib.Omega.{arith}
use lib.ListN.{get_or, drop, drop_of_length-le}
use Rattle.tables.specs.Bits.{mark_record}
use Rattle.tables.proofs.Packed.{mark_place}
use Rattle.gather.specs.Raw.{held_in}
use Rattle.gather.proofs.Held.{held_next}
use Rattle.gather.proofs.held_by.Goals as goal
use Rattle.gather.proofs.held_by.Goals.{then-a-ne0, else-a-ne0}

pub loop-a-preserved : goal.loop-a-preserved
loop-a-preserved c =
    let at = c.loop-a in
    let registers = c.args.registers.now in
    let a : ℕ = get_or registers at.a-index 0 in
    let marked : c.if-a-ne0.held ≡ mark_record at.held a true =
    elim c.if-a-ne0.branch [
      | then-a-ne0 w ↦ w.held-is ∙ w.set_mark.ensures ∙ mark_place at.held a w.record_place.result true (omega arith) w.record_place.ensures
      | else-a-ne0 w ↦ w.held-is ∙ sym (ap (λ (i : ℕ). mark_record at.held i true) w.if-a-ne0.false)
    ] in
    ap (held_in (drop (at.a-index + 1) registers)) marked ∙ held_next registers at.held at.a-index (omega arith) ∙ at.invariant

pub returns : goal.returns
unfolding held_in
returns c =
    let at = c.loop-a in
    sym (ap (λ rest. held_in rest at.held) (drop_of_length-le c.args.registers.now (omega arith))) ∙ at.invariant
