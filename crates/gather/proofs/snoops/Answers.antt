-- `gather::snoops` meets its contract: the position is a worker, whose flag is written. Assumes nothing.
use Prim.Native.Nat.{ℕ}
use mathlib.Core.Path.{ap, ◌∙◌}
use native.Mathlib.Omega.{arith}
use lib.ListN.{get_or, set}
use Rattle.gather.proofs.Here.{position_known, onward_asks}
use Rattle.gather.proofs.Moves.{onward-answers, snoops_on_lem}
use Rattle.gather.proofs.snoops.Goals as goal

pub set_flag-requires : goal.set_flag-requires
set_flag-requires c = omega (arith, position_known c.requires.1 1 c.requires.2, c.requires.1.exact.snoops)

pub onward-requires : goal.onward-requires
onward-requires c = onward_asks c.requires.1 1 (omega arith) c.requires.2

pub returns : goal.returns
returns c t known e =
    let at = c.args in
    snoops_on_lem known e
    (c.set_flag.ensures ∙ ap (λ (i : ℕ). set at.snoops.now i 1) c.from.ensures)
    (onward-answers at.s.w at.c (omega arith) c.stepped.ensures c.onward.ensures
    (ap (λ (i : ℕ). get_or at.lengths.now i 0) c.from-2.ensures))
