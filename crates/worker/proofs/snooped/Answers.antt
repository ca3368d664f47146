-- `worker::snooped` meets its contract, case by case. Assumes nothing.
use Prim.Native.Nat.{ℕ}
use mathlib.Core.Path.{◌≡◌, refl, sym, ap, ◌∙◌}
use mathlib.Core.List.{List}
use mathlib.Core.Bool.{true}
use native.Mathlib.Omega.{arith}
use lib.ListN.{get_or}
use Rattle.tables.specs.Lie.{is_on}
use Rattle.tables.proofs.Packed.{mark_place}
use Rattle.worker.specs.Lent.{held_after}
use Rattle.worker.proofs.snooped.Goals as goal

-- the flag at a number that is written otherwise
flag : (snoops : List ℕ) {i j : ℕ} → i ≡ j → is_on (get_or snoops i 0) ≡ is_on (get_or snoops j 0)
flag snoops = ap (λ (i : ℕ). is_on (get_or snoops i 0))

pub returns-then-not-is_flagged : goal.returns-then-not-is_flagged
unfolding held_after
returns-then-not-is_flagged c = rw (flag c.args.snoops.now (sym c.from.ensures) ∙ sym c.is_flagged.ensures ∙ c.if-not-is_flagged.true) refl

pub returns-then-a-eq0 : goal.returns-then-a-eq0
unfolding held_after
returns-then-a-eq0 c = rw (flag c.args.snoops.now (sym c.from.ensures) ∙ sym c.is_flagged.ensures ∙ c.if-not-is_flagged.false) (rw c.if-a-eq0.true refl)

pub returns : goal.returns
unfolding held_after
returns c =
    rw (flag c.args.snoops.now (sym c.from.ensures) ∙ sym c.is_flagged.ensures ∙ c.if-not-is_flagged.false)
    (c.set_mark.ensures ∙ mark_place c.args.held.now c.args.a.0 c.record_place-place.result true (omega arith) c.record_place-place.ensures)
