-- The loop of `empties`.
use Rattle.rules.specs.Collect.{is_unchanged, emptied_from}
use Rattle.reclaim.specs.Lent.{empties_on, InPool, Leaves}
use Rattle.reclaim.proofs.empties.Given as goal

abbrev pub invariant-loop-f : goal.invariant-loop-f
invariant-loop-f l =
    Leaves InPool l.s (empties_on l.initial.counts l.initial.candidates l.initial.values l.changed) l.a (λ p. emptied_from (is_unchanged p) l.s l.a 0 l.f p)
    (empties_on l.counts l.candidates l.values l.changed)
