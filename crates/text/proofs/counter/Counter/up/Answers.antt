-- `Counter::up` meets its contract: a last digit that is no 9 is one more, else all are written anew. Assumes nothing.
use Rattle.std.proofs.Common.{arith, length-set, ◌-◌, ◌∙◌}
use Rattle.text.proofs.Digits.{decimal_some, raised}
use Rattle.text.proofs.counter.Counter.up.Goals as goal
use Rattle.text.proofs.counter.Counter.up.Goals.{then-self-last-lt57, else-self-last-lt57}

pub overflow_sub-last : goal.overflow_sub-last
overflow_sub-last c = let self = c.args.self.now in omega (arith, self.shown.whole, decimal_some self.number)

pub invariant_of-self : goal.invariant_of-self
invariant_of-self c =
    let self = c.args.self.now in
    elim c.if-self-last-lt57.branch [
      | then-self-last-lt57 w ↦
          rw w.self-is (record { long = length-set self.digits (self.places - 1) _ ∙ self.long; shown = raised self.digits self.places self.number c.requires self.shown w.if-self-last-lt57.true })
      | else-self-last-lt57 w ↦ rw w.self-is (record { long = w.put_digits-self.auto.out ∙ self.long; shown = w.put_digits-self.ensures })
    ]
