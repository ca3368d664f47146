-- `gather::opens` meets its contract: the step writes no table. Assumes nothing.
use mathlib.Core.Path.{refl, sym, ap, ◌∙◌}
use mathlib.Core.List.{[]}
use native.Mathlib.Omega.{arith}
use Rattle.rules.specs.declared.Answer.TheVariants.{Stepped}
use Rattle.advance.proofs.Moved.{opening_moves}
use Rattle.gather.proofs.Here.{onward_asks}
use Rattle.gather.proofs.Moves.{called, opens_on}
use Rattle.gather.proofs.opens.Goals as goal

pub onward-requires : goal.onward-requires
onward-requires c = onward_asks c.requires.1 0 (omega arith) c.requires.2

pub returns : goal.returns
returns c t known e =
    opens_on known e
    ∙ ap (λ x. called x t)
    (sym
    (c.stepped.ensures
    ∙ ap (λ next. record { answer = Stepped; collector = next }) (c.onward.ensures [] refl ∙ opening_moves c.args.c e)))
