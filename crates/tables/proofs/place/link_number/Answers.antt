-- `tables::place::link_number` meets its contract: a link's number is below S. Assumes nothing.
use native.Mathlib.Omega.{arith}
use Rattle.laws.proofs.Number.{link_low, link_inside}
use Rattle.rules.specs.Size.{link_number}
use mathlib.Core.Path.{refl}
use Rattle.tables.proofs.place.link_number.Goals as goal

pub overflow_mul-result : goal.overflow_mul-result
overflow_mul-result c =
    omega (arith, link_low c.args.s c.args.a c.args.f c.requires.0 c.requires.1 c.requires.2 c.requires.3)

pub overflow_add-result : goal.overflow_add-result
overflow_add-result c =
    omega (arith, link_low c.args.s c.args.a c.args.f c.requires.0 c.requires.1 c.requires.2 c.requires.3)

pub returns : goal.returns
unfolding link_number
returns c =
    (refl, link_inside c.args.s c.args.a c.args.f c.requires.1 c.requires.2 c.requires.3)
