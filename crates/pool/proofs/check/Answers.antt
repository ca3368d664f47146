-- `pool::check` meets its contract: the two tests are the definition's, in its order. Assumes nothing.
use mathlib.Core.Path.{◌≡◌, sym, ◌∙◌}
use mathlib.Core.Bool.{true}
use Rattle.tables.specs.Lent.{seen}
use Rattle.fresh.specs.Fits.{fits}
use Rattle.pool.proofs.Checked.{fits_tells, checked_unfit, checked_by}
use Rattle.pool.proofs.check.Goals as goal
use Rattle.pool.proofs.check.Goals.{Else-not-has_shape}

fit : (c : Else-not-has_shape) → fits c.args.s (seen c.args.t) ≡ true
fit c = sym c.has_shape.ensures ∙ c.if-not-has_shape.false

pub returns-then-not-has_shape : goal.returns-then-not-has_shape
returns-then-not-has_shape c = checked_unfit c.args.s (seen c.args.t) c.args.c (sym c.has_shape.ensures ∙ c.if-not-has_shape.true)

pub inspect-requires : goal.inspect-requires
inspect-requires c = fits_tells c.args.s (seen c.args.t) (fit (goal.at.inspect-requires c).Else-not-has_shape)

pub returns-then-not-inspect : goal.returns-then-not-inspect
returns-then-not-inspect c =
    checked_by c.args.s (seen c.args.t) c.args.c (fit (goal.at.returns-then-not-inspect c).Else-not-has_shape) (sym c.inspect.ensures ∙ c.if-not-inspect.true)

pub returns : goal.returns
returns c = checked_by c.args.s (seen c.args.t) c.args.c (fit (goal.at.returns c).Else-not-has_shape) (sym c.inspect.ensures ∙ c.if-not-inspect.false)
