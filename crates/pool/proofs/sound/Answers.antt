-- `pool::sound` meets its contract: nothing is refused exactly where the tables are of a sound pool. Assumes nothing.
use mathlib.Core.Path.{ap, ◌∙◌}
use Rattle.std.specs.Prelude.{is_ok}
use Rattle.tables.specs.Lent.{seen}
use Rattle.pool.proofs.Checked.{is_ok_checked}
use Rattle.pool.proofs.sound.Goals as goal

pub returns : goal.returns
returns c = c.is_ok.ensures.value ∙ ap is_ok c.check.ensures ∙ is_ok_checked c.args.s (seen c.args.t) c.args.c
