-- `pool::event` meets its contract: what the tests refuse changes nothing; where they refuse nothing a sound pool lies in the tables, and the event is done on it.
-- Assumes nothing.
use mathlib.Core.Path.{◌∙◌}
use Rattle.tables.specs.Lent.{contents}
use Rattle.pool.proofs.Checked.{answered, checked_known, refused_called, known_called}
use Rattle.pool.proofs.event.Goals as goal

pub returns-in-Err-clause-done : goal.returns-in-Err-clause-done
returns-in-Err-clause-done c =
    refused_called c.args.s (contents c.args.t.now) c.args.c c.args.e (answered c.args.s c.args.c c.to_read.ensures c.check.ensures c.in-Err.is)

pub event_known-requires : goal.event_known-requires
event_known-requires c = checked_known c.args.s (contents c.args.t.now) c.args.c (answered c.args.s c.args.c c.to_read.ensures c.check.ensures c.in_default.is)

pub returns-clause-done : goal.returns-clause-done
returns-clause-done c =
    known_called c.args.s (contents c.args.t.now) c.args.c c.args.e (answered c.args.s c.args.c c.to_read.ensures c.check.ensures c.in_default.is)
    ∙ c.event_known.ensures.done
