-- `events::collects` meets its contract: in each arm the step's own contract, at the tables at entry, is what is to be shown. Assumes nothing.
use mathlib.Core.Path.{◌≡◌}
use native.Mathlib.Omega.{arith}
use Rattle.tables.specs.Lent.{contents}
use Rattle.tables.specs.Lie.{pool_of}
use Rattle.events.proofs.collects.Goals as goal
use Rattle.events.proofs.collects.Goals.{In_default}

-- no other phase is left in the last arm
last : (c : In_default) → c.args.c.phase ≡ 6
unfolding pool_of
last c = omega (arith, c.requires.tables.sound.phase)

pub snoops-requires : goal.snoops-requires
snoops-requires c = (contents c.args.t.now, c.requires, c.in-1.is)

pub takes-requires : goal.takes-requires
takes-requires c = (contents c.args.t.now, c.requires, c.in-2.is)

pub clears-requires : goal.clears-requires
clears-requires c = (contents c.args.t.now, c.requires, c.in-3.is)

pub scans-requires : goal.scans-requires
scans-requires c = (contents c.args.t.now, c.requires, c.in-4.is)

pub counts-requires : goal.counts-requires
counts-requires c = (contents c.args.t.now, c.requires, c.in-5.is)

pub reclaims-requires : goal.reclaims-requires
reclaims-requires c = (contents c.args.t.now, c.requires, last (goal.at.reclaims-requires c).In_default)

pub returns-in-0-clause-done : goal.returns-in-0-clause-done
returns-in-0-clause-done c = c.opens.ensures (contents c.args.t.now) c.requires c.in-0.is

pub returns-in-1-clause-done : goal.returns-in-1-clause-done
returns-in-1-clause-done c = c.snoops.ensures (contents c.args.t.now) c.requires c.in-1.is

pub returns-in-2-clause-done : goal.returns-in-2-clause-done
returns-in-2-clause-done c = c.takes.ensures (contents c.args.t.now) c.requires c.in-2.is

pub returns-in-3-clause-done : goal.returns-in-3-clause-done
returns-in-3-clause-done c = c.clears.ensures (contents c.args.t.now) c.requires c.in-3.is

pub returns-in-4-clause-done : goal.returns-in-4-clause-done
returns-in-4-clause-done c = c.scans.ensures (contents c.args.t.now) c.requires c.in-4.is

pub returns-in-5-clause-done : goal.returns-in-5-clause-done
returns-in-5-clause-done c = c.counts.ensures (contents c.args.t.now) c.requires c.in-5.is

pub returns-in_default-clause-done : goal.returns-in_default-clause-done
returns-in_default-clause-done c = c.reclaims.ensures (contents c.args.t.now) c.requires (last (goal.at.returns-in_default-clause-done c).In_default)
