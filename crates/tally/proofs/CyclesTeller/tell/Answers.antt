-- `Cycles::tell` meets its contract: `tally_event` keeps the numbers small. Assumes nothing.
use Rattle.tally.proofs.Told.{still_fits}
use Rattle.tally.proofs.CyclesTeller.tell.Goals as goal

pub returns-clause-fits : goal.returns-clause-fits
returns-clause-fits c = still_fits c.tally_event-self.ensures c.requires.fits
