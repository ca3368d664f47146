-- `cycles::tally_event` meets its contract: the numbers after the event, and the cycle that closes with it. Assumes nothing.
use Rattle.cycles.proofs.tally_event.Goals as goal

pub closed-requires : goal.closed-requires
closed-requires c = (c.step-tally.ensures.few 4294967295 c.requires.countable.0, c.requires.countable.1)
