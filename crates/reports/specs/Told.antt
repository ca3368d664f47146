-- What the events of a part of a trace tell.
--     PartTold, told_work     the numbers of the open cycle, and the cycles that close
-- Assumes nothing.
use Rattle.std.specs.Prelude.{List, []}
use Rattle.rules.specs.declared.Event.{Event}
use Rattle.cycles.specs.declared.Cycle.{Cycle}
use Rattle.cycles.specs.declared.Tally.{Tally}
use Rattle.cycles.specs.Tally.{tally_after, tallies_of}
use Rattle.trace.specs.Replay.{Left, untouched, stands}
use Rattle.parts.specs.Work.{Work}

pub record PartTold : Type 0 where
  pub tally : Tally
  pub cycles : List Cycle

-- of events from a pool; before there is a pool there are none
abbrev pub told_from : Tally → Left → List Event → PartTold
told_from t untouched events = record { tally = t; cycles = [] }
told_from t (stands s p) events = record { tally = tally_after s p t events; cycles = tallies_of s p t events }

abbrev pub told_work : Tally → Work → PartTold
told_work t x = told_from t x.pool x.events
