-- The numbers of a trace's cycles, as they are told event by event.
--     cycles_told     what `Cycles` keeps of an event
--     run_told        of the events of a run: the numbers of the open cycle, how many have closed, and these in the caller's slice
-- Assumes nothing.
use Rattle.std.specs.Prelude.{◌+◌, List, length}
use Rattle.rules.specs.declared.Sizes.{Sizes}
use Rattle.rules.specs.declared.Event.{Event}
use Rattle.rules.specs.Pool.{Pool}
use Rattle.cycles.specs.declared.Cycle.{Cycle}
use Rattle.cycles.specs.declared.Tally.{Tally}
use Rattle.cycles.specs.Cycles.{sum}
use Rattle.cycles.specs.Tally.{tally_step, tally_after, tallies_of}
use Rattle.cycles.specs.Slice.{put_from, closed_now}
use Rattle.trace.specs.Told.{Telling}
use Rattle.tally.specs.declared.Cycles.{Cycles}

-- the numbers are these, and the cycles that close are put behind the others
abbrev pub keeps : Cycles → Tally → List Cycle → Cycles
keeps x tally closed =
    record {
      numbers = record { ref_ptr = x.numbers.ref_ptr; ghost_name = x.numbers.ghost_name; now = put_from x.tallied.cycles x.numbers.now closed };
      tallied = record { tally = tally; cycles = x.tallied.cycles + length closed };
    }

abbrev pub cycles_told : Telling Cycles
cycles_told x counts before after had has answer =
    let tally : Tally = tally_step x.tallied.tally (sum counts) before after had has answer in
    keeps x tally (closed_now tally (sum counts) before after)

-- from a pool
abbrev pub run_told : Sizes → Pool → Cycles → List Event → Cycles
run_told s p x events = keeps x (tally_after s p x.tallied.tally events) (tallies_of s p x.tallied.tally events)
