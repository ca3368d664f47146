-- What `Cycles` keeps of the events of a part.
--     part_kept          the numbers of the open cycle, and the cycles that close
--     cycles_most        no more cycles close than there are lines
--     cycles_small       their nets are small
-- Assumes nothing.
use Prim.Native.Nat.{ℕ, ◌≤◌}
use mathlib.Core.Path.{◌≡◌}
use native.Mathlib.Omega.{arith}
use lib.ListN.{length}
use Rattle.rules.specs.Sound.{Each}
use Rattle.cycles.specs.declared.Tally.{Tally}
use Rattle.cycles.proofs.Small.{SmallNet, tallies_small}
use Rattle.trace.specs.Replay.{Left, untouched, stands}
use Rattle.trace.proofs.Sized.{length_lines}
use Rattle.tally.specs.declared.Cycles.{Cycles}
use Rattle.tally.specs.Told.{keeps, cycles_told}
use Rattle.tally.proofs.Told.{tallies_most, told_none, run_is_told}
use Rattle.parts.specs.Work.{Work, work_told}
use Rattle.parts.proofs.Works.{work_lines, SoundWork}
use Rattle.reports.specs.Told.{told_work}

-- some events on what is left so
abbrev on : Left → Work → Work
on left w = record { pool = left; events = w.events }

pub part_kept : (w : Work) (x : Cycles) → let told = told_work x.tallied.tally w in work_told cycles_told w x ≡ keeps x told.tally told.cycles
unfolding work_told
part_kept w x = by_pool w.pool
  where
    by_pool : (left : Left) → let told = told_work x.tallied.tally (on left w) in work_told cycles_told (on left w) x ≡ keeps x told.tally told.cycles
    by_pool untouched = told_none x
    by_pool (stands s p) = run_is_told s p x w.events

pub cycles_most : (w : Work) (step : ℕ) (t : Tally) → length (told_work t w).cycles ≤ length (work_lines step w)
cycles_most w step t = by_pool w.pool
  where
    by_pool : (left : Left) → length (told_work t (on left w)).cycles ≤ length (work_lines step (on left w))
    by_pool untouched = omega arith
    by_pool (stands s p) = omega (arith, tallies_most s p t w.events, length_lines s p step w.events)

pub cycles_small : (w : Work) → SoundWork w → (t : Tally) → t.opening ≤ 67107840 → Each SmallNet (told_work t w).cycles
cycles_small w sound t small = by_pool w.pool sound
  where
    by_pool : (left : Left) → SoundWork (on left w) → Each SmallNet (told_work t (on left w)).cycles
    by_pool untouched sound = tt
    by_pool (stands s p) sound = tallies_small s sound.0 p sound.1 t w.events small
