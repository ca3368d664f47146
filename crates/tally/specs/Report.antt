-- The report of a trace, from its bytes. "A program reads a trace and prints for each closed cycle ..; After the last comes 01's `end` line, or its `refused` line."
-- (document 02, request 7)
--     cycles_in                    the closed cycles of the events that stand in a trace
--     Reported, reported_of, reported     a report: these, and how the trace's replay ends
-- Assumes nothing.
use Rattle.std.specs.Prelude.{ℕ, Bool, List, []}
use Rattle.rules.specs.declared.Sizes.{Sizes}
use Rattle.rules.specs.Pool.{fresh}
use Rattle.cycles.specs.declared.Cycle.{Cycle}
use Rattle.cycles.specs.Cycles.{cycles_of}
use Rattle.trace.specs.Replay.{Ending, Left, untouched, stands, replayed}
use Rattle.trace.specs.Promise.{events_of}

-- from the fresh pool on; a trace whose sizes are refused has none
abbrev pub cycles_in : Left → List ℕ → List Cycle
cycles_in untouched bytes = []
cycles_in (stands s p) bytes = cycles_of s (fresh s) (events_of bytes)

pub record Reported : Type 0 where
  pub cycles : List Cycle
  pub ending : Ending

-- the sizes are taken, or not, and the trace ends, as in its replay
unfoldable pub reported : (Sizes → Bool) → List ℕ → Reported
reported takes bytes = record { cycles = cycles_in (replayed takes bytes).left bytes; ending = (replayed takes bytes).ending }
