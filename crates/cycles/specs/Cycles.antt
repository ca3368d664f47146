-- The closed cycles of a run, and the numbers of each. "A program reads a trace and prints for each closed cycle: `cycle`, its ordinal from 1, `taken` and the
-- entries moved into the history, `freed` and the records freed, `net` and the sum of all counts at the close less that sum at the opening." (document 02, request 7)
--     opens_at, closes_at            a cycle opens, closes, by the phases before and after an event
--     ClosedCycle                    a closed cycle: the pool at its opening, and its events
--     up_to_close, is_closed_by      the events of an open cycle up to its close; whether it closes
--     closed_cycles                  the closed cycles of a run, in their order
--     taken_by, taken_in             "the entries moved into the history"
--     freed_by, freed_in             "the records freed"
--     count_sum, net_in              "the sum of all counts at the close less that sum at the opening"
--     numbers_of, cycles_of          the numbers of a closed cycle, and of all of a run
-- Assumes nothing.
use Rattle.std.specs.Prelude.{ℕ, ◌+◌, ◌-◌, Bool, false, cond, not, ◌&&◌, ◌||◌, List, [], ◌∷◌, map, eqb, ℤ, pos, ◌-ℤ◌, length}
pub use Rattle.std.specs.Prelude.{sum}
use Rattle.rules.specs.declared.Sizes.{Sizes}
use Rattle.rules.specs.declared.Event.{Event}
use Rattle.rules.specs.declared.Answer.{Answer}
use Rattle.rules.specs.declared.Answer.TheVariants.{Fresh, Made, Moved, Dropped, Loaded, Stored, Stepped, Freed, Refused}
use Rattle.rules.specs.Pool.{Pool}
use Rattle.rules.specs.Reply.{Outcome}
use Rattle.rules.specs.Outcome.{outcome, after}
use Rattle.cycles.specs.declared.Cycle.{Cycle}

-- ---- which events are a cycle's

-- "A cycle opens with the step out of phase 0"
abbrev pub opens_at : (before after : ℕ) → Bool
opens_at before after = eqb before 0 && not (eqb after 0)

-- "and closes with the step back to it"
abbrev pub closes_at : (before after : ℕ) → Bool
closes_at before after = not (eqb before 0) && eqb after 0

abbrev pub is_opening : Pool → Pool → Bool
is_opening p q = opens_at p.collector.phase q.collector.phase

abbrev pub is_close : Pool → Pool → Bool
is_close p q = closes_at p.collector.phase q.collector.phase

-- the pool at the opening, and the events from the opening to the close, both included
pub record ClosedCycle : Type 0 where
  pub opening : Pool
  pub events : List Event

-- the events of an open cycle from a pool on, up to the one that closes it; all of them if none does
unfoldable pub up_to_close : Sizes → Pool → List Event → List Event
up_to_close s p [] = []
up_to_close s p (e ∷ events) = let q = (outcome s p e).pool in e ∷ cond (is_close p q) [] (up_to_close s q events)

unfoldable pub is_closed_by : Sizes → Pool → List Event → Bool
is_closed_by s p [] = false
is_closed_by s p (e ∷ events) = let q = (outcome s p e).pool in is_close p q || is_closed_by s q events

-- "for each closed cycle": an event that opens one, and the events up to its close. A cycle that is still open is none of them
unfoldable pub closed_cycles : Sizes → Pool → List Event → List ClosedCycle
closed_cycles s p [] = []
closed_cycles s p (e ∷ events) =
    let q = (outcome s p e).pool in
    cond (is_opening p q && is_closed_by s q events)
    (record { opening = p; events = e ∷ up_to_close s q events } ∷ closed_cycles s q events)
    (closed_cycles s q events)

-- ---- the entries moved into the history

-- "Phase 2: that worker's log is added at the end of the history": by so much the history is longer then
unfoldable pub taken_by : Sizes → Pool → Event → ℕ
taken_by s p e = cond (eqb p.collector.phase 2) (length (outcome s p e).pool.history - length p.history) 0

unfoldable pub taken_in : Sizes → Pool → List Event → ℕ
taken_in s p [] = 0
taken_in s p (e ∷ events) = taken_by s p e + taken_in s (outcome s p e).pool events

-- ---- the records freed

-- "the answer is the record freed, otherwise 0"
unfoldable pub freed_by : Answer → ℕ
freed_by Fresh = 0
freed_by (Made a) = 0
freed_by (Moved a) = 0
freed_by Dropped = 0
freed_by (Loaded a) = 0
freed_by (Stored a) = 0
freed_by Stepped = 0
freed_by (Freed a) = 1
freed_by (Refused why) = 0

unfoldable pub freed_in : Sizes → Pool → List Event → ℕ
freed_in s p [] = 0
freed_in s p (e ∷ events) = let o : Outcome = outcome s p e in freed_by o.answer + freed_in s o.pool events

-- ---- the counts

-- "the sum of all counts"
abbrev pub count_sum : Pool → ℕ
count_sum p = sum p.records.count

-- one number less another, which may be larger: "The net may be below nought"
abbrev pub less : ℕ → ℕ → ℤ
less a b = pos a -ℤ pos b

-- "at the close less that sum at the opening": just after the last of the events, and where the first of them is yet to be done
unfoldable pub net_in : Sizes → Pool → List Event → ℤ
net_in s p events = less (count_sum (after s p events)) (count_sum p)

-- ---- the numbers

abbrev pub numbers_of : Sizes → ClosedCycle → Cycle
numbers_of s c =
    record { taken = taken_in s c.opening c.events; freed = freed_in s c.opening c.events; net = net_in s c.opening c.events }

-- of each closed cycle of a run
unfoldable pub cycles_of : Sizes → Pool → List Event → List Cycle
cycles_of s p events = map (numbers_of s) (closed_cycles s p events)
