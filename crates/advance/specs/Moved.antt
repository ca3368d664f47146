-- How a step moves the collector's record on: "phase, position and closed-cycle number form one record that each step moves on".
--     closed_on     the record after the close
--     moved_on      the record after any step that moves it on
--     Movable       what the code asks of a record
--     MovesTo       what the code says of the record after it
-- Assumes nothing.
use Rattle.std.specs.Prelude.{◌≡◌, ℕ, ◌<◌, ◌≤◌, cond, List, length, ◌==◌}
use Rattle.rules.specs.declared.Collector.{Collector}
use Rattle.rules.specs.Pool.{Entry}
use Rattle.rules.specs.Collect.{advanced, next_closed}

-- "closed-cycle number up by one, phase 0"
abbrev pub closed_on : Collector → Collector
closed_on c = record { phase = 0; position = 0; closed = next_closed c.closed }

-- phase 6 is left by the close, any other as its n positions are done: "The phase changes within the step that did the last position, and the position returns
-- to 0." Phase 0 has one position: "open the cycle: phase 1, position 0"
unfoldable pub moved_on : ℕ → List Entry → Collector → Collector
moved_on n history c = cond (c.phase == 6) (closed_on c) (advanced n history c)

-- the phase is one of the seven, and the position one that has a next
abbrev pub Movable : Collector → Type 0
Movable c = (c.phase ≤ 6) × (c.position < 65535)

-- c moves on to x, whatever history of so many entries there is
abbrev pub MovesTo : (positions entries : ℕ) → Collector → Collector → Type 0
MovesTo positions entries c x = (history : List Entry) → length history ≡ entries → x ≡ moved_on positions history c
