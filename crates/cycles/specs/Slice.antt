-- The numbers of the cycles in a caller's slice: taken, freed and net of each in turn, as far as there is room.
--     put_cycles     cycles put into a slice
--     put_from       behind so many others
--     closed_now     the cycle that closes with an event, if one does, by its phases
--     Puts           cycles are put, and counted
--     Counts         an event is tallied, and the cycle that closes with it is put
-- Assumes nothing.
use Rattle.std.specs.Prelude.{ℕ, zero, suc, ◌+◌, ◌≡◌, cond, List, [], ◌∷◌, ℤ, pos, length}
use Rattle.cycles.specs.declared.Cycle.{Cycle}
use Rattle.cycles.specs.declared.Tally.{Tally}
use Rattle.cycles.specs.declared.Tallied.{Tallied}
use Rattle.cycles.specs.declared.turn.Turn.{Turn}
use Rattle.cycles.specs.Cycles.{closes_at}
use Rattle.cycles.specs.Tally.{closed_as, Steps}

unfoldable pub put_cycles : List ℤ → List Cycle → List ℤ
put_cycles room [] = room
put_cycles [] (c ∷ cycles) = []
put_cycles (x ∷ []) (c ∷ cycles) = x ∷ []
put_cycles (x ∷ y ∷ []) (c ∷ cycles) = x ∷ y ∷ []
put_cycles (x ∷ y ∷ z ∷ room) (c ∷ cycles) = pos c.taken ∷ pos c.freed ∷ c.net ∷ put_cycles room cycles

unfoldable pub put_from : ℕ → List ℤ → List Cycle → List ℤ
put_from zero room cycles = put_cycles room cycles
put_from (suc i) [] cycles = []
put_from (suc i) (x ∷ []) cycles = x ∷ []
put_from (suc i) (x ∷ y ∷ []) cycles = x ∷ y ∷ []
put_from (suc i) (x ∷ y ∷ z ∷ room) cycles = x ∷ y ∷ z ∷ put_from i room cycles

abbrev pub closed_now : Tally → (sum before after : ℕ) → List Cycle
closed_now t sum before after = cond (closes_at before after) (closed_as t sum ∷ []) []

-- cycles are put behind so many others
pub record Puts (before : ℕ) (room : List ℤ) (cycles : List Cycle) (after : ℕ) (filled : List ℤ) : Type 0 where
  pub count : after ≡ before + length cycles
  pub numbers : filled ≡ put_from before room cycles

pub record Counts (x : Tallied) (sum : ℕ) (e : Turn) (room : List ℤ) (y : Tallied) (filled : List ℤ) : Type 0 where
  pub tally : Steps x.tally sum e y.tally
  pub closes : Puts x.cycles room (closed_now y.tally sum e.before e.after) y.cycles filled
