-- What the parts of a step do to the tables that they are lent, number by number.
--     unmade      phase 2: the makers, where a worker is
--     held_in     phase 4: the records in some registers
-- Assumes nothing.
use Rattle.std.specs.Prelude.{ℕ, ◌+◌, true, cond, List, [], ◌∷◌, map, eqb}
use Rattle.tables.specs.Bits.{mark_record}

-- "every record of which it is maker becomes .. with maker 0"
unfoldable pub unmade : ℕ → List ℕ → List ℕ
unmade w makers = map (λ m. cond (eqb m (w + 1)) 0 m) makers

-- "every record in its registers is held"
unfoldable pub held_in : List ℕ → List ℕ → List ℕ
held_in [] held = held
held_in (a ∷ registers) held = held_in registers (mark_record held a true)
