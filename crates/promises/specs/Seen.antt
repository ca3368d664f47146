-- The value of a link that the collector last saw. It sees a link where it clears the link's mark, and where it empties the link.
--     cleared         an event turned a link's changed mark off
--     emptied_by      an event emptied a link
--     seen_after      the value last seen, after an event
--     last_seen       the value last seen, after a run
-- Assumes nothing.
use Rattle.std.specs.Prelude.{Bool, cond, not, ◌&&◌, false, List, [], ◌∷◌, eqb}
use Rattle.rules.specs.declared.Sizes.{Sizes}
use Rattle.rules.specs.declared.RecordNumber.{RecordNumber}
use Rattle.rules.specs.declared.LinkNumber.{LinkNumber}
use Rattle.rules.specs.declared.Event.{Event}
use Rattle.rules.specs.declared.Event.TheVariants.{Make, Move, Drop, Load, Store, Look, Post, Collect}
use Rattle.rules.specs.Pool.{Pool, none, value_at, changed_at}
use Rattle.rules.specs.Outcome.{outcome}

-- from pool p to pool q the mark of l went off
abbrev pub cleared : Pool → Pool → LinkNumber → Bool
cleared p q l = changed_at p l && not (changed_at q l)

-- a collect event emptied l, from pool p to pool q: it held a record and became none. So it is where its record is freed, and where the unchanged links of a record
-- that waits are emptied (document 02, request 8)
unfoldable pub emptied_by : Event → Pool → Pool → LinkNumber → Bool
emptied_by (Make w r) p q l = false
emptied_by (Move w r x) p q l = false
emptied_by (Drop w r) p q l = false
emptied_by (Load w r x f) p q l = false
emptied_by (Store w x f r) p q l = false
emptied_by (Look w r e) p q l = false
emptied_by (Post w e r) p q l = false
emptied_by Collect p q l = not (eqb (value_at p l).0 0) && eqb (value_at q l).0 0

-- at a clearing the link's value then, at an emptying none, else what was seen before
unfoldable pub seen_after : Sizes → Pool → Event → (LinkNumber → RecordNumber) → LinkNumber → RecordNumber
seen_after s p e before l =
    let q = (outcome s p e).pool in
    cond (cleared p q l) (value_at p l) (cond (emptied_by e p q l) none (before l))

-- over the events of a run from a pool
unfoldable pub last_seen : Sizes → Pool → (LinkNumber → RecordNumber) → List Event → LinkNumber → RecordNumber
last_seen s p before [] = before
last_seen s p before (e ∷ events) = last_seen s (outcome s p e).pool (seen_after s p e before) events
