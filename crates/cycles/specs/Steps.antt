-- What each event did to the counts.
--     change_by      by how much the sum of all counts changes with an event
--     steps_net      what the collector's steps among some events did to it
-- Assumes nothing.
use Rattle.std.specs.Prelude.{List, [], ◌∷◌, ℤ, pos, ◌+ℤ◌}
use Rattle.rules.specs.declared.Sizes.{Sizes}
use Rattle.rules.specs.declared.Event.{Event}
use Rattle.rules.specs.declared.Event.TheVariants.{Make, Move, Drop, Load, Store, Look, Post, Collect}
use Rattle.rules.specs.Pool.{Pool}
use Rattle.rules.specs.Outcome.{outcome}
use Rattle.cycles.specs.Cycles.{count_sum, less}

abbrev pub change_by : Sizes → Pool → Event → ℤ
change_by s p e = less (count_sum (outcome s p e).pool) (count_sum p)

-- of a worker's event nothing is added
abbrev pub step_by : Sizes → Pool → Event → ℤ
step_by s p (Make w r) = pos 0
step_by s p (Move w r q) = pos 0
step_by s p (Drop w r) = pos 0
step_by s p (Load w r q f) = pos 0
step_by s p (Store w q f r) = pos 0
step_by s p (Look w r e) = pos 0
step_by s p (Post w e r) = pos 0
step_by s p Collect = change_by s p Collect

unfoldable pub steps_net : Sizes → Pool → List Event → ℤ
steps_net s p [] = pos 0
steps_net s p (e ∷ events) = step_by s p e +ℤ steps_net s (outcome s p e).pool events
