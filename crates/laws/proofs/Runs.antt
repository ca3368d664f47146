-- A run.
--     run_keeps     what every event keeps, a run keeps
-- Assumes nothing.
use mathlib.Core.List.{List, [], ◌∷◌}
use Rattle.rules.specs.declared.Sizes.{Sizes}
use Rattle.rules.specs.declared.Event.{Event}
use Rattle.rules.specs.Pool.{Pool}
use Rattle.rules.specs.Outcome.{outcome, after}

pub run_keeps : (s : Sizes) (P : Pool → Type 0) → ((p : Pool) → P p → (e : Event) → P (outcome s p e).pool) → (p : Pool) → P p → (events : List Event) → P (after s p events)
unfolding after
run_keeps s P step p h [] = h
run_keeps s P step p h (e ∷ events) = run_keeps s P step (outcome s p e).pool (step p h e) events
