-- Document 01's whole case, and a run with links, computed by the definitions.
-- Assumes nothing.
use mathlib.Core.Path.{◌≡◌, refl}
use mathlib.Core.List.{List, [], ◌∷◌, ◌++◌}
use lib.IntN.{pos, negsuc}
use Rattle.rules.specs.declared.Event.{Event}
use Rattle.rules.specs.declared.Event.TheVariants.{Make, Drop, Store, Collect}
use Rattle.rules.specs.Pool.{fresh}
use Rattle.rules.specs.Starred.{sizes_of}
use Rattle.rules.proofs.Starred.{computes}
use Rattle.cycles.specs.Cycles.{up_to_close, is_closed_by, closed_cycles, taken_by, taken_in, freed_by, freed_in, net_in, cycles_of}

-- the events of the listing
events : List Event
events = Make 0 0 ∷ Drop 0 0 ∷ Collect ∷ Collect ∷ Collect ∷ Collect ∷ Collect ∷ Collect ∷ Make 0 0 ∷ []

listing : cycles_of (sizes_of 2 1 1 1) (fresh (sizes_of 2 1 1 1)) events ≡ record { taken = 0; freed = 1; net = pos 0 } ∷ []
unfolding computes events up_to_close is_closed_by closed_cycles taken_by taken_in freed_by freed_in net_in cycles_of
listing = refl

-- record 1 holds 2, both are dropped: the first cycle counts the link, the second frees both
seven : List Event
seven = Collect ∷ Collect ∷ Collect ∷ Collect ∷ Collect ∷ Collect ∷ Collect ∷ []

chain : List Event
chain = Make 0 0 ∷ Make 0 1 ∷ Store 0 0 0 1 ∷ seven ++ (Drop 0 0 ∷ Drop 0 1 ∷ []) ++ seven ++ (Collect ∷ Make 0 0 ∷ [])

chained : cycles_of (sizes_of 2 1 1 2) (fresh (sizes_of 2 1 1 2)) chain ≡ record { taken = 1; freed = 0; net = pos 1 } ∷ record { taken = 0; freed = 2; net = negsuc 0 } ∷ []
unfolding computes seven chain up_to_close is_closed_by closed_cycles taken_by taken_in freed_by freed_in net_in cycles_of
chained = refl
