-- The numbers of a cycle, kept up event by event: what the open cycle has so far, set back where one opens, and done where one closes. proofs/KeptUp.antt shows that
-- these are the numbers of Cycles.antt.
--     begun                     the numbers at an opening
--     taken_at                  what an event takes, by the lengths of the history before and after it
--     tally_step                the numbers after an event
--     closed_as                 those of the cycle that closes
--     tallied, closing          the same of an event on a pool
--     tally_after, tallies_of   the numbers after a run, and the cycles that close in it
--     Few, Countable            how large they are, and so many counts that their sum fits
--     Steps                     the numbers after an event, and how large they are
-- Assumes nothing.
use Rattle.std.specs.Prelude.{ℕ, ◌+◌, ◌-◌, ◌*◌, ◌≤◌, ◌≡◌, cond, List, [], ◌∷◌, ◌++◌, eqb, length}
use Rattle.rules.specs.declared.Sizes.{Sizes}
use Rattle.rules.specs.declared.Event.{Event}
use Rattle.rules.specs.declared.Answer.{Answer}
use Rattle.rules.specs.Pool.{Pool}
use Rattle.rules.specs.Reply.{Outcome}
use Rattle.rules.specs.Outcome.{outcome}
use Rattle.cycles.specs.declared.Cycle.{Cycle}
use Rattle.cycles.specs.declared.Tally.{Tally}
use Rattle.cycles.specs.declared.turn.Turn.{Turn}
use Rattle.cycles.specs.Cycles.{opens_at, closes_at, freed_by, sum, count_sum, less}

-- ---- by numbers

abbrev pub begun : ℕ → Tally
begun sum = record { opening = sum; taken = 0; freed = 0 }

-- in phase 2 the history grows by what is taken
abbrev pub taken_at : (before had has : ℕ) → ℕ
taken_at before had has = cond (eqb before 2) (has - had) 0

-- the event's phases, the lengths of the history before and after it, its answer, and the sum of all counts
unfoldable pub tally_step : Tally → (sum before after had has : ℕ) → Answer → Tally
tally_step t sum before after had has x =
    let u : Tally = cond (opens_at before after) (begun sum) t in
    record { opening = u.opening; taken = u.taken + taken_at before had has; freed = u.freed + freed_by x }

abbrev pub closed_as : Tally → ℕ → Cycle
closed_as t sum = record { taken = t.taken; freed = t.freed; net = less sum t.opening }

-- ---- on a pool

abbrev pub tallied_by : Tally → Pool → Outcome → Tally
tallied_by t p o =
    let q : Pool = o.pool in
    tally_step t (count_sum p) p.collector.phase q.collector.phase (length p.history) (length q.history) o.answer

unfoldable pub tallied : Sizes → Pool → Tally → Event → Tally
tallied s p t e = tallied_by t p (outcome s p e)

-- the cycle that closes with an event, if one does
unfoldable pub closing : Sizes → Pool → Tally → Event → List Cycle
closing s p t e =
    let q : Pool = (outcome s p e).pool in
    cond (closes_at p.collector.phase q.collector.phase) (closed_as (tallied s p t e) (count_sum q) ∷ []) []

unfoldable pub tally_after : Sizes → Pool → Tally → List Event → Tally
tally_after s p t [] = t
tally_after s p t (e ∷ events) = tally_after s (outcome s p e).pool (tallied s p t e) events

unfoldable pub tallies_of : Sizes → Pool → Tally → List Event → List Cycle
tallies_of s p t [] = []
tallies_of s p t (e ∷ events) = closing s p t e ++ tallies_of s (outcome s p e).pool (tallied s p t e) events

-- ---- how large they are

-- an event takes and frees fewer than 65,536, and a step number has 32 bits; 1,024 counts have 16 bits each
pub record Few (step : ℕ) (t : Tally) : Type 0 where
  pub opening : t.opening ≤ 67107840
  pub taken : t.taken ≤ step * 65536
  pub freed : t.freed ≤ step * 65536

-- as many counts as a pool has at most
abbrev pub Countable : ℕ → Tally → List ℕ → Type 0
Countable step t counts = Few step t × (length counts ≤ 1024)

-- the numbers after an event, by the sum of all counts
pub record Steps (t : Tally) (sum : ℕ) (e : Turn) (x : Tally) : Type 0 where
  pub same : x ≡ tally_step t sum e.before e.after e.had e.has e.answer
  pub few : (step : ℕ) → Few step t → Few (step + 1) x
