-- The net of some events is what the collector's steps among them did to the counts, and nothing that a worker did.
--     less-less, less_same     one number less another, in two steps and of itself
--     net_of_the_steps         the net is the sum of what each collector step changed
-- Assumes nothing.
use Prim.Native.Nat.{ℕ}
use mathlib.Core.Path.{◌≡◌, refl, sym, ap, ◌∙◌}
use mathlib.Core.List.{List, [], ◌∷◌}
use lib.IntN.{ℤ, pos, neg_ℤ, ◌+ℤ◌, +ℤ_idl, +ℤ_assoc, +ℤ_comm, +ℤ_invl, +ℤ_invr}
use Rattle.rules.specs.declared.Sizes.{Sizes}
use Rattle.rules.specs.declared.Event.{Event}
use Rattle.rules.specs.declared.Event.TheVariants.{Make, Move, Drop, Load, Store, Look, Post, Collect}
use Rattle.rules.specs.Pool.{Pool}
use Rattle.rules.specs.Outcome.{outcome, after}
use Rattle.cycles.specs.Cycles.{sum, count_sum, less, net_in}
use Rattle.cycles.specs.Steps.{change_by, step_by, steps_net}
use Rattle.cycles.proofs.Leaves.{IsWorkers, worker_leaves, by_event}

pub less_same : (a : ℕ) → less a a ≡ pos 0
less_same a = +ℤ_invr (pos a)

-- from a to b, and from b to c
pub less-less : (a b c : ℕ) → less b a +ℤ less c b ≡ less c a
less-less a b c =
    +ℤ_comm (less b a) (less c b)
    ∙ +ℤ_assoc (pos c) (neg_ℤ (pos b)) (less b a)
    ∙ ap (λ (z : ℤ). pos c +ℤ z)
    (sym (+ℤ_assoc (neg_ℤ (pos b)) (pos b) (neg_ℤ (pos a))) ∙ ap (λ (z : ℤ). z +ℤ neg_ℤ (pos a)) (+ℤ_invl (pos b)) ∙ +ℤ_idl (neg_ℤ (pos a)))

module _ (s : Sizes) where
  -- of a worker's event nothing is added, and it changes nothing
  change_is_step : (p : Pool) (e : Event) → change_by s p e ≡ step_by s p e
  change_is_step p = by_event (λ e. change_by s p e ≡ step_by s p e) (λ e worker. unchanged e worker ∙ none e worker) refl
    where
      unchanged : (e : Event) → IsWorkers e → change_by s p e ≡ pos 0
      unchanged e worker = ap (λ (counts : List ℕ). less (sum counts) (count_sum p)) (worker_leaves s p e worker).counts ∙ less_same (count_sum p)

      none : (e : Event) → IsWorkers e → pos 0 ≡ step_by s p e
      none (Make w r) worker = refl
      none (Move w r q) worker = refl
      none (Drop w r) worker = refl
      none (Load w r q f) worker = refl
      none (Store w q f r) worker = refl
      none (Look w r e) worker = refl
      none (Post w e r) worker = refl
      none Collect worker = absurd worker

  pub net_of_the_steps : (p : Pool) (events : List Event) → net_in s p events ≡ steps_net s p events
  unfolding net_in steps_net after
  net_of_the_steps p [] = less_same (count_sum p)
  net_of_the_steps p (e ∷ events) =
      let q = (outcome s p e).pool in
      sym (less-less (count_sum p) (count_sum q) (count_sum (after s q events)))
      ∙ (λ j. change_is_step p e j +ℤ net_of_the_steps q events j)
