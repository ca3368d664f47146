-- How far from nought the net of a cycle can be.
--     count_sum_most            the counts of a sound pool
--     SmallNet, tallies_small   the cycles of a run from a sound pool
-- Assumes nothing.
use Prim.Native.Nat.{suc, ◌≤◌}
use mathlib.Core.Path.{◌≡◌}
use mathlib.Core.Bool.{Bool, true, false, cond}
use mathlib.Core.List.{List, [], ◌∷◌}
use native.Mathlib.Omega.{arith}
use native.Mathlib.Nat.{mul-le-mul_right}
use lib.Signed.{mag}
use Rattle.rules.specs.declared.Sizes.{Sizes}
use Rattle.rules.specs.declared.Event.{Event}
use Rattle.rules.specs.Size.{in_range}
use Rattle.rules.specs.Pool.{Pool}
use Rattle.rules.specs.Outcome.{outcome}
use Rattle.rules.specs.Sound.{Each, Sound}
use Rattle.std.specs.List.{All}
use Rattle.std.proofs.lemmas.List.Elements.{All-from_get_or}
use Rattle.std.proofs.lemmas.List.Sums.{sum_by-le}
use Rattle.laws.proofs.Lists.{Each-append}
use Rattle.laws.proofs.Number.{bounds, links_most}
use Rattle.soundness.proofs.Known.{count_most}
use Rattle.soundness.proofs.Kept.{event_keeps_sound}
use Rattle.cycles.specs.declared.Cycle.{Cycle}
use Rattle.cycles.specs.declared.Tally.{Tally}
use Rattle.cycles.specs.Cycles.{opens_at, closes_at, count_sum}
use Rattle.cycles.specs.Tally.{begun, tally_step, closed_as, tallied, closing, tallies_of}
use Rattle.cycles.proofs.Stepped.{less_most}

-- a cycle whose net has 31 bits
abbrev pub SmallNet : Cycle → Type 0
SmallNet c = mag c.net ≤ 67107840

module _ (s : Sizes) (range : in_range s ≡ true) where
  pub count_sum_most : (p : Pool) → Sound s p → count_sum p ≤ 67107840
  count_sum_most p sound =
      let counts = p.records.count in
      let each : All (λ x. x ≤ 8208) counts =
      All-from_get_or (λ x. x ≤ 8208) counts 0
      (λ i inside. omega (arith, count_most sound (record { 0 = suc i }) (omega arith) (omega (arith, sound.shaped.records.count)), links_most s range)) in
      omega (arith, sum_by-le (λ x. x) 8208 counts each, sound.shaped.records.count, mul-le-mul_right 8208 (bounds s range).n_most)

  -- the sum at the opening stays, or is that of the pool
  opening_small : (p : Pool) → Sound s p → (t : Tally) (e : Event) → t.opening ≤ 67107840 → (tallied s p t e).opening ≤ 67107840
  unfolding tallied tally_step
  opening_small p sound t e few = by_test (opens_at p.collector.phase (outcome s p e).pool.collector.phase)
    where
      by_test : (b : Bool) → (cond b (begun (count_sum p)) t).opening ≤ 67107840
      by_test true = count_sum_most p sound
      by_test false = few

  closing_small : (p : Pool) → Sound s p → (t : Tally) (e : Event) → t.opening ≤ 67107840 → Each SmallNet (closing s p t e)
  unfolding closing
  closing_small p sound t e few =
      let q = (outcome s p e).pool in
      by_test (closes_at p.collector.phase q.collector.phase)
      (less_most 67107840 (count_sum q) (tallied s p t e).opening (count_sum_most q (event_keeps_sound s range p sound e)) (opening_small p sound t e few))
    where
      by_test : (b : Bool) → SmallNet (closed_as (tallied s p t e) (count_sum (outcome s p e).pool))
          → Each SmallNet (cond b (closed_as (tallied s p t e) (count_sum (outcome s p e).pool) ∷ []) [])
      by_test true small = (small, tt)
      by_test false small = tt

  pub tallies_small : (p : Pool) → Sound s p → (t : Tally) (events : List Event) → t.opening ≤ 67107840 → Each SmallNet (tallies_of s p t events)
  unfolding tallies_of
  tallies_small p sound t [] few = tt
  tallies_small p sound t (e ∷ events) few =
      let q = (outcome s p e).pool in
      Each-append SmallNet (closing s p t e) (tallies_of s q (tallied s p t e) events) (closing_small p sound t e few)
      (tallies_small q (event_keeps_sound s range p sound e) (tallied s p t e) events (opening_small p sound t e few))
