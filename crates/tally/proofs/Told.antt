-- What is told of the events of a run, one after another, is the numbers of its cycles.
--     few_more            the numbers are as small with more events
--     sum_at_opening      the sum is asked for where a cycle opens
--     closed_most, tallies_most     at most one cycle closes with an event
--     still_fits          the numbers stay as small as the step allows, and the cycles as few
--     told_one            what is told of an event on a pool
--     told_cons, told_none     of one event and then the others, and of no event
--     run_is_told         of a run
-- Assumes nothing.
use Prim.Native.Nat.{ℕ, ◌+◌, ◌≤◌}
use mathlib.Core.Path.{◌≡◌, refl, sym, ap, ◌∙◌}
use mathlib.Core.Bool.{Bool, true, false, cond}
use mathlib.Core.List.{List, [], ◌∷◌, ◌++◌}
use native.Mathlib.Omega.{arith}
use native.Mathlib.Nat.{add-zero, mul-le-mul_right}
use lib.IntN.{ℤ}
use lib.ListN.{length, length-append}
use Rattle.rules.specs.declared.Sizes.{Sizes}
use Rattle.rules.specs.declared.Event.{Event}
use Rattle.rules.specs.declared.Answer.{Answer}
use Rattle.rules.specs.Pool.{Pool}
use Rattle.rules.specs.Outcome.{outcome}
use Rattle.cycles.specs.declared.Tally.{Tally}
use Rattle.cycles.specs.declared.Tallied.{Tallied}
use Rattle.cycles.specs.declared.turn.Turn.{Turn}
use Rattle.cycles.specs.Cycles.{opens_at, closes_at, freed_by, count_sum}
use Rattle.cycles.specs.Tally.{begun, taken_at, tally_step, closed_as, tallied, closing, tally_after, tallies_of, Few}
use Rattle.cycles.specs.Slice.{closed_now, Counts}
use Rattle.cycles.proofs.Leaves.{opening_counts}
use Rattle.cycles.proofs.Placed.{put-none, put_append}
use Rattle.trace.specs.Told.{told_of, told_by}
use Rattle.tally.specs.declared.Cycles.{Cycles}
use Rattle.tally.specs.Told.{keeps, cycles_told, run_told}

pub few_more : {step more : ℕ} {t : Tally} → step ≤ more → Few step t → Few more t
few_more {step} {more} {t} later few =
    record {
      opening = few.opening;
      taken = omega (arith, few.taken, mul-le-mul_right 65536 later);
      freed = omega (arith, few.freed, mul-le-mul_right 65536 later);
    }

-- the sum is asked for where a cycle opens
sum_at_opening : (x : Tally) (a b before after had has : ℕ) (answer : Answer) → (opens_at before after ≡ true → a ≡ b)
    → tally_step x a before after had has answer ≡ tally_step x b before after had has answer
unfolding tally_step
sum_at_opening x a b before after had has answer same = by_test (opens_at before after) same
  where
    step : Tally → Tally
    step u = record { opening = u.opening; taken = u.taken + taken_at before had has; freed = u.freed + freed_by answer }

    by_test : (opens : Bool) → (opens ≡ true → a ≡ b) → step (cond opens (begun a) x) ≡ step (cond opens (begun b) x)
    by_test true same = ap (λ (n : ℕ). step (begun n)) (same refl)
    by_test false same = refl

-- at most one cycle closes with an event
pub closed_most : (t : Tally) (sum before after : ℕ) → length (closed_now t sum before after) ≤ 1
closed_most t sum before after = by_test (closes_at before after)
  where
    by_test : (b : Bool) → length (cond b (closed_as t sum ∷ []) []) ≤ 1
    by_test true = omega arith
    by_test false = omega arith

pub tallies_most : (s : Sizes) (p : Pool) (t : Tally) (events : List Event) → length (tallies_of s p t events) ≤ length events
unfolding tallies_of closing
tallies_most s p t [] = omega arith
tallies_most s p t (e ∷ events) =
    let q = (outcome s p e).pool in
    let u = tallied s p t e in
    omega (arith, length-append (closing s p t e) (tallies_of s q u events), closed_most u (count_sum q) p.collector.phase q.collector.phase, tallies_most s q u events)

pub still_fits : {step sum : ℕ} {x y : Tallied} {turn : Turn} {room filled : List ℤ} → Counts x sum turn room y filled
    → Few step x.tally × (x.cycles ≤ step) → Few (step + 1) y.tally × (y.cycles ≤ step + 1)
still_fits {step} {sum} {x} {y} {turn} counts fits =
    (counts.tally.few step fits.0, omega (arith, counts.closes.count, closed_most y.tally sum turn.before turn.after, fits.1))

-- no cycle closes
pub told_none : (x : Cycles) → x ≡ keeps x x.tallied.tally []
told_none x =
    λ j.
    record {
      numbers = record { ref_ptr = x.numbers.ref_ptr; ghost_name = x.numbers.ghost_name; now = sym (put-none x.tallied.cycles x.numbers.now) j };
      tallied = record { tally = x.tallied.tally; cycles = sym (add-zero x.tallied.cycles) j };
    }

module _ (s : Sizes) where
  -- an opening leaves the counts
  told_one : (p : Pool) (x : Cycles) (e : Event) → told_of cycles_told s p x e ≡ keeps x (tallied s p x.tallied.tally e) (closing s p x.tallied.tally e)
  unfolding tallied closing
  told_one p x e =
      let o = outcome s p e in
      let q : Pool = o.pool in
      ap (λ (u : Tally). keeps x u (closed_now u (count_sum q) p.collector.phase q.collector.phase))
      (sum_at_opening x.tallied.tally (count_sum q) (count_sum p) p.collector.phase q.collector.phase (length p.history) (length q.history) o.answer (opening_counts s p e))

  told_cons : (p : Pool) (x : Cycles) (e : Event) (events : List Event)
      → run_told s (outcome s p e).pool (keeps x (tallied s p x.tallied.tally e) (closing s p x.tallied.tally e)) events ≡ run_told s p x (e ∷ events)
  unfolding tally_after tallies_of
  told_cons p x e events =
      let q = (outcome s p e).pool in
      let u = tallied s p x.tallied.tally e in
      let closed = closing s p x.tallied.tally e in
      let more = tallies_of s q u events in
      let cycles = x.tallied.cycles in
      let count : cycles + length closed + length more ≡ cycles + length (closed ++ more) = omega (arith, length-append closed more) in
      λ j.
      record {
        numbers = record { ref_ptr = x.numbers.ref_ptr; ghost_name = x.numbers.ghost_name; now = sym (put_append cycles x.numbers.now closed more) j };
        tallied = record { tally = tally_after s q u events; cycles = count j };
      }

  pub run_is_told : (p : Pool) (x : Cycles) (events : List Event) → told_by cycles_told s p x events ≡ run_told s p x events
  unfolding told_by tally_after tallies_of
  run_is_told p x [] = told_none x
  run_is_told p x (e ∷ events) =
      let q = (outcome s p e).pool in
      let y = keeps x (tallied s p x.tallied.tally e) (closing s p x.tallied.tally e) in
      ap (λ (z : Cycles). told_by cycles_told s q z events) (told_one p x e) ∙ run_is_told q y events ∙ told_cons p x e events
