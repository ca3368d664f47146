-- The numbers of the open cycle after an event, and those of the cycle that closes.
--     steps         the numbers, by whether a cycle opens
--     less_most     a difference is no further from nought than its two numbers
-- Assumes nothing.
use Prim.Native.Nat.{ℕ, zero, suc, ◌+◌, ◌-◌, ◌≤◌}
use mathlib.Core.Path.{◌≡◌, sym, ap, ◌∙◌}
use mathlib.Core.Bool.{Bool, true, false, cond}
use native.Mathlib.Omega.{arith}
use lib.Dec.{ltb}
use lib.IntN.{pos, negsuc}
use lib.Signed.{mag}
use Rattle.cycles.specs.declared.Tally.{Tally}
use Rattle.cycles.specs.declared.turn.Turn.{Turn}
use Rattle.cycles.specs.Cycles.{opens_at, freed_by, less}
use Rattle.cycles.specs.Tally.{begun, taken_at, tally_step, Few, Steps}

module _ (t : Tally) (sum : ℕ) (e : Turn) where
  -- from the numbers at an opening, or from those so far
  pub steps : (opens : Bool) {start : Tally} {taken freed : ℕ} → opens_at e.before e.after ≡ opens → start ≡ cond opens (begun sum) t → sum ≤ 67107840
      → taken ≡ taken_at e.before e.had e.has → taken ≤ 65535 → freed ≡ freed_by e.answer → freed ≤ 1
      → Steps t sum e (record { opening = start.opening; taken = start.taken + taken; freed = start.freed + freed })
  unfolding tally_step
  steps opens {start} {taken} {freed} is begins small takes few-taken frees few-freed =
      record {
        same =
            (λ j. record { opening = (begins j).opening; taken = (begins j).taken + takes j; freed = (begins j).freed + frees j })
            ∙ ap (λ (b : Bool). let u : Tally = cond b (begun sum) t in record { opening = u.opening; taken = u.taken + taken_at e.before e.had e.has; freed = u.freed + freed_by e.answer }) (sym is);
        few = λ step so-far. more step (within step opens so-far);
      }
    where
      within : (step : ℕ) (b : Bool) → Few step t → Few step (cond b (begun sum) t)
      within step true so-far = record { opening = small; taken = omega arith; freed = omega arith }
      within step false so-far = so-far

      more : (step : ℕ) → Few step (cond opens (begun sum) t) → Few (step + 1) (record { opening = start.opening; taken = start.taken + taken; freed = start.freed + freed })
      more step from =
          record {
            opening = omega (arith, ap (λ (u : Tally). u.opening) begins, from.opening);
            taken = omega (arith, ap (λ (u : Tally). u.taken) begins, from.taken);
            freed = omega (arith, ap (λ (u : Tally). u.freed) begins, from.freed);
          }

pub less_most : (most a b : ℕ) → a ≤ most → b ≤ most → mag (less a b) ≤ most
less_most most a zero first second = omega arith
less_most most a (suc b) first second = by_sign (ltb a (suc b))
  where
    by_sign : (sign : Bool) → mag (cond sign (negsuc (suc b - suc a)) (pos (a - suc b))) ≤ most
    by_sign true = omega arith
    by_sign false = omega arith
