-- A number that may be below nought.
--     net_most             how long its text is at most
--     net_below, net_up    its text, by its sign
-- Assumes nothing.
use Prim.Native.Nat.{ℕ, suc, ◌≤◌}
use mathlib.Core.Path.{◌≡◌, refl, sym, ap}
use mathlib.Core.Bool.{true, false, true≢false}
use mathlib.Core.List.{◌∷◌}
use native.Mathlib.Omega.{arith}
use native.Mathlib.Nat.{zero-add, not-suc-le-zero}
use borrow.Author.Tests.{ltb-true}
use lib.ListN.{length}
use lib.IntN.{ℤ, pos, negsuc, nat_abs, ◌-ℤ◌}
use lib.Signed.{lt_z}
use Rattle.text.specs.Text.{decimal}
use Rattle.text.specs.Cycle.{net_decimal}
use Rattle.text.proofs.Digits.{decimal_20}

-- a sign and 20 digits at most
pub net_most : (net : ℤ) → length (net_decimal net) ≤ 21
unfolding net_decimal
net_most (pos n) = omega (arith, decimal_20 n)
net_most (negsuc n) = omega (arith, decimal_20 (suc n))

-- behind the sign stands what it is when it is negated
pub net_below : (net : ℤ) → lt_z net (pos 0) ≡ true → net_decimal net ≡ 45 ∷ decimal (nat_abs (pos 0 -ℤ net))
unfolding net_decimal
net_below (pos n) low = absurd (not-suc-le-zero (ltb-true n 0 low))
net_below (negsuc n) low = ap (λ (k : ℕ). 45 ∷ decimal k) (sym (zero-add (suc n)))

pub net_up : (net : ℤ) → lt_z net (pos 0) ≡ false → net_decimal net ≡ decimal (nat_abs net)
unfolding net_decimal
net_up (pos n) high = refl
net_up (negsuc n) high = absurd (true≢false high)
