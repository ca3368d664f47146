-- The registers' places.
--     registers_most     how many registers there are at most
--     row_most           where a worker's registers end at most
-- Assumes nothing.
use Prim.Native.Nat.{ℕ, ◌+◌, ◌*◌, ◌≤◌, ◌<◌}
use mathlib.Core.Path.{◌≡◌}
use mathlib.Core.Bool.{true}
use native.Mathlib.Omega.{arith}
use native.Mathlib.Nat.{mul-le-mul_left}
use Rattle.rules.specs.declared.Sizes.{Sizes}
use Rattle.rules.specs.Size.{in_range}
use Rattle.laws.proofs.Number.{bounds}

pub registers_most : (s : Sizes) → in_range s ≡ true → s.w * s.r ≤ 128
registers_most s h = let b = bounds s h in omega (arith, mul-le-mul_left s.w b.r_most, b.w_most)

pub row_most : (s : Sizes) (w : ℕ) → in_range s ≡ true → w < s.w → w * s.r + s.r ≤ 128
row_most s w h inside = let b = bounds s h in omega (arith, mul-le-mul_left w b.r_most, b.w_most, b.r_most)
