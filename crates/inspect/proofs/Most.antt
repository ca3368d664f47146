-- Numbers of a table that are at most another.
--     Most                            they are
--     most_at                         what stands at a place, past the table's end too
--     most_more, most_raised          they are at most what is more, and at most so much more once one of them is raised
--     most_zeros                      numbers that are 0
-- Assumes nothing.
use Prim.Native.Nat.{ℕ, zero, suc, ◌+◌, ◌≤◌, zero-le}
use mathlib.Core.List.{List, [], ◌∷◌}
use native.Mathlib.Omega.{arith}
use lib.ListN.{get_or, set, replicate}
use Rattle.rules.specs.Sound.{Each}
use Rattle.laws.proofs.Lists.{Each-map, Each-set}

abbrev pub Most : ℕ → List ℕ → Type 0
Most b xs = Each (λ x. x ≤ b) xs

pub most_at : {b : ℕ} (xs : List ℕ) (i : ℕ) → Most b xs → get_or xs i 0 ≤ b
most_at [] i h = zero-le
most_at (x ∷ xs) zero h = h.0
most_at (x ∷ xs) (suc i) h = most_at xs i h.1

pub most_more : {a b : ℕ} (xs : List ℕ) → a ≤ b → Most a xs → Most b xs
most_more xs h = Each-map xs (λ x k. omega arith)

-- the number at a place is raised
pub most_raised : (a b : ℕ) (xs : List ℕ) (i by : ℕ) → a + by ≤ b → Most a xs → Most b (set xs i (get_or xs i 0 + by))
most_raised a b xs i by h k = Each-set (λ x. x ≤ b) xs i (get_or xs i 0 + by) (most_more xs (omega arith) k) (omega (arith, most_at xs i k))

pub most_zeros : (b n : ℕ) → Most b (replicate n 0)
most_zeros b zero = tt
most_zeros b (suc n) = (zero-le, most_zeros b n)
