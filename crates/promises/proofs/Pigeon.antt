-- Of more numbers than there are below a bound, two are the same.
--     found_among     a number is found among the first few of a sequence, or it is not there
--     two_the_same    n + 1 numbers below n
-- Assumes nothing.
use Prim.Native.Nat.{ℕ, zero, suc, ◌-◌, ◌≤◌, ◌<◌}
use mathlib.Core.Path.{◌≡◌, sym, ap, ◌∙◌}
use mathlib.Core.Logic.{◌⊎◌, inl, inr, ⊎_elim}
use mathlib.Core.Bool.{cond}
use native.Mathlib.Omega.{arith}
use native.Mathlib.Decide.{ℕ_discrete}
use native.Mathlib.Nat.{eq-or-lt_of_le}
use borrow.Author.Tests.{lt-ltb, le-ltb}
use lib.Dec.{ltb}
use Rattle.laws.proofs.Tests.{below_or_not}

-- two places of a sequence that hold one number
pub record Same (f : ℕ → ℕ) (n : ℕ) : Type 0 where
  pub i : ℕ
  pub j : ℕ
  pub below : i < j
  pub inside : j ≤ n
  pub equal : f i ≡ f j

found_among : (f : ℕ → ℕ) (v n : ℕ) → ((i : ℕ) × (i ≤ n) × (f i ≡ v)) ⊎ ((i : ℕ) → i ≤ n → f i ≡ v → ⊥)
found_among f v zero = from (ℕ_discrete (f 0) v)
  where
    from : Dec (f 0 ≡ v) → ((i : ℕ) × (i ≤ 0) × (f i ≡ v)) ⊎ ((i : ℕ) → i ≤ 0 → f i ≡ v → ⊥)
    from (yes e) = inl (0, omega arith, e)
    from (no d) = inr (λ i h e. d (ap f (let z : 0 ≡ i = omega arith in z) ∙ e))
found_among f v (suc n) = from (ℕ_discrete (f (suc n)) v) (found_among f v n)
  where
    from : Dec (f (suc n) ≡ v) → ((i : ℕ) × (i ≤ n) × (f i ≡ v)) ⊎ ((i : ℕ) → i ≤ n → f i ≡ v → ⊥) → ((i : ℕ) × (i ≤ suc n) × (f i ≡ v)) ⊎ ((i : ℕ) → i ≤ suc n → f i ≡ v → ⊥)
    from (yes e) x = inl (suc n, omega arith, e)
    from (no d) (inl x) = inl (x.0, omega (arith, x.1), x.2)
    from (no d) (inr x) = inr (λ i h e. ⊎_elim (λ z. d (ap f (sym z) ∙ e)) (λ (lt : i < suc n). x i (omega arith) e) (eq-or-lt_of_le h))

-- the numbers other than v, moved together: those above it come one down
closer : ℕ → ℕ → ℕ
closer v x = cond (ltb v x) (x - 1) x

closer_above : (v x : ℕ) → v < x → closer v x ≡ x - 1
unfolding closer
closer_above v x h = ap (λ b. cond b (x - 1) x) (lt-ltb v x h)

closer_below : (v x : ℕ) → x ≤ v → closer v x ≡ x
unfolding closer
closer_below v x h = ap (λ b. cond b (x - 1) x) (le-ltb v x h)

closer_low : (v x n : ℕ) → (x ≡ v → ⊥) → x < suc n → v < suc n → closer v x < n
closer_low v x n d h k =
    ⊎_elim (λ (a : v < x). omega (arith, closer_above v x a)) (λ (a : x ≤ v). omega (arith, closer_below v x a)) (below_or_not v x)

closer_same : (v x y : ℕ) → (x ≡ v → ⊥) → (y ≡ v → ⊥) → closer v x ≡ closer v y → x ≡ y
closer_same v x y dx dy e =
    ⊎_elim
    (λ (a : v < x).
    ⊎_elim (λ (b : v < y). omega (arith, closer_above v x a, closer_above v y b)) (λ (b : y ≤ v). omega (arith, closer_above v x a, closer_below v y b)) (below_or_not v y))
    (λ (a : x ≤ v).
    ⊎_elim (λ (b : v < y). omega (arith, closer_below v x a, closer_above v y b)) (λ (b : y ≤ v). omega (arith, closer_below v x a, closer_below v y b)) (below_or_not v y))
    (below_or_not v x)

pub two_the_same : (n : ℕ) (f : ℕ → ℕ) → ((i : ℕ) → i ≤ n → f i < n) → Same f n
two_the_same zero f h = absurd (let z = h 0 (omega arith) in omega arith)
two_the_same (suc n) f h = from (found_among (λ i. f (suc i)) (f 0) n) (λ d. two_the_same n (λ i. closer (f 0) (f (suc i))) (λ i k. closer_low (f 0) (f (suc i)) n (d i k) (h (suc i) (omega arith)) (h 0 (omega arith))))
  where
    from : ((i : ℕ) × (i ≤ n) × (f (suc i) ≡ f 0)) ⊎ ((i : ℕ) → i ≤ n → f (suc i) ≡ f 0 → ⊥)
        → (((i : ℕ) → i ≤ n → f (suc i) ≡ f 0 → ⊥) → Same (λ i. closer (f 0) (f (suc i))) n) → Same f (suc n)
    from (inl x) rest = record { i = 0; j = suc x.0; below = omega arith; inside = omega (arith, x.1); equal = sym x.2 }
    from (inr d) rest =
        let z = rest d in
        record {
          i = suc z.i;
          j = suc z.j;
          below = omega (arith, z.below);
          inside = omega (arith, z.inside);
          equal = closer_same (f 0) (f (suc z.i)) (f (suc z.j)) (d z.i (omega (arith, z.below, z.inside))) (d z.j z.inside) z.equal;
        }
