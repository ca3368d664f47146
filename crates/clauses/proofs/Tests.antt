-- What a test tells: it is true exactly where something holds.
--     Tells                                   a test and what it tells
--     equal_tells, most_tells, less_tells     two numbers
--     empty_tells                             a list without elements
--     _and_, _then_, _also_                   two tests in one, and what they tell; with `then` the second may rest on what the first tells
--     unless_tells                            a test that is asked in some cases only
--     every_tells, below_tells                a test of each element of a list, and of each number below another
--     same_told                               two tests that tell the same are one
-- Assumes nothing.
use Prim.Native.Nat.{ℕ, zero, suc, ◌≤◌, ◌<◌}
use mathlib.Core.Path.{◌≡◌, refl, sym, ap}
use mathlib.Core.Logic.{◌↔◌, ⊎_elim}
use mathlib.Core.Bool.{Bool, true, false, not, ◌&&◌, ◌||◌}
use mathlib.Core.List.{List, [], ◌∷◌}
use native.Mathlib.Omega.{arith}
use native.Mathlib.Nat.{eq-or-lt_of_le, le_of_suc-le-suc}
use borrow.Author.Tests.{eqb-true, eq-eqb, leb-true, le-leb, ltb-true, lt-ltb}
use lib.Dec.{T, eqb, leb, ltb}
use lib.ListN.{length}
use Rattle.rules.specs.Sound.{Each}
use Rattle.laws.proofs.Tests.{and_left, and_right, and_both}
use Rattle.clauses.specs.IsSound.{every, below}

abbrev pub Tells : Bool → Type 0 → Type 0
Tells test A = (test ≡ true) ↔ A

-- ---- numbers and lists

pub equal_tells : (m n : ℕ) → Tells (eqb m n) (m ≡ n)
equal_tells m n = (eqb-true m n, eq-eqb m n)

pub most_tells : (m n : ℕ) → Tells (leb m n) (m ≤ n)
most_tells m n = (leb-true m n, le-leb m n)

pub less_tells : (m n : ℕ) → Tells (ltb m n) (m < n)
less_tells m n = (ltb-true m n, lt-ltb m n)

pub empty_tells : {A : Type 0} (xs : List A) → Tells (eqb (length xs) 0) (xs ≡ [])
empty_tells [] = (λ h. refl, λ h. refl)
empty_tells (x ∷ xs) = (λ h. absurd (omega (arith, eqb-true (suc (length xs)) 0 h)), λ h. ap (λ ys. eqb (length ys) 0) h)

-- ---- two tests

infixl 20 ◌and◌ ◌then◌
pub ◌then◌ : {a b : Bool} {A B : Type 0} → Tells a A → (A → Tells b B) → Tells (a && b) (A × B)
◌then◌ {a} {b} first second = (
  λ h. let x = first.0 (and_left a b h) in (x, (second x).0 (and_right a b h)),
  λ x. and_both a b (first.1 x.0) ((second x.0).1 x.1),
)

pub ◌and◌ : {a b : Bool} {A B : Type 0} → Tells a A → Tells b B → Tells (a && b) (A × B)
first and second = first then (λ _. second)

infixl 20 ◌also◌
abbrev pub ◌also◌ : {A B : Type 0} → A → B → A × B
x also y = (x, y)

pub unless_tells : (a : Bool) {b : Bool} {B : Type 0} → Tells b B → Tells (not a || b) (T a → B)
unless_tells true e = (λ h x. e.0 h, λ f. e.1 (f tt))
unless_tells false e = (λ h x. absurd x, λ f. refl)

pub same_told : {a b : Bool} {A : Type 0} → Tells a A → Tells b A → a ≡ b
same_told {a} {b} x y = by_truth a b (λ h. y.1 (x.0 h)) (λ h. x.1 (y.0 h))
  where
    by_truth : (a b : Bool) → (a ≡ true → b ≡ true) → (b ≡ true → a ≡ true) → a ≡ b
    by_truth true b f g = sym (f refl)
    by_truth false true f g = g refl
    by_truth false false f g = refl

-- ---- many tests

pub every_tells : {A : Type 0} {test : A → Bool} {P : A → Type 0} → ((x : A) → Tells (test x) (P x)) → (xs : List A) → Tells (every test xs) (Each P xs)
unfolding every
every_tells e [] = (λ h. tt, λ h. refl)
every_tells e (x ∷ xs) = e x and every_tells e xs

pub below_tells : {test : ℕ → Bool} {P : ℕ → Type 0} (n : ℕ) → ((i : ℕ) → i < n → Tells (test i) (P i)) → Tells (below n test) ((i : ℕ) → i < n → P i)
unfolding below
below_tells zero e = (λ h i k. absurd (omega arith), λ h. refl)
below_tells {test} {P} (suc n) e =
    let both : Tells (below n test && test n) (((i : ℕ) → i < n → P i) × P n) = below_tells n (λ i k. e i (omega arith)) and e n (omega arith) in (
      λ h i k. ⊎_elim (λ q. rw q (both.0 h).1) (λ q. (both.0 h).0 i q) (eq-or-lt_of_le (le_of_suc-le-suc k)),
      λ h. both.1 (λ i k. h i (omega arith), h n (omega arith)),
    )
