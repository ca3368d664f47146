-- A test of each number of a table, and of each place below another, as the code adds it up.
--     every_folded              of all the numbers of a table
--     every_each                what a test of all of them tells of each
--     below_more, below_parts   of one place more, and of some places more
--     below_same                of tests that agree there
--     zero_folded               numbers of which each is 0, by their `or`
-- Assumes nothing.
use Prim.Native.Nat.{ℕ, zero, suc, ◌+◌, ◌<◌}
use mathlib.Core.Path.{◌≡◌, refl, sym, ap, ◌∙◌}
use mathlib.Core.Bool.{Bool, true, ◌&&◌, and-true, and_assoc}
use mathlib.Core.List.{List, [], ◌∷◌}
use native.Mathlib.Omega.{arith}
use native.Mathlib.Numerals.{add-one}
use borrow.Author.Tests.{ne_eqb}
use lib.Bits.{bit_or, or_add_and, and_le_r}
use lib.Dec.{eqb}
use Rattle.std.proofs.Common.{fold}
use Rattle.rules.specs.Sound.{Each}
use Rattle.laws.proofs.Tests.{and_left, and_right}
use Rattle.clauses.specs.IsSound.{every, below, is_zero}

-- ---- the numbers of a table

module _ {A : Type 0} (test : A → Bool) where
  every_folded_from : (b : Bool) (xs : List A) → fold (λ ok x. ok && test x) b xs ≡ (b && every test xs)
  unfolding every
  every_folded_from b [] = sym (and-true b)
  every_folded_from b (x ∷ xs) = every_folded_from (b && test x) xs ∙ and_assoc b (test x) (every test xs)

  pub every_folded : (xs : List A) → fold (λ ok x. ok && test x) true xs ≡ every test xs
  every_folded = every_folded_from true

  -- what passes the test has what the test tells
  pub every_each : (P : A → Type 0) → ((x : A) → test x ≡ true → P x) → (xs : List A) → every test xs ≡ true → Each P xs
  unfolding every
  every_each P tells [] h = tt
  every_each P tells (x ∷ xs) h = (tells x (and_left (test x) (every test xs) h), every_each P tells xs (and_right (test x) (every test xs) h))

-- ---- the places below another

pub below_more : (test : ℕ → Bool) (i : ℕ) {ok : Bool} → ok ≡ below i test → (ok && test i) ≡ below (i + 1) test
unfolding below
below_more test i so_far = ap (λ b. b && test i) so_far ∙ ap (λ (n : ℕ). below n test) (sym (add-one i))

pub below_parts : (test : ℕ → Bool) (m n : ℕ) → below (m + n) test ≡ (below m test && below n (λ i. test (m + i)))
unfolding below
below_parts test m zero = ap (λ (k : ℕ). below k test) (let e : m + 0 ≡ m = omega arith in e) ∙ sym (and-true (below m test))
below_parts test m (suc n) =
    ap (λ (k : ℕ). below k test) (let e : m + suc n ≡ suc (m + n) = omega arith in e)
    ∙ ap (λ b. b && test (m + n)) (below_parts test m n)
    ∙ and_assoc (below m test) (below n (λ i. test (m + i))) (test (m + n))

pub below_same : (n : ℕ) (f g : ℕ → Bool) → ((i : ℕ) → i < n → f i ≡ g i) → below n f ≡ below n g
unfolding below
below_same zero f g same = refl
below_same (suc n) f g same = λ j. below_same n f g (λ i h. same i (omega arith)) j && same n (omega arith) j

-- ---- numbers that are 0

-- an `or` is 0 where both numbers are
or_zero : (a b : ℕ) → eqb (bit_or a b) 0 ≡ (eqb a 0 && eqb b 0)
or_zero zero b = refl
or_zero (suc a) b =
    ne_eqb (bit_or (suc a) b) 0 (λ e. omega (arith, or_add_and (suc a) b, and_le_r (suc a) b))
    ∙ sym (ap (λ x. x && eqb b 0) (ne_eqb (suc a) 0 (λ e. omega arith)))

zero_folded_from : (any : ℕ) (xs : List ℕ) → eqb (fold bit_or any xs) 0 ≡ (eqb any 0 && every is_zero xs)
unfolding every
zero_folded_from any [] = sym (and-true (eqb any 0))
zero_folded_from any (x ∷ xs) =
    zero_folded_from (bit_or any x) xs ∙ ap (λ b. b && every is_zero xs) (or_zero any x) ∙ and_assoc (eqb any 0) (eqb x 0) (every is_zero xs)

pub zero_folded : (xs : List ℕ) → eqb (fold bit_or 0 xs) 0 ≡ every is_zero xs
zero_folded = zero_folded_from 0
