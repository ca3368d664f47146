-- Room: entries of which no link has two are no more than the links.
--     sum                 the sum of a number for each of the lowest links
--     length_spread       a list of entries is as long as its entries for each link, added up
--     room, room-left     at most one entry for each link: at most as many entries as links; and fewer, where a link has none
-- Assumes nothing.
use Prim.Native.Nat.{ℕ, zero, suc, ◌+◌, ◌≤◌, ◌<◌}
use mathlib.Core.Path.{◌≡◌, refl, sym, ap}
use mathlib.Core.Logic.{⊎_elim}
use mathlib.Core.List.{List, [], ◌∷◌}
use native.Mathlib.Omega.{arith}
use native.Mathlib.Nat.{eq-or-lt_of_le, le_of_suc-le-suc}
use borrow.Author.Tests.{eq-eqb, ne_eqb}
use lib.Dec.{eqb}
use lib.ListN.{length}
use Rattle.rules.specs.declared.LinkNumber.{LinkNumber}
use Rattle.rules.specs.Pool.{Entry}
use Rattle.rules.specs.View.{bit, stands_for, times}
use Rattle.rules.specs.Sound.{Each}
use Rattle.laws.proofs.Number.{link_same}

sum : (LinkNumber → ℕ) → ℕ → ℕ
sum f zero = 0
sum f (suc m) = f (record { 0 = m }) + sum f m

sum-zero : (f : LinkNumber → ℕ) (m : ℕ) → ((l : LinkNumber) → l.0 < m → f l ≡ 0) → sum f m ≡ 0
unfolding sum
sum-zero f zero h = refl
sum-zero f (suc m) h = omega (arith, h (record { 0 = m }) (omega arith), sum-zero f m (λ l k. h l (omega arith)))

sum_plus : (f g : LinkNumber → ℕ) (m : ℕ) → sum (λ l. f l + g l) m ≡ sum f m + sum g m
unfolding sum
sum_plus f g zero = refl
sum_plus f g (suc m) = omega (arith, sum_plus f g m)

-- an entry stands for one of the links
sum_entry : (e : Entry) (m : ℕ) → e.link.0 < m → sum (λ l. bit (stands_for l e)) m ≡ 1
unfolding sum
sum_entry e zero h = absurd (omega arith)
sum_entry e (suc m) h = ⊎_elim last (λ q. earlier q (sum_entry e m q)) (eq-or-lt_of_le (le_of_suc-le-suc h))
  where
    off : e.link.0 ≡ m → (l : LinkNumber) → l.0 < m → bit (stands_for l e) ≡ 0
    off q l k = ap bit (ne_eqb e.link.0 l.0 (λ z. omega arith))

    last : e.link.0 ≡ m → bit (eqb e.link.0 m) + sum (λ l. bit (stands_for l e)) m ≡ 1
    last q = omega (arith, ap bit (eq-eqb e.link.0 m q), sum-zero (λ l. bit (stands_for l e)) m (off q))

    earlier : e.link.0 < m → sum (λ l. bit (stands_for l e)) m ≡ 1 → bit (eqb e.link.0 m) + sum (λ l. bit (stands_for l e)) m ≡ 1
    earlier q rest = omega (arith, ap bit (ne_eqb e.link.0 m (λ z. omega arith)))

length_spread : (xs : List Entry) (m : ℕ) → Each (λ e. e.link.0 < m) xs → length xs ≡ sum (λ l. times l xs) m
unfolding times
length_spread [] m h = sym (sum-zero (λ l. 0) m (λ l k. refl))
length_spread (e ∷ xs) m h =
    omega (arith, sum_plus (λ l. bit (stands_for l e)) (λ l. times l xs) m, sum_entry e m h.0, length_spread xs m h.1)

sum_most : (f : LinkNumber → ℕ) (m : ℕ) → ((l : LinkNumber) → l.0 < m → f l ≤ 1) → sum f m ≤ m
unfolding sum
sum_most f zero h = omega arith
sum_most f (suc m) h = omega (arith, h (record { 0 = m }) (omega arith), sum_most f m (λ l k. h l (omega arith)))

sum_less : (f : LinkNumber → ℕ) (i : LinkNumber) (m : ℕ) → i.0 < m → f i ≡ 0 → ((l : LinkNumber) → l.0 < m → f l ≤ 1) → sum f m < m
unfolding sum
sum_less f i zero k z h = absurd (omega arith)
sum_less f i (suc m) k z h =
    ⊎_elim last (λ q. earlier (sum_less f i m q z (λ l r. h l (omega arith)))) (eq-or-lt_of_le (le_of_suc-le-suc k))
  where
    last : i.0 ≡ m → sum f (suc m) < suc m
    last e =
        let top : LinkNumber = record { 0 = m } in
        let there : f i ≡ f top = ap f (link_same i top e) in
        omega (arith, sum_most f m (λ l q. h l (omega arith)))

    earlier : sum f m < m → sum f (suc m) < suc m
    earlier rest = omega (arith, h (record { 0 = m }) (omega arith))

module _ (xs : List Entry) (m : ℕ) (inside : Each (λ e. e.link.0 < m) xs) (once : (l : LinkNumber) → l.0 < m → times l xs ≤ 1) where
  pub room : length xs ≤ m
  room = omega (arith, length_spread xs m inside, sum_most (λ l. times l xs) m once)

  pub room-left : (i : LinkNumber) → i.0 < m → times i xs ≡ 0 → length xs < m
  room-left i k z = omega (arith, length_spread xs m inside, sum_less (λ l. times l xs) i m k z once)
