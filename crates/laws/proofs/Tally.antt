-- Laws of the tally: how many of the lowest links a function takes to a record.
--     tally_same      two functions that agree on these links have one tally
--     tally-moved     a function changed at one link, from x to y: the tally of x falls by one and that of y rises by one
--     tally_here      a link that is counted counts
--     tally_most      a tally is at most the number of links
--     tally-nothing   no link is taken to a record: its tally is 0
--     tally_found     a tally is not 0: a link is taken to the record
-- Assumes nothing.
use Prim.Native.Nat.{ℕ, zero, suc, ◌+◌, ◌≤◌, ◌<◌}
use mathlib.Core.Path.{◌≡◌, refl, ap, ◌∙◌}
use mathlib.Core.Logic.{⊎_elim}
use native.Mathlib.Omega.{arith}
use native.Mathlib.Nat.{eq-or-lt_of_le, le_of_suc-le-suc}
use borrow.Author.Tests.{ne_eqb}
use lib.Dec.{eqb}
use Rattle.rules.specs.declared.LinkNumber.{LinkNumber}
use Rattle.rules.specs.declared.RecordNumber.{RecordNumber}
use Rattle.rules.specs.View.{bit}
use Rattle.rules.specs.Sound.{tally}
use Rattle.laws.proofs.Tests.{eqb_cases, bit_most}
use Rattle.laws.proofs.Number.{link_same}

-- whether a record is the one that is counted for, as a number
abbrev pub hit : RecordNumber → RecordNumber → ℕ
hit x a = bit (eqb x.0 a.0)

pub tally_same : (f g : LinkNumber → RecordNumber) (m : ℕ) (a : RecordNumber) → ((l : LinkNumber) → l.0 < m → f l ≡ g l) → tally f m a ≡ tally g m a
unfolding tally
tally_same f g zero a h = refl
tally_same f g (suc m) a h =
    ap (λ (x : RecordNumber). hit x a + tally f m a) (h (record { 0 = m }) (omega arith))
    ∙ ap (λ (n : ℕ). hit (g (record { 0 = m })) a + n) (tally_same f g m a (λ l k. h l (omega arith)))

pub tally-moved : (f g : LinkNumber → RecordNumber) (i : LinkNumber) (m : ℕ) (a : RecordNumber) → i.0 < m
    → ((l : LinkNumber) → l.0 < m → (l.0 ≡ i.0 → ⊥) → f l ≡ g l)
    → tally g m a + hit (f i) a ≡ tally f m a + hit (g i) a
unfolding tally
tally-moved f g i zero a k h = absurd (omega arith)
tally-moved f g i (suc m) a k h =
    ⊎_elim last (λ q. earlier q (tally-moved f g i m a q (λ l r. h l (omega arith)))) (eq-or-lt_of_le (le_of_suc-le-suc k))
  where
    top : LinkNumber
    top = record { 0 = m }

    last : i.0 ≡ m → tally g (suc m) a + hit (f i) a ≡ tally f (suc m) a + hit (g i) a
    last e =
        let same : i ≡ top = link_same i top e in
        let there : hit (f i) a ≡ hit (f top) a = ap (λ (l : LinkNumber). hit (f l) a) same in
        let there' : hit (g i) a ≡ hit (g top) a = ap (λ (l : LinkNumber). hit (g l) a) same in
        let rest : tally f m a ≡ tally g m a = tally_same f g m a (λ l q. h l (omega arith) (λ z. omega arith)) in
        omega arith

    earlier : i.0 < m → tally g m a + hit (f i) a ≡ tally f m a + hit (g i) a → tally g (suc m) a + hit (f i) a ≡ tally f (suc m) a + hit (g i) a
    earlier q rest =
        let there : hit (f top) a ≡ hit (g top) a = ap (λ (x : RecordNumber). hit x a) (h top (omega arith) (λ z. omega arith)) in
        omega arith

pub tally_here : (f : LinkNumber → RecordNumber) (i : LinkNumber) (m : ℕ) (a : RecordNumber) → i.0 < m → hit (f i) a ≤ tally f m a
unfolding tally
tally_here f i zero a k = absurd (omega arith)
tally_here f i (suc m) a k = ⊎_elim last (λ q. omega (arith, tally_here f i m a q)) (eq-or-lt_of_le (le_of_suc-le-suc k))
  where
    last : i.0 ≡ m → hit (f i) a ≤ tally f (suc m) a
    last e =
        let top : LinkNumber = record { 0 = m } in
        let there : hit (f i) a ≡ hit (f top) a = ap (λ (l : LinkNumber). hit (f l) a) (link_same i top e) in
        omega arith

pub tally_most : (f : LinkNumber → RecordNumber) (m : ℕ) (a : RecordNumber) → tally f m a ≤ m
unfolding tally
tally_most f zero a = omega arith
tally_most f (suc m) a = omega (arith, bit_most (eqb (f (record { 0 = m })).0 a.0), tally_most f m a)

pub tally-nothing : (f : LinkNumber → RecordNumber) (m : ℕ) (a : RecordNumber) → ((l : LinkNumber) → (f l).0 ≡ a.0 → ⊥) → tally f m a ≡ 0
unfolding tally
tally-nothing f zero a h = refl
tally-nothing f (suc m) a h =
    let off : hit (f (record { 0 = m })) a ≡ 0 = ap bit (ne_eqb (f (record { 0 = m })).0 a.0 (h (record { 0 = m }))) in
    omega (arith, tally-nothing f m a h)

-- where a tally is not 0, a link is taken to the record
pub tally_found : (f : LinkNumber → RecordNumber) (m : ℕ) (a : RecordNumber) → 1 ≤ tally f m a → (l : LinkNumber) × (l.0 < m) × ((f l).0 ≡ a.0)
unfolding tally
tally_found f zero a h = absurd (omega arith)
tally_found f (suc m) a h =
    ⊎_elim
    (λ e. (record { 0 = m }, omega arith, e.0))
    (λ e. let x = tally_found f m a (omega (arith, ap bit e.1)) in (x.0, omega (arith, x.1), x.2))
    (eqb_cases (f (record { 0 = m })).0 a.0)
