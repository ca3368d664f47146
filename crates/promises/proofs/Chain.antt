-- Where each of some lost records is linked to from another of them, each is kept by a closed loop: going back from link to link, a record comes round, since there
-- are only N.
--     Back           a record of them that links to a given one
--     back_chain     the chain of them, going back
--     loop_found     a closed loop that keeps the record
-- Assumes nothing.
use Prim.Native.Nat.{ℕ, zero, suc, ◌-◌, ◌≤◌, ◌<◌}
use mathlib.Core.Path.{◌≡◌, refl, sym, subst}
use mathlib.Core.Logic.{◌⊎◌, inl, inr, ⊎_elim}
use native.Mathlib.Omega.{arith}
use native.Mathlib.Nat.{eq-or-lt_of_le, le_of_suc-le-suc}
use lib.ListN.{length}
use Rattle.rules.specs.declared.Sizes.{Sizes}
use Rattle.rules.specs.declared.RecordNumber.{RecordNumber}
use Rattle.rules.specs.Size.{link_number}
use Rattle.rules.specs.Pool.{Pool, value_at}
use Rattle.laws.proofs.Number.{record_same}
use Rattle.laws.proofs.Marks.{on_some, on_low}
use Rattle.promises.specs.Lost.{Lost, LeadsTo, link, on, LoopKeeps}
use Rattle.promises.proofs.Pigeon.{Same, two_the_same}

-- a record with R that links to a by its present values
pub record Back (s : Sizes) (p : Pool) (R : RecordNumber → Type 0) (a : RecordNumber) : Type 0 where
  pub who : RecordNumber
  pub which : ℕ
  pub has : R who
  pub inside : which < s.k
  pub value : value_at p (link_number s who which) ≡ a

pub record Point (R : RecordNumber → Type 0) : Type 0 where
  pub at : RecordNumber
  pub has : R at

module _ (s : Sizes) (p : Pool) (n : length p.records.used ≡ s.n) (R : RecordNumber → Type 0) (lost : (a : RecordNumber) → R a → Lost s p a) (back : (a : RecordNumber) → R a → Back s p R a) (start : Point R) where
  back_chain : ℕ → Point R
  back_chain zero = start
  back_chain (suc i) = let b = back (back_chain i).at (back_chain i).has in record { at = b.who; has = b.has }

  one_link : (i : ℕ) → LeadsTo s p (back_chain (suc i)).at (back_chain i).at
  unfolding back_chain
  one_link i =
      let b = back (back_chain i).at (back_chain i).has in
      link b.which (lost b.who b.has) (lost (back_chain i).at (back_chain i).has) b.inside b.value

  -- a later point leads to an earlier one
  leads_back : (i j : ℕ) → i < j → LeadsTo s p (back_chain j).at (back_chain i).at
  leads_back i zero h = absurd (omega arith)
  leads_back i (suc j) h =
      ⊎_elim
      (λ e. subst (λ (m : ℕ). LeadsTo s p (back_chain (suc j)).at (back_chain m).at) (sym e) (one_link j))
      (λ (lt : i < j). on (one_link j) (leads_back i j lt))
      (eq-or-lt_of_le (le_of_suc-le-suc h))

  number : ℕ → ℕ
  number i = (back_chain i).at.0 - 1

  chain_some : (i : ℕ) → 1 ≤ (back_chain i).at.0
  chain_some i = on_some p.records.used (back_chain i).at.0 (lost (back_chain i).at (back_chain i).has).used

  chain_low : (i : ℕ) → (back_chain i).at.0 ≤ s.n
  chain_low i = let low = on_low p.records.used (back_chain i).at.0 (lost (back_chain i).at (back_chain i).has).used in omega (arith, n)

  pub loop_found : LoopKeeps s p start.at
  unfolding number back_chain
  loop_found = from (two_the_same s.n number (λ i h. let some = chain_some i in let low = chain_low i in omega arith))
    where
      from : Same number s.n → LoopKeeps s p start.at
      from x =
          record {
            looped = (back_chain x.i).at;
            loop = subst (λ (a : RecordNumber). LeadsTo s p a (back_chain x.i).at) (sym same) (leads_back x.i x.j x.below);
            keeps = by_place x.i;
          }
        where
          same : (back_chain x.i).at ≡ (back_chain x.j).at
          same =
              record_same (back_chain x.i).at (back_chain x.j).at
              (let a = chain_some x.i in let b = chain_some x.j in let e : number x.i ≡ number x.j = x.equal in omega arith)

          by_place : (i : ℕ) → ((back_chain i).at ≡ start.at) ⊎ LeadsTo s p (back_chain i).at start.at
          by_place zero = inl refl
          by_place (suc i) = inr (leads_back 0 (suc i) (omega arith))
