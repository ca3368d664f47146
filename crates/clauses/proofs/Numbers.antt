-- The clauses on the numbers of one table.
--     values_are                    what is asked of a table of values is what is asked of the pool
--     NumbersFit, numbers_tell      what `numbers_fit` tells
-- Assumes nothing.
use Prim.Native.Nat.{ℕ, suc, ◌*◌, ◌≤◌, zero-le}
use mathlib.Core.Path.{◌≡◌, sym, ap, ◌∙◌, subst}
use mathlib.Core.Logic.Iff
use mathlib.Core.Logic.{◌↔◌}
use mathlib.Core.List.{List, [], ◌∷◌, ◌++◌, flatten}
use native.Mathlib.Omega.{arith}
use lib.ListN.{get_or, get_or-map}
use Rattle.rules.specs.declared.Sizes.{Sizes}
use Rattle.rules.specs.declared.LinkNumber.{LinkNumber}
use Rattle.rules.specs.declared.RecordNumber.{RecordNumber}
use Rattle.rules.specs.declared.Collector.{Collector}
use Rattle.rules.specs.Pool.{Pool, none, maker_at, value_at, register_at}
use Rattle.rules.specs.Sound.{Each}
use Rattle.laws.proofs.Lists.{Each-append, Each-left, Each-right, Each-all, Each-flatten}
use Rattle.tables.specs.Bits.{Packed}
use Rattle.tables.specs.Tables.{Tables}
use Rattle.tables.specs.Lie.{record_number, link_number_of, record_numbers, cut, pool_of}
use Rattle.tables.specs.Known.{Exact}
use Rattle.tables.proofs.Blocks.{joined_cut}
use Rattle.tables.proofs.RoundTrip.{last_apart}
use Rattle.tables.proofs.Stand.{value-stands}
use Rattle.clauses.specs.Inspected.{numbers_fit}
use Rattle.clauses.proofs.Tests.{Tells, most_tells, ◌and◌, ◌also◌, every_tells}
use Rattle.clauses.proofs.Places.{each_everywhere, everywhere_record}
use Rattle.clauses.proofs.IsSound.{marks_tell, packed_tells}

pub record NumbersFit (s : Sizes) (t : Tables) (c : Collector) : Type 0 where
  pub used : Packed s.n t.used
  pub held : Packed s.n t.held
  pub candidates : Packed s.n t.candidates
  pub makers : (a : RecordNumber) → maker_at (pool_of s t c) a ≤ s.w
  pub registers : (w r : ℕ) → (register_at (pool_of s t c) w r).0 ≤ s.n
  pub last : (pool_of s t c).last.0 ≤ s.n
  pub snoops : Each (λ x. x ≤ 1) t.snoops

module _ (s : Sizes) (t : Tables) (c : Collector) where
  abbrev p : Pool
  p = pool_of s t c

  abbrev Low : RecordNumber → Type 0
  Low a = a.0 ≤ s.n

  pub values_are : Each (λ n. n ≤ s.n) t.values ↔ ((l : LinkNumber) → (value_at p l).0 ≤ s.n)
  values_are =
      Iff.trans (each_everywhere (λ n. n ≤ s.n) 0 zero-le t.values)
      (λ h l. subst Low (sym (value-stands s t c l)) (h l.0), λ h i. subst Low (value-stands s t c (link_number_of i)) (h (link_number_of i)))

  makers_are : Each (λ n. n ≤ s.w) t.makers ↔ ((a : RecordNumber) → maker_at p a ≤ s.w)
  unfolding pool_of
  makers_are =
      Iff.trans (each_everywhere (λ n. n ≤ s.w) 0 zero-le t.makers)
      (λ h a. everywhere_record (λ n. n ≤ s.w) 0 zero-le t.makers h a.0, λ h i. h (record_number (suc i)))

  -- the registers are the rows of the workers, joined, and the last made number stands behind them
  module _ (exact : Exact s t) where
    rows : List (List ℕ)
    rows = cut s.w s.r t.registers

    joined : flatten rows ++ (p.last.0 ∷ []) ≡ t.registers
    unfolding rows pool_of
    joined =
        ap (λ (xs : List ℕ). xs ++ (p.last.0 ∷ [])) (joined_cut s.w s.r t.registers (omega (arith, exact.registers)))
        ∙ last_apart (s.w * s.r) t.registers exact.registers

    register_in_row : (w r : ℕ) → register_at p w r ≡ record_number (get_or (get_or rows w []) r 0)
    unfolding rows pool_of
    register_in_row w r =
        ap (λ (row : List RecordNumber). get_or row r none) (get_or-map record_numbers rows w []) ∙ get_or-map record_number (get_or rows w []) r 0

    row_is : (w : ℕ) → Each (λ n. n ≤ s.n) (get_or rows w []) ↔ ((r : ℕ) → (register_at p w r).0 ≤ s.n)
    row_is w =
        Iff.trans (each_everywhere (λ n. n ≤ s.n) 0 zero-le (get_or rows w []))
        (λ h r. subst Low (sym (register_in_row w r)) (h r), λ h r. subst Low (register_in_row w r) (h r))

    registers_are : Each (λ n. n ≤ s.n) t.registers ↔ (((w r : ℕ) → (register_at p w r).0 ≤ s.n) × (p.last.0 ≤ s.n))
    registers_are = (
      λ h.
          let both : Each (λ n. n ≤ s.n) (flatten rows ++ (p.last.0 ∷ [])) = subst (Each (λ n. n ≤ s.n)) (sym joined) h in (
            λ w. (row_is w).0 (Each-flatten (λ n. n ≤ s.n) rows w (Each-left (λ n. n ≤ s.n) (flatten rows) (p.last.0 ∷ []) both)),
            (Each-right (λ n. n ≤ s.n) (flatten rows) (p.last.0 ∷ []) both).0,
          ),
      λ (h, last).
          subst (Each (λ n. n ≤ s.n)) joined
          (Each-append (λ n. n ≤ s.n) (flatten rows) (p.last.0 ∷ []) (Each-all (λ n. n ≤ s.n) rows (λ w _. (row_is w).1 (h w))) (last, tt)),
    )

    pub numbers_tell : Tells (numbers_fit s t) (NumbersFit s t c)
    unfolding numbers_fit
    numbers_tell =
        Iff.trans
        (packed_tells s.n t.used
        and packed_tells s.n t.held
        and packed_tells s.n t.candidates
        and Iff.trans (every_tells (λ n. most_tells n s.w) t.makers) makers_are
        and Iff.trans (every_tells (λ n. most_tells n s.n) t.registers) registers_are
        and marks_tell t.snoops) (
          λ (((((used, held), candidates), makers), (registers, last)), snoops).
              record { used = used; held = held; candidates = candidates; makers = makers; registers = registers; last = last; snoops = snoops },
          λ x. x.used also x.held also x.candidates also x.makers also (x.registers, x.last) also x.snoops,
        )
