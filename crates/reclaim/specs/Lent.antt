-- The tables that phase 6 is lent, put among the others.
--     marks_on, links_on, empties_on, frees_on, reclaims_on     tables of which those that are lent are at hand
--     RecordOf                        a record number that is one, in sizes that are in range
--     InPool, Freeable, Has, Leaves   what emptying the links of a record and freeing it ask, and what they do
-- Assumes nothing.
use Rattle.std.specs.Prelude.{ℕ, ◌≤◌, ◌≡◌, true, List}
use Rattle.rules.specs.declared.Sizes.{Sizes}
use Rattle.rules.specs.declared.RecordNumber.{RecordNumber}
use Rattle.rules.specs.declared.Collector.{Collector}
use Rattle.rules.specs.Size.{in_range}
use Rattle.rules.specs.Pool.{Pool}
use Rattle.rules.specs.Collect.{unchanged}
use Rattle.tables.specs.Tables.{Tables, put_used, put_counts, put_held, put_candidates, put_values, put_changed}
use Rattle.tables.specs.Lie.{pool_of, tables_of}
use Rattle.tables.specs.Known.{Known}

abbrev pub marks_on : (changed : List ℕ) → Tables → Tables
marks_on changed t = put_changed changed t

abbrev pub links_on : (values changed : List ℕ) → Tables → Tables
links_on values changed t = put_values values (marks_on changed t)

abbrev pub empties_on : (counts candidates values changed : List ℕ) → Tables → Tables
empties_on counts candidates values changed t = put_counts counts (put_candidates candidates (links_on values changed t))

abbrev pub frees_on : (used counts candidates values changed : List ℕ) → Tables → Tables
frees_on used counts candidates values changed t = put_used used (empties_on counts candidates values changed t)

abbrev pub reclaims_on : (used counts held candidates values changed : List ℕ) → Tables → Tables
reclaims_on used counts held candidates values changed t = put_held held (frees_on used counts candidates values changed t)

pub record RecordOf (s : Sizes) (a : RecordNumber) : Type 0 where
  pub sizes : in_range s ≡ true
  pub some : 1 ≤ a.0
  pub low : a.0 ≤ s.n

-- a record of a sound pool in phase 6
pub record InPool (s : Sizes) (t : Tables) (c : Collector) (a : RecordNumber) : Type 0 where
  pub known : Known s t c
  pub phase : c.phase ≡ 6
  pub some : 1 ≤ a.0
  pub low : a.0 ≤ s.n

-- that "has all changed marks off (it's freed as before)" (document 02, request 8)
pub record Freeable (s : Sizes) (t : Tables) (c : Collector) (a : RecordNumber) : Type 0 where
  pub inside : InPool s t c a
  pub unchanged : unchanged s (pool_of s t c) a ≡ true

-- the tables at hand are tables of such a pool
abbrev pub Has : (Sizes → Tables → Collector → RecordNumber → Type 0) → Sizes → (Tables → Tables) → RecordNumber → Type 0
Has Asked s at a = (t : Tables) × (c : Collector) × Asked s (at t) c a

-- of every such pool: the tables at hand are left as those of the pool that f makes of it, and nothing else of the pool changes
abbrev pub Leaves : (Sizes → Tables → Collector → RecordNumber → Type 0) → Sizes → (Tables → Tables) → RecordNumber → (Pool → Pool) → (Tables → Tables) → Type 0
Leaves Asked s before a f after = (t : Tables) (c : Collector) → Asked s (before t) c a → tables_of s (f (pool_of s (before t) c)) ≡ after t
