-- Tables of a sound pool.
--     Exact          every table has its length
--     Marked         "marks and flags 0 or 1", and unused bits 0
--     block          the room of a worker's log
--     Padded         "0 in every entry past a list's length"
--     SoundTables    tables in which a sound pool lies
--     Known          tables, sizes and lengths included, on which an event is done
-- The two clauses asked here are those of "A sound pool" that no pool of `rules` breaks (decision 6 of docs/DECISIONS.md). Assumes nothing.
use Rattle.std.specs.Prelude.{ℕ, ◌+◌, ◌*◌, ◌≤◌, ◌<◌, ◌≡◌, true, List, length, get_or, take, drop}
use Rattle.rules.specs.declared.Sizes.{Sizes}
use Rattle.rules.specs.declared.Collector.{Collector}
use Rattle.rules.specs.Size.{in_range, links}
use Rattle.rules.specs.Sound.{Each, Sound}
use Rattle.tables.specs.Bits.{word_count, Packed}
use Rattle.tables.specs.Tables.{Tables}
use Rattle.tables.specs.Lie.{room, pool_of}

-- "lent tables of 16-bit numbers whose lengths must be exact", and the marks of the four kinds in 64-bit words (document 02, request 9)
pub record Exact (s : Sizes) (t : Tables) : Type 0 where
  pub used : length t.used ≡ word_count s.n
  pub counts : length t.counts ≡ s.n
  pub held : length t.held ≡ word_count s.n
  pub candidates : length t.candidates ≡ word_count s.n
  pub makers : length t.makers ≡ s.n
  pub values : length t.values ≡ links s
  pub changed : length t.changed ≡ word_count (links s)
  pub registers : length t.registers ≡ s.w * s.r + 1
  pub snoops : length t.snoops ≡ s.w
  pub logs : length t.logs ≡ s.w * room s
  pub history : length t.history ≡ room s
  pub lengths : length t.lengths ≡ s.w + 1

-- "marks and flags 0 or 1": "A sound pool has the unused bits at 0" (document 02, request 9), and every other bit is a mark
pub record Marked (s : Sizes) (t : Tables) : Type 0 where
  pub used : Packed s.n t.used
  pub held : Packed s.n t.held
  pub candidates : Packed s.n t.candidates
  pub changed : Packed (links s) t.changed
  pub snoops : Each (λ x. x ≤ 1) t.snoops

-- worker w's block of the logs
abbrev pub block : Sizes → Tables → ℕ → List ℕ
block s t w = take (room s) (drop (w * room s) t.logs)

-- "0 in every entry past a list's length", log and history alike
pub record Padded (s : Sizes) (t : Tables) : Type 0 where
  pub logs : (w : ℕ) → w < s.w → Each (λ x. x ≡ 0) (drop (get_or t.lengths w 0 * 2) (block s t w))
  pub history : Each (λ x. x ≡ 0) (drop (get_or t.lengths s.w 0 * 2) t.history)

-- "A sound pool", of tables
pub record SoundTables (s : Sizes) (t : Tables) (c : Collector) : Type 0 where
  pub marked : Marked s t
  pub padded : Padded s t
  pub sound : Sound s (pool_of s t c)

pub record Known (s : Sizes) (t : Tables) (c : Collector) : Type 0 where
  pub sizes : in_range s ≡ true
  pub exact : Exact s t
  pub tables : SoundTables s t c
