-- What stands at a place of a table, in the pool that the tables mean.
--     number_of, mark_of                     what a table has for a record
--     count_stands, used_stands, held_stands, candidate_stands     a record's count and marks
--     value-stands, changed_stands           a link's value and mark
--     row-stands, register_stands, snoop_stands     a worker's registers and flag
--     log_length, history_length, entry_stands      the logs and the history
-- Assumes nothing.
use Prim.Native.Nat.{ℕ, zero, suc, ◌+◌, ◌-◌, ◌*◌, ◌≤◌, ◌<◌}
use mathlib.Core.Path.{◌≡◌, ap, ◌∙◌}
use mathlib.Core.Bool.{false}
use mathlib.Core.List.{List, []}
use native.Mathlib.Omega.{arith}
use native.Mathlib.Nat.{not-suc-le-zero}
use lib.ListN.{length, get_or, take, drop, get_or-map}
use lib.Seq.{get_or-take, get_or-drop}
use Rattle.rules.specs.declared.Sizes.{Sizes}
use Rattle.rules.specs.declared.RecordNumber.{RecordNumber}
use Rattle.rules.specs.declared.LinkNumber.{LinkNumber}
use Rattle.rules.specs.declared.Collector.{Collector}
use Rattle.rules.specs.Size.{links}
use Rattle.rules.specs.Pool.{Pool, none, of_record, used_at, count_at, held_at, candidate_at, value_at, changed_at, registers_at, register_at, snoops_at, log_at}
use Rattle.rules.specs.Collect.{no_entry}
use Rattle.tables.specs.Tables.{Tables}
use Rattle.tables.specs.Bits.{marks_in, mark_at}
use Rattle.tables.specs.Lie.{is_on, record_number, record_numbers, cut, pool_of}
use Rattle.tables.specs.Known.{block, Known}
use Rattle.tables.proofs.Blocks.{length_cut, cut_at}
use Rattle.tables.proofs.Entered.{entry_in, length-entries, entries_at}
use Rattle.tables.proofs.Packed.{mark_stands}
use Rattle.tables.proofs.RoundTrip.{log_known}
use Rattle.laws.proofs.Lists.{map_at}

-- ---- records

less_one : (i : ℕ) → i ≡ suc i - 1
less_one i = omega arith

pub number_of : (xs : List ℕ) (i : ℕ) → 1 ≤ i → of_record xs i 0 ≡ get_or xs (i - 1) 0
number_of xs zero h = absurd (not-suc-le-zero h)
number_of xs (suc i) h = ap (λ (k : ℕ). get_or xs k 0) (less_one i)

pub mark_of : (n : ℕ) (words : List ℕ) (i : ℕ) → 1 ≤ i → i ≤ n → of_record (marks_in n words) i false ≡ mark_at words (i - 1)
mark_of n words zero h k = absurd (not-suc-le-zero h)
mark_of n words (suc i) h k = mark_stands n words i k ∙ ap (mark_at words) (less_one i)

module _ (s : Sizes) (t : Tables) (c : Collector) where
  abbrev p : Pool
  p = pool_of s t c

  pub count_stands : (a : RecordNumber) → 1 ≤ a.0 → count_at p a ≡ get_or t.counts (a.0 - 1) 0
  unfolding pool_of
  count_stands a h = number_of t.counts a.0 h

  pub used_stands : (a : RecordNumber) → 1 ≤ a.0 → a.0 ≤ s.n → used_at p a ≡ mark_at t.used (a.0 - 1)
  unfolding pool_of
  used_stands a h k = mark_of s.n t.used a.0 h k

  pub held_stands : (a : RecordNumber) → 1 ≤ a.0 → a.0 ≤ s.n → held_at p a ≡ mark_at t.held (a.0 - 1)
  unfolding pool_of
  held_stands a h k = mark_of s.n t.held a.0 h k

  pub candidate_stands : (a : RecordNumber) → 1 ≤ a.0 → a.0 ≤ s.n → candidate_at p a ≡ mark_at t.candidates (a.0 - 1)
  unfolding pool_of
  candidate_stands a h k = mark_of s.n t.candidates a.0 h k

  -- ---- links

  pub value-stands : (l : LinkNumber) → value_at p l ≡ record_number (get_or t.values l.0 0)
  unfolding pool_of
  value-stands l = get_or-map record_number t.values l.0 0

  pub changed_stands : (l : LinkNumber) → l.0 < links s → changed_at p l ≡ mark_at t.changed l.0
  unfolding pool_of
  changed_stands l h = mark_stands (links s) t.changed l.0 h

  -- ---- workers

  pub row-stands : (w : ℕ) → w < s.w → registers_at p w ≡ record_numbers (take s.r (drop (w * s.r) t.registers))
  unfolding pool_of
  row-stands w k =
      map_at record_numbers (cut s.w s.r t.registers) w [] [] (omega (arith, length_cut s.w s.r t.registers))
      ∙ ap record_numbers (cut_at s.w s.r t.registers w k)

  pub register_stands : (w r : ℕ) → w < s.w → r < s.r → register_at p w r ≡ record_number (get_or t.registers (w * s.r + r) 0)
  register_stands w r k l =
      ap (λ (row : List RecordNumber). get_or row r none) (row-stands w k)
      ∙ get_or-map record_number (take s.r (drop (w * s.r) t.registers)) r 0
      ∙ ap record_number (get_or-take s.r (drop (w * s.r) t.registers) r 0 l ∙ get_or-drop (w * s.r) t.registers r 0)

  pub snoop_stands : (w : ℕ) → snoops_at p w ≡ is_on (get_or t.snoops w 0)
  unfolding pool_of
  snoop_stands w = get_or-map is_on t.snoops w 0

  -- ---- the logs and the history

  pub log_length : Known s t c → (w : ℕ) → w < s.w → length (log_at p w) ≡ get_or t.lengths w 0
  log_length known w k = ap length (log_known known w k) ∙ length-entries (get_or t.lengths w 0) (block s t w)

  pub history_length : length p.history ≡ get_or t.lengths s.w 0
  unfolding pool_of
  history_length = length-entries (get_or t.lengths s.w 0) t.history

  pub entry_stands : (i : ℕ) → i < get_or t.lengths s.w 0 → get_or p.history i no_entry ≡ entry_in t.history i
  unfolding pool_of
  entry_stands i k = entries_at (get_or t.lengths s.w 0) t.history i k
