-- The step of phase 5 on known tables.
--     counted_in     the tables once an entry is counted
--     counted_on     it leaves entries behind the one that it counts
--     emptied_on     it counts the last, and empties the history
-- Assumes nothing.
use Prim.Native.Nat.{ℕ, suc, ◌+◌, ◌*◌, ◌≤◌, ◌<◌}
use mathlib.Core.Path.{◌≡◌, sym, ap, ◌∙◌}
use mathlib.Core.Bool.{cond}
use mathlib.Core.List.{List, [], ◌++◌}
use mathlib.Core.Logic.{inr}
use native.Mathlib.Omega.{arith}
use borrow.Author.Tests.{le-leb, lt-leb}
use lib.ListN.{length, get_or, drop, set, replicate}
use Rattle.rules.specs.declared.Sizes.{Sizes}
use Rattle.rules.specs.declared.Collector.{Collector}
use Rattle.rules.specs.declared.Event.TheVariants.{Collect}
use Rattle.rules.specs.declared.Answer.TheVariants.{Stepped}
use Rattle.rules.specs.Pool.{Entry, Pool, with_history}
use Rattle.rules.specs.View.{view_value}
use Rattle.rules.specs.Collect.{last_of, advanced, onward, stepped, entry_here, falls, rises, counted, counts, phases}
use Rattle.tables.specs.Tables.{Tables, put_counts, put_candidates, put_history, put_lengths}
use Rattle.tables.specs.Lie.{pool_of, tables_of}
use Rattle.tables.specs.Known.{Known}
use Rattle.tables.specs.Event.{written, event_on}
use Rattle.tables.specs.Counted.{fewer, fallen, more}
use Rattle.tables.proofs.Entered.{entry_in}
use Rattle.tables.proofs.RoundTrip.{known_back}
use Rattle.tables.proofs.Done.{collect_is, moved_on_lem}
use Rattle.soundness.proofs.Known.{entry_below}
use Rattle.count.proofs.Written.{counted-written, emptied-written}
use Rattle.count.proofs.Entry.{history_entries, entry_here_lem}

-- the entry at position i of the history is counted
abbrev pub counted_in : Sizes → Tables → Collector → ℕ → Tables
counted_in s t c i =
    let e : Entry = entry_in t.history i in
    put_counts (more (view_value (pool_of s t c) e.link).0 (fewer e.old.0 t.counts)) (put_candidates (fallen e.old.0 t.counts t.candidates) t)

module _ {s : Sizes} {t : Tables} {c : Collector} (known : Known s t c) (phase : c.phase ≡ 5) {w i : ℕ} (worker : w ≡ s.w) (position : i ≡ c.position) where
  abbrev p : Pool
  p = pool_of s t c

  abbrev n : ℕ
  n = get_or t.lengths w 0

  abbrev after : Pool
  after = counted (entry_here p) p

  old_low : (entry_here p).old.0 ≤ length p.records.candidate
  unfolding pool_of
  old_low = omega (arith, (entry_below known.tables.sound (inr phase)).old, known.tables.sound.shaped.records.candidate)

  counted_tables : tables_of s after ≡ counted_in s t c i
  counted_tables =
      counted-written s p (entry_here p) old_low
      ∙ (λ j.
      let e : Entry = entry_here_lem known phase worker position j in
      let u : Tables = known_back known j in
      put_counts (more (view_value p e.link).0 (fewer e.old.0 u.counts)) (put_candidates (fallen e.old.0 u.counts u.candidates) u))

  -- the history that is left, and the tables with it, settle the step
  moves_on : (history : List Entry) (u : Tables) → cond (last_of (length p.history) p) [] p.history ≡ history → tables_of s (with_history history after) ≡ u
      → event_on s t c Collect ≡ record { answer = Stepped; collector = advanced n history c; tables = u }
  unfolding phases counts counted falls rises pool_of
  moves_on history u left h =
      collect_is s t c 5 phase
      ∙ ap (λ (kept : List Entry). written s (stepped (onward (length p.history) (with_history kept after)))) left
      ∙ moved_on_lem s (length p.history) (with_history history after) u h
      ∙ (λ j. record { answer = Stepped; collector = advanced (sym (history_entries known phase worker position) j) history c; tables = u })

  pub counted_on : c.position + 1 < n
      → event_on s t c Collect ≡ record { answer = Stepped; collector = advanced n p.history c; tables = counted_in s t c i }
  unfolding counted falls rises pool_of
  counted_on more_left =
      moves_on p.history (counted_in s t c i)
      (ap (λ b. cond b [] p.history) (lt-leb (length p.history) (suc c.position) (omega (arith, history_entries known phase worker position))))
      counted_tables

  pub emptied_on : n ≤ c.position + 1
      → event_on s t c Collect
      ≡ record {
        answer = Stepped;
        collector = advanced n [] c;
        tables = put_history (replicate (n * 2) 0 ++ drop (n * 2) t.history) (put_lengths (set t.lengths w 0) (counted_in s t c i));
      }
  unfolding counted falls rises pool_of
  emptied_on last =
      moves_on [] _
      (ap (λ b. cond b [] p.history) (le-leb (length p.history) (suc c.position) (omega (arith, history_entries known phase worker position))))
      (emptied-written s after known.tables.sound.shaped.workers.log known.tables.sound.history_length
      ∙ (λ j.
      let m : ℕ = sym (history_entries known phase worker position) j in
      let u : Tables = counted_tables j in
      put_history (replicate (m * 2) 0 ++ drop (m * 2) u.history) (put_lengths (set u.lengths (sym worker j) 0) u)))
