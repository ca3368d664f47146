-- Phase 2 keeps the core: entries move from a log to the history, and the value that their links count for is the entry's old value before and after.
--     counts-taken, core_taken     a worker's log is added to the history and emptied
--     core_made                    every record of which it is maker becomes a candidate with maker 0
-- Assumes nothing.
use Prim.Native.Nat.{ℕ, ◌+◌, ◌≤◌, ◌<◌, zero-le}
use mathlib.Core.Path.{◌≡◌, sym, ap, ◌∙◌}
use mathlib.Core.Logic.{⊎_elim}
use mathlib.Core.Bool.{Bool, true, false, cond, ◌||◌}
use mathlib.Core.List.{List, [], ◌++◌, flatten, map, zip_with}
use native.Mathlib.Omega.{arith}
use native.Mathlib.Nat.{eq-zero-or-pos}
use lib.Dec.{eqb}
use lib.ListN.{length, set, length-set, length-map}
use Rattle.rules.specs.declared.Sizes.{Sizes}
use Rattle.rules.specs.declared.LinkNumber.{LinkNumber}
use Rattle.rules.specs.Size.{links}
use Rattle.rules.specs.Pool.{Entry, Pool, value_at, changed_at, log_at, with_history, with_log}
use Rattle.rules.specs.View.{times, old_in, all_logs, view_value}
use Rattle.rules.specs.Collect.{made_by}
use Rattle.rules.specs.Sound.{EntryInRange}
use Rattle.laws.proofs.Tests.{bit_most, bit_on}
use Rattle.laws.proofs.Lists.{Each-append, Each-flatten, Each-flatten-set, length-zip_with, map-of_record_keeps}
use Rattle.laws.proofs.Entries.{times_append, old_in_append, old_in_absent, old_in_else}
use Rattle.laws.proofs.LookUp.{times_logs, look_up_without, look_up_first, view_marked}
use Rattle.laws.proofs.Tally.{tally_same}
use Rattle.soundness.proofs.Core.{Core, times_most}
use Rattle.soundness.proofs.Parts.{core_records}

module _ {s : Sizes} {p : Pool} (c : Core s p p.history p.history) (w : ℕ) (worker : w < s.w) where
  abbrev logs : List (List Entry)
  logs = p.workers.log

  abbrev history : List Entry
  history = p.history ++ log_at p w

  abbrev taken : Pool
  taken = with_log w [] (with_history history p)

  there_is : w < length logs
  there_is = omega (arith, c.shaped.workers.log)

  -- an entry moves: what all logs have less, the history has more
  times-taken : (m : LinkNumber) → times m (flatten (set logs w [])) + times m history ≡ times m (flatten logs) + times m p.history
  unfolding times
  times-taken m = omega (arith, times_logs m logs w there_is [], times_append m p.history (log_at p w))

  times_log : (m : LinkNumber) → times m (log_at p w) ≤ times m (flatten logs)
  unfolding times
  times_log m = omega (arith, times_logs m logs w there_is [])

  view_taken : (m : LinkNumber) → m.0 < links s → view_value p m ≡ old_in m (log_at p w) (view_value taken m)
  unfolding all_logs view_value
  view_taken m k = ⊎_elim absent present (eq-zero-or-pos (times m (log_at p w)))
    where
      absent : times m (log_at p w) ≡ 0 → view_value p m ≡ old_in m (log_at p w) (view_value taken m)
      absent z =
          ap (λ x. cond (changed_at p m) x (value_at p m)) (sym (look_up_without m logs w there_is z))
          ∙ sym (old_in_absent m (log_at p w) (view_value taken m) z)

      present : 0 < times m (log_at p w) → view_value p m ≡ old_in m (log_at p w) (view_value taken m)
      present h =
          view_marked p m (bit_on (changed_at p m) (omega (arith, c.marks m k, times_log m)))
          ∙ look_up_first m logs w there_is (view_value taken m) (times_most c m k) h

  -- a link counts for what it counted for
  pub counts-taken : (m : LinkNumber) → m.0 < links s → old_in m p.history (view_value p m) ≡ old_in m history (view_value taken m)
  counts-taken m k = old_in_else m p.history (λ z. view_taken m k) ∙ sym (old_in_append m p.history (log_at p w) (view_value taken m))

  pub core_taken : Core s taken history history
  unfolding all_logs
  core_taken =
      record {
        shaped =
            record {
              records = c.shaped.records;
              links = c.shaped.links;
              workers =
                  record {
                    registers = c.shaped.workers.registers;
                    each = c.shaped.workers.each;
                    snoop = c.shaped.workers.snoop;
                    log = length-set logs w [] ∙ c.shaped.workers.log;
                  };
            };
        registers = c.registers;
        last = c.last;
        values = c.values;
        logs = Each-flatten-set (EntryInRange s) logs w [] c.logs tt;
        history = Each-append (EntryInRange s) p.history (log_at p w) c.history (Each-flatten (EntryInRange s) logs w c.logs);
        makers = c.makers;
        once =
            λ m k.
            omega (arith, times_append m p.history (log_at p w), times_log m, c.marks m k, bit_most (changed_at p m));
        marks = λ m k. times-taken m ∙ c.marks m k;
        counts = λ a h k. c.counts a h k ∙ tally_same _ _ (links s) a counts-taken;
      }

module _ {s : Sizes} {p : Pool} {clear count : List Entry} (c : Core s p clear count) (w : ℕ) where
  pub core_made : Core s (made_by w p) clear count
  unfolding made_by
  core_made =
      core_records c p.records.used p.records.held
      (zip_with (λ m x. eqb m (w + 1) || x) p.records.maker p.records.candidate)
      (map (λ m. cond (eqb m (w + 1)) 0 m) p.records.maker)
      c.shaped.records.used
      c.shaped.records.held
      (length-zip_with (λ m x. eqb m (w + 1) || x) p.records.maker p.records.candidate (c.shaped.records.maker ∙ sym c.shaped.records.candidate)
      ∙ c.shaped.records.maker)
      (length-map p.records.maker (λ m. cond (eqb m (w + 1)) 0 m) ∙ c.shaped.records.maker)
      (λ a. map-of_record_keeps (λ m. m ≤ s.w) 0 (λ m. cond (eqb m (w + 1)) 0 m) lower p.records.maker (λ j. c.makers (record { 0 = j })) a.0)
    where
      lower_if : (b : Bool) (m : ℕ) → m ≤ s.w → cond b 0 m ≤ s.w
      lower_if true m h = zero-le
      lower_if false m h = h

      lower : (m : ℕ) → m ≤ s.w → cond (eqb m (w + 1)) 0 m ≤ s.w
      lower m h = lower_if (eqb m (w + 1)) m h
