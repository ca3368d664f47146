-- The sound pool, taken apart: what does not depend on the collector's record, and what does.
--     Core                  every clause but those of the phase, over the entries that are not yet cleared and those that are not yet counted
--     links_in_range        the links of entries are below S
--     times_most            no link stands twice among all logs
--     logs_room, log_room, history_room     so there is room for them
--     view_low              a view value is a record number
--     core, core_in         the core of a sound pool, and of one in a phase that is known
--     core_moved, sound, arrives     a pool with the collector moved, and its soundness from its core
-- A step of the collector is then: the core of the pool before, what the step does to the core, and where the collector arrives. Assumes nothing.
use Prim.Native.Nat.{ℕ, ◌+◌, ◌≤◌, ◌<◌, zero-le}
use mathlib.Core.Path.{◌≡◌, refl, sym, ap, ◌∙◌, subst}
use mathlib.Core.Bool.{Bool, true, false}
use mathlib.Core.List.{List, [], ◌∷◌}
use native.Mathlib.Omega.{arith}
use lib.Dec.{T}
use lib.ListN.{length, get_or, drop}
use Rattle.rules.specs.declared.Sizes.{Sizes}
use Rattle.rules.specs.declared.RecordNumber.{RecordNumber}
use Rattle.rules.specs.declared.LinkNumber.{LinkNumber}
use Rattle.rules.specs.declared.Collector.{Collector}
use Rattle.rules.specs.Size.{links}
use Rattle.rules.specs.Pool.{Entry, Pool, count_at, maker_at, value_at, changed_at, register_at, log_at, with_collector}
use Rattle.rules.specs.View.{bit, times, old_in, all_logs, view_value}
use Rattle.rules.specs.Sound.{Each, Shaped, EntryInRange, Sound, empty_in, entries_in, positions, uncleared, uncounted, outstanding, counts_for, tally}
use Rattle.laws.proofs.Tests.{bit_most}
use Rattle.laws.proofs.Lists.{length-flatten, Each-map}
use Rattle.laws.proofs.Entries.{times_append}
use Rattle.laws.proofs.LookUp.{view_keeps}
use Rattle.laws.proofs.Room.{room}
use Rattle.laws.proofs.Phases.{moved}

pub record Core (s : Sizes) (p : Pool) (clear count : List Entry) : Type 0 where
  pub shaped : Shaped s p
  pub registers : (w r : ℕ) → (register_at p w r).0 ≤ s.n
  pub last : p.last.0 ≤ s.n
  pub values : (l : LinkNumber) → (value_at p l).0 ≤ s.n
  pub logs : Each (EntryInRange s) (all_logs p)
  pub history : Each (EntryInRange s) p.history
  pub makers : (a : RecordNumber) → maker_at p a ≤ s.w
  pub once : (l : LinkNumber) → l.0 < links s → times l p.history ≤ 1
  pub marks : (l : LinkNumber) → l.0 < links s → times l (all_logs p) + times l clear ≡ bit (changed_at p l)
  pub counts : (a : RecordNumber) → 1 ≤ a.0 → a.0 ≤ s.n → count_at p a ≡ tally (λ l. old_in l count (view_value p l)) (links s) a

-- ---- room, from the core

pub links_in_range : (s : Sizes) (xs : List Entry) → Each (EntryInRange s) xs → Each (λ e. e.link.0 < links s) xs
links_in_range s [] h = tt
links_in_range s (e ∷ xs) h = (h.0.link, links_in_range s xs h.1)

module _ {s : Sizes} {p : Pool} {clear count : List Entry} (c : Core s p clear count) where
  pub times_most : (l : LinkNumber) → l.0 < links s → times l (all_logs p) ≤ 1
  times_most l h = omega (arith, c.marks l h, bit_most (changed_at p l))

  pub logs_room : length (all_logs p) ≤ links s
  logs_room = room (all_logs p) (links s) (links_in_range s (all_logs p) c.logs) times_most

  pub log_room : (w : ℕ) → length (log_at p w) ≤ links s
  unfolding all_logs
  log_room w = omega (arith, length-flatten p.workers.log w, logs_room)

  pub history_room : length p.history ≤ links s
  history_room = room p.history (links s) (links_in_range s p.history c.history) c.once

  -- a view value is a record number
  pub view_low : (l : LinkNumber) → (view_value p l).0 ≤ s.n
  view_low l = view_keeps (λ a. a.0 ≤ s.n) p l (Each-map (all_logs p) (λ e r. r.old) c.logs) zero-le (c.values l)

-- ---- the core of a sound pool

pub core : {s : Sizes} {p : Pool} → Sound s p → Core s p (uncleared p) (uncounted p)
unfolding counts_for outstanding
core {s} {p} h =
    record {
      shaped = h.shaped;
      registers = h.registers;
      last = h.last;
      values = h.values;
      logs = h.logs;
      history = h.history;
      makers = h.makers;
      once = h.once;
      marks = λ l k. sym (times_append l (all_logs p) (uncleared p)) ∙ by_mark (changed_at p l) (h.marked l k) (h.unmarked l k);
      counts = h.counts;
    }
  where
    by_mark : {n : ℕ} (b : Bool) → (b ≡ true → n ≡ 1) → (b ≡ false → n ≡ 0) → n ≡ bit b
    by_mark true on off = on refl
    by_mark false on off = off refl

-- what is not yet cleared and not yet counted of a history, in a phase at a position
abbrev pub uncleared_in : ℕ → ℕ → List Entry → List Entry
uncleared_in phase i history = get_or ([] ∷ [] ∷ history ∷ drop i history ∷ []) phase []

abbrev pub uncounted_in : ℕ → ℕ → List Entry → List Entry
uncounted_in phase i history = get_or ([] ∷ [] ∷ history ∷ history ∷ history ∷ drop i history ∷ []) phase []

abbrev pub positions_in : Sizes → ℕ → List Entry → ℕ
positions_in s phase history = get_or (1 ∷ s.w ∷ s.w ∷ length history ∷ s.w ∷ length history ∷ []) phase 1

module _ {s : Sizes} {p : Pool} (h : Sound s p) (k : ℕ) (e : p.collector.phase ≡ k) where
  pub core_in : Core s p (uncleared_in k p.collector.position p.history) (uncounted_in k p.collector.position p.history)
  unfolding uncleared uncounted
  core_in =
      subst (λ (n : ℕ). Core s p (uncleared_in n p.collector.position p.history) (uncounted_in n p.collector.position p.history)) e (core h)

  pub position_in : p.collector.position < positions_in s k p.history
  unfolding positions
  position_in = subst (λ (n : ℕ). p.collector.position < positions_in s n p.history) e h.position

  pub empty_in_lem : T (empty_in k) → p.history ≡ []
  empty_in_lem t = h.history_empty (subst (λ (n : ℕ). T (empty_in n)) (sym e) t)

-- ---- where the collector arrives

-- the core says nothing of the collector's record
pub core_moved : {s : Sizes} {p : Pool} {clear count : List Entry} (x : Collector) → Core s p clear count → Core s (with_collector x p) clear count
unfolding all_logs view_value
core_moved x c =
    record {
      shaped = record { records = c.shaped.records; links = c.shaped.links; workers = c.shaped.workers };
      registers = c.registers;
      last = c.last;
      values = c.values;
      logs = c.logs;
      history = c.history;
      makers = c.makers;
      once = c.once;
      marks = c.marks;
      counts = c.counts;
    }

module _ {s : Sizes} {p : Pool} where
  -- a pool is sound if its core and its phase are
  pub sound : Core s p (uncleared p) (uncounted p)
      → p.collector.phase ≤ 6
      → p.collector.position < positions s p
      → (T (empty_in p.collector.phase) → p.history ≡ [])
      → (T (entries_in p.collector.phase) → 0 < length p.history)
      → Sound s p
  unfolding counts_for outstanding
  sound c phase position empty entries =
      record {
        shaped = c.shaped;
        phase = phase;
        position = position;
        history_empty = empty;
        history_entries = entries;
        registers = c.registers;
        last = c.last;
        values = c.values;
        logs = c.logs;
        history = c.history;
        makers = c.makers;
        log_length = log_room c;
        history_length = history_room c;
        once = c.once;
        marked = λ l k m. times_append l (all_logs p) (uncleared p) ∙ c.marks l k ∙ ap bit m;
        unmarked = λ l k m. times_append l (all_logs p) (uncleared p) ∙ c.marks l k ∙ ap bit m;
        counts = c.counts;
      }

module _ {s : Sizes} {q : Pool} (k i : ℕ) where
  pub arrives : Core s q (uncleared_in k i q.history) (uncounted_in k i q.history)
      → k ≤ 6
      → i < positions_in s k q.history
      → (T (empty_in k) → q.history ≡ [])
      → (T (entries_in k) → 0 < length q.history)
      → Sound s (moved k i q)
  unfolding uncleared uncounted positions
  arrives c phase position empty entries = sound (core_moved (moved k i q).collector c) phase position empty entries
