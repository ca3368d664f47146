-- Phase 3 keeps the core: one mark goes off. The entry is not yet counted, so no count moves.
--     from_here      the entries from a place on: the one there, and those behind it
--     core_cleared   the changed mark goes off for the link of the history entry at a place
-- Assumes nothing.
use Prim.Native.Nat.{ℕ, suc, ◌+◌, ◌<◌}
use mathlib.Core.Path.{◌≡◌, sym, ap, ◌∙◌}
use mathlib.Core.Logic.{⊎_elim}
use mathlib.Core.Bool.{false, cond}
use mathlib.Core.List.{List, [], ◌∷◌}
use native.Mathlib.Omega.{arith}
use lib.ListN.{length, get_or, drop, length-set}
use lib.Seq.{drop-cons, get_or-set_same, get_or-set_other}
use Rattle.rules.specs.declared.Sizes.{Sizes}
use Rattle.rules.specs.declared.LinkNumber.{LinkNumber}
use Rattle.rules.specs.Size.{links}
use Rattle.rules.specs.Pool.{Entry, Pool, value_at, changed_at, with_changed}
use Rattle.rules.specs.View.{bit, times, all_logs, look_up, view_value}
use Rattle.rules.specs.Sound.{EntryInRange}
use Rattle.laws.proofs.Tests.{eqb_cases, bit_most}
use Rattle.laws.proofs.Number.{link_same}
use Rattle.laws.proofs.Lists.{Each-at}
use Rattle.laws.proofs.Entries.{times_cons, times_one, times_none, times_from, old_in_else}
use Rattle.laws.proofs.Tally.{tally_same}
use Rattle.soundness.proofs.Core.{Core}

-- how often a link stands in a list from a place on
pub from_here : (m : LinkNumber) (xs : List Entry) (i : ℕ) (d : Entry) → i < length xs
    → times m (drop i xs) ≡ times m (get_or xs i d ∷ []) + times m (drop (suc i) xs)
from_here m xs i d h = ap (times m) (drop-cons xs i d h) ∙ times_cons m (get_or xs i d) (drop (suc i) xs)

module _ {s : Sizes} {p : Pool} (i : ℕ) (c : Core s p (drop i p.history) p.history) (inside : i < length p.history) (d : Entry) where
  abbrev entry : Entry
  entry = get_or p.history i d

  abbrev cleared : Pool
  cleared = with_changed entry.link false p

  entry_in_range : EntryInRange s entry
  entry_in_range = Each-at (EntryInRange s) p.history i d inside c.history

  off_after : changed_at cleared entry.link ≡ false
  off_after = get_or-set_same p.links.changed entry.link.0 false false (omega (arith, entry_in_range.link, c.shaped.links.changed))

  marks-after : (m : LinkNumber) → m.0 < links s → times m (all_logs cleared) + times m (drop (suc i) p.history) ≡ bit (changed_at cleared m)
  unfolding all_logs
  marks-after m k = ⊎_elim (λ x. here x.0) (λ x. there x.0) (eqb_cases m.0 entry.link.0)
    where
      here : m.0 ≡ entry.link.0 → times m (all_logs cleared) + times m (drop (suc i) p.history) ≡ bit (changed_at cleared m)
      here e =
          let off : changed_at cleared m ≡ false = ap (λ (l : LinkNumber). changed_at cleared l) (link_same m entry.link e) ∙ off_after in
          omega (arith, from_here m p.history i d inside, times_one m entry (sym e), c.marks m k, bit_most (changed_at p m), ap bit off)

      there : (m.0 ≡ entry.link.0 → ⊥) → times m (all_logs cleared) + times m (drop (suc i) p.history) ≡ bit (changed_at cleared m)
      there n =
          let same : changed_at cleared m ≡ changed_at p m = get_or-set_other p.links.changed entry.link.0 m.0 false false n in
          omega (arith, from_here m p.history i d inside, times_none m entry (λ z. n (sym z)), c.marks m k, ap bit same)

  view_after : (m : LinkNumber) → times m p.history ≡ 0 → view_value p m ≡ view_value cleared m
  unfolding all_logs view_value
  view_after m z =
      ap (λ b. cond b (look_up m p.workers.log) (value_at p m)) (sym (get_or-set_other p.links.changed entry.link.0 m.0 false false (λ e.
      omega (arith, from_here m p.history i d inside, times_from m p.history i, times_one m entry (sym e)))))

  pub core_cleared : Core s cleared (drop (suc i) p.history) p.history
  unfolding all_logs
  core_cleared =
      record {
        shaped =
            record {
              records = c.shaped.records;
              links =
                  record {
                    value = c.shaped.links.value;
                    changed = length-set p.links.changed entry.link.0 false ∙ c.shaped.links.changed;
                  };
              workers = c.shaped.workers;
            };
        registers = c.registers;
        last = c.last;
        values = c.values;
        logs = c.logs;
        history = c.history;
        makers = c.makers;
        once = c.once;
        marks = marks-after;
        counts = λ a h k. c.counts a h k ∙ tally_same _ _ (links s) a (λ m q. old_in_else m p.history (view_after m));
      }
