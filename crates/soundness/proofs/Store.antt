-- A store keeps the core. It changes no value that is counted: on a link whose mark is off it logs the very value that the link counts for, and on a link
-- whose mark is on only the present value moves.
--     view_value_lem, core_value           a link whose mark is on takes another value
--     view_after, core_added               a link whose mark is off is logged and takes another value
--     core_stored                          a store
-- Assumes nothing.
use Prim.Native.Nat.{ℕ, ◌+◌, ◌≤◌, ◌<◌}
use mathlib.Core.Path.{◌≡◌, refl, sym, ap, ◌∙◌, subst}
use mathlib.Core.Logic.{⊎_elim}
use mathlib.Core.Bool.{Bool, true, false, cond, not}
use mathlib.Core.List.{List, [], ◌∷◌, ◌++◌, flatten}
use native.Mathlib.Omega.{arith}
use lib.ListN.{length, get_or, set, length-set}
use lib.Seq.{get_or-set_same, get_or-set_other}
use Rattle.rules.specs.declared.Sizes.{Sizes}
use Rattle.rules.specs.declared.RecordNumber.{RecordNumber}
use Rattle.rules.specs.declared.LinkNumber.{LinkNumber}
use Rattle.rules.specs.Size.{links}
use Rattle.rules.specs.Pool.{Entry, Pool, none, value_at, changed_at, log_at, with_value}
use Rattle.rules.specs.View.{bit, times, old_in, all_logs, look_up, view_value}
use Rattle.rules.specs.Worker.{added, logged}
use Rattle.rules.specs.Sound.{EntryInRange}
use Rattle.laws.proofs.Tests.{eqb_cases}
use Rattle.laws.proofs.Number.{link_same}
use Rattle.laws.proofs.Lists.{set_keeps, Each-append, Each-flatten, Each-flatten-set}
use Rattle.laws.proofs.Entries.{times_append, times_one, times_none}
use Rattle.laws.proofs.LookUp.{times_logs, look_up-more, look_up-added, view_marked, view_unmarked}
use Rattle.laws.proofs.Tally.{tally_same}
use Rattle.soundness.proofs.Core.{Core}

-- ---- a store

module _ {s : Sizes} {p : Pool} {clear count : List Entry} (c : Core s p clear count) (l : LinkNumber) (a : RecordNumber) (low : a.0 ≤ s.n) where
  -- the mark is on
  pub view_value_lem : changed_at p l ≡ true → (m : LinkNumber) → view_value p m ≡ view_value (with_value l a p) m
  unfolding all_logs view_value
  view_value_lem on m = ⊎_elim (λ x. here x.0) (λ x. there x.0) (eqb_cases m.0 l.0)
    where
      here : m.0 ≡ l.0 → view_value p m ≡ view_value (with_value l a p) m
      here e =
          subst (λ (i : LinkNumber). view_value p i ≡ view_value (with_value l a p) i) (sym (link_same m l e))
          (view_marked p l on ∙ sym (view_marked (with_value l a p) l on))

      there : (m.0 ≡ l.0 → ⊥) → view_value p m ≡ view_value (with_value l a p) m
      there d = ap (cond (changed_at p m) (look_up m p.workers.log)) (sym (get_or-set_other p.links.value l.0 m.0 a none d))

  pub core_value : changed_at p l ≡ true → Core s (with_value l a p) clear count
  unfolding all_logs
  core_value on =
      record {
        shaped =
            record {
              records = c.shaped.records;
              links =
                  record { value = length-set p.links.value l.0 a ∙ c.shaped.links.value; changed = c.shaped.links.changed };
              workers = c.shaped.workers;
            };
        registers = c.registers;
        last = c.last;
        values = λ m. set_keeps (λ x. x.0 ≤ s.n) none p.links.value l.0 a low (λ j. c.values (record { 0 = j })) m.0;
        logs = c.logs;
        history = c.history;
        makers = c.makers;
        once = c.once;
        marks = c.marks;
        counts = λ b h k. c.counts b h k ∙ tally_same _ _ (links s) b (λ m q. ap (old_in m count) (view_value_lem on m));
      }

  -- the mark is off
  module _ (inside : l.0 < links s) (off : changed_at p l ≡ false) (w : ℕ) (worker : w < s.w) where
    abbrev logs : List (List Entry)
    logs = p.workers.log

    abbrev entry : Entry
    entry = record { link = l; old = value_at p l }

    abbrev stored : Pool
    stored = with_value l a (added w l p)

    there_is : w < length logs
    there_is = omega (arith, c.shaped.workers.log)

    nowhere : times l (flatten logs) ≡ 0
    unfolding all_logs
    nowhere = omega (arith, c.marks l inside, ap bit off)

    on_after : changed_at stored l ≡ true
    unfolding added
    on_after = get_or-set_same p.links.changed l.0 true false (omega (arith, c.shaped.links.changed))

    marks-after : (m : LinkNumber) → m.0 < links s → times m (all_logs stored) + times m clear ≡ bit (changed_at stored m)
    unfolding added all_logs
    marks-after m k = ⊎_elim (λ x. here x.0) (λ x. there x.0) (eqb_cases m.0 l.0)
      where
        more : times m (flatten (set logs w (get_or logs w [] ++ (entry ∷ [])))) + times m (get_or logs w []) ≡ times m (flatten logs) + times m (get_or logs w [] ++ (entry ∷ []))
        more = times_logs m logs w there_is (get_or logs w [] ++ (entry ∷ []))

        split : times m (get_or logs w [] ++ (entry ∷ [])) ≡ times m (get_or logs w []) + times m (entry ∷ [])
        split = times_append m (get_or logs w []) (entry ∷ [])

        here : m.0 ≡ l.0 → times m (all_logs stored) + times m clear ≡ bit (changed_at stored m)
        here e =
            let on : changed_at stored m ≡ true = ap (λ (i : LinkNumber). changed_at stored i) (link_same m l e) ∙ on_after in
            let was : changed_at p m ≡ false = ap (λ (i : LinkNumber). changed_at p i) (link_same m l e) ∙ off in
            omega (arith, more, split, times_one m entry (sym e), c.marks m k, ap bit was, ap bit on)

        there : (m.0 ≡ l.0 → ⊥) → times m (all_logs stored) + times m clear ≡ bit (changed_at stored m)
        there d =
            let same : changed_at stored m ≡ changed_at p m = get_or-set_other p.links.changed l.0 m.0 true false d in
            omega (arith, more, split, times_none m entry (λ z. d (sym z)), c.marks m k, ap bit same)

    pub view_after : (m : LinkNumber) → view_value p m ≡ view_value stored m
    unfolding added all_logs view_value
    view_after m = ⊎_elim (λ x. here x.0) (λ x. there x.0) (eqb_cases m.0 l.0)
      where
        here : m.0 ≡ l.0 → view_value p m ≡ view_value stored m
        here e =
            subst (λ (i : LinkNumber). view_value p i ≡ view_value stored i) (sym (link_same m l e))
            (view_unmarked p l off ∙ sym (view_marked stored l on_after ∙ look_up-added l logs w there_is entry refl nowhere))

        there : (m.0 ≡ l.0 → ⊥) → view_value p m ≡ view_value stored m
        there d =
            let mark : changed_at p m ≡ changed_at stored m = sym (get_or-set_other p.links.changed l.0 m.0 true false d) in
            let old : look_up m p.workers.log ≡ look_up m stored.workers.log = sym (look_up-more m logs w there_is entry (λ z. d (sym z))) in
            let value : value_at p m ≡ value_at stored m = sym (get_or-set_other p.links.value l.0 m.0 a none d) in
            λ i. cond (mark i) (old i) (value i)

    pub core_added : Core s stored clear count
    unfolding added all_logs
    core_added =
        record {
          shaped =
              record {
                records = c.shaped.records;
                links =
                    record {
                      value = length-set p.links.value l.0 a ∙ c.shaped.links.value;
                      changed = length-set p.links.changed l.0 true ∙ c.shaped.links.changed;
                    };
                workers =
                    record {
                      registers = c.shaped.workers.registers;
                      each = c.shaped.workers.each;
                      snoop = c.shaped.workers.snoop;
                      log = length-set logs w (log_at p w ++ (entry ∷ [])) ∙ c.shaped.workers.log;
                    };
              };
          registers = c.registers;
          last = c.last;
          values = λ m. set_keeps (λ x. x.0 ≤ s.n) none p.links.value l.0 a low (λ j. c.values (record { 0 = j })) m.0;
          logs =
              Each-flatten-set (EntryInRange s) logs w (log_at p w ++ (entry ∷ [])) c.logs
              (Each-append (EntryInRange s) (log_at p w) (entry ∷ []) (Each-flatten (EntryInRange s) logs w c.logs)
              (record { link = inside; old = c.values l }, tt));
          history = c.history;
          makers = c.makers;
          once = c.once;
          marks = marks-after;
          counts = λ b h k. c.counts b h k ∙ tally_same _ _ (links s) b (λ m q. ap (old_in m count) (view_after m));
        }

  -- "if the link's changed mark is off, (link, its value) is added to w's log and the mark goes on; the link takes what r holds"
  pub core_stored : l.0 < links s → (w : ℕ) → w < s.w → Core s (with_value l a (logged w l p)) clear count
  unfolding logged
  core_stored inside w worker = by_mark (changed_at p l) refl
    where
      by_mark : (b : Bool) → changed_at p l ≡ b → Core s (with_value l a (cond (not b) (added w l p) p)) clear count
      by_mark true on = core_value on
      by_mark false off = core_added inside off w worker
