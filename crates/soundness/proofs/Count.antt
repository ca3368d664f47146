-- Counts that fall and rise.
--     count_written, count_falls, count_rises      the count of each record, where one falls or rises
--     shaped_falls, shaped_rises    the tables keep their lengths
--     core_counted                  phase 5 keeps the core: one link moves from its old value to its view value, one count down and one up
--     core_emptied_history          then the history may be emptied
--     core_emptied                  emptying a link whose mark is off keeps the core: it moves from its present value to none
-- Assumes nothing.
use Prim.Native.Nat.{ℕ, suc, ◌+◌, ◌-◌, ◌≤◌, ◌<◌, zero-le}
use mathlib.Core.Path.{◌≡◌, refl, sym, ap, ◌∙◌}
use mathlib.Core.Logic.{◌⊎◌, inl, inr, ⊎_elim}
use mathlib.Core.Bool.{Bool, true, false, cond}
use mathlib.Core.List.{List, []}
use native.Mathlib.Omega.{arith}
use lib.Dec.{eqb}
use lib.ListN.{length, get_or, drop, length-set}
use lib.Seq.{drop-cons, get_or-set_same, get_or-set_other}
use borrow.Author.Tests.{ne_eqb}
use Rattle.rules.specs.declared.Sizes.{Sizes}
use Rattle.rules.specs.declared.RecordNumber.{RecordNumber}
use Rattle.rules.specs.declared.LinkNumber.{LinkNumber}
use Rattle.rules.specs.Size.{links}
use Rattle.rules.specs.Pool.{Entry, Pool, none, of_record, with_record, count_at, value_at, changed_at, with_history}
use Rattle.rules.specs.View.{bit, times, old_in, all_logs, look_up, view_value}
use Rattle.rules.specs.Collect.{falls, rises, counted, emptied}
use Rattle.rules.specs.Sound.{EntryInRange, ShapedRecords}
use Rattle.laws.proofs.Tests.{eqb_cases}
use Rattle.laws.proofs.Number.{record_same}
use Rattle.laws.proofs.LookUp.{view_unmarked}
use Rattle.laws.proofs.Lists.{Each-at, of_record_same, of_record_other, length-with_record, set_keeps}
use Rattle.laws.proofs.Entries.{times_one, times_from, old_in_here, old_in_there, old_in_absent}
use Rattle.laws.proofs.Tally.{hit, tally-moved, tally_here}
use Rattle.soundness.proofs.Core.{Core, view_low}
use Rattle.soundness.proofs.Clear.{from_here}

-- ---- one count

module _ (s : Sizes) (p : Pool) (h : ShapedRecords s p.records) (x : RecordNumber) (low : x.0 ≤ s.n) where
  -- the count of x is written, and no other
  count_written : (n : ℕ) (a : RecordNumber) → 1 ≤ a.0 → let after : ℕ = of_record (with_record p.records.count x.0 n) a.0 0 in
      ((hit x a ≡ 1) × (after ≡ n) × (count_at p x ≡ count_at p a)) ⊎ ((hit x a ≡ 0) × (after ≡ count_at p a))
  count_written n a k = ⊎_elim (λ e. inl (same e.0 e.1)) (λ e. inr (ap bit e.1, of_record_other p.records.count x.0 a.0 n 0 e.0)) (eqb_cases x.0 a.0)
    where
      same : x.0 ≡ a.0 → eqb x.0 a.0 ≡ true → (hit x a ≡ 1) × (of_record (with_record p.records.count x.0 n) a.0 0 ≡ n) × (count_at p x ≡ count_at p a)
      same e on = (
        ap bit on,
        ap (λ (i : ℕ). of_record (with_record p.records.count x.0 n) i 0) (sym e) ∙ of_record_same p.records.count x.0 n 0 (omega arith) (omega (arith, h.count)),
        ap (λ (y : RecordNumber). count_at p y) (record_same x a e),
      )

  -- the count of x falls by one, if it is not 0, and no other
  pub count_falls : (a : RecordNumber) → 1 ≤ a.0 → hit x a ≤ count_at p a → count_at (falls x p) a + hit x a ≡ count_at p a
  unfolding falls
  count_falls a k some =
      ⊎_elim (λ e. omega (arith, e.0, e.1, e.2)) (λ e. omega (arith, e.0, e.1)) (count_written (count_at p x - 1) a k)

  -- the count of x rises by one, and no other
  pub count_rises : (a : RecordNumber) → 1 ≤ a.0 → count_at (rises x p) a ≡ count_at p a + hit x a
  unfolding rises
  count_rises a k = ⊎_elim (λ e. omega (arith, e.0, e.1, e.2)) (λ e. omega (arith, e.0, e.1)) (count_written (count_at p x + 1) a k)

  pub shaped_falls : ShapedRecords s (falls x p).records
  unfolding falls
  shaped_falls =
      record {
        used = h.used;
        count = length-with_record p.records.count x.0 (count_at p x - 1) ∙ h.count;
        held = h.held;
        candidate = length_if (eqb (count_at p x - 1) 0);
        maker = h.maker;
      }
    where
      length_if : (b : Bool) → length (cond b (with_record p.records.candidate x.0 true) p.records.candidate) ≡ s.n
      length_if true = length-with_record p.records.candidate x.0 true ∙ h.candidate
      length_if false = h.candidate

  pub shaped_rises : ShapedRecords s (rises x p).records
  unfolding rises
  shaped_rises =
      record {
        used = h.used;
        count = length-with_record p.records.count x.0 (count_at p x + 1) ∙ h.count;
        held = h.held;
        candidate = h.candidate;
        maker = h.maker;
      }

-- ---- phase 5

module _ {s : Sizes} {p : Pool} (i : ℕ) (c : Core s p [] (drop i p.history)) (inside : i < length p.history) (d : Entry) where
  abbrev entry : Entry
  entry = get_or p.history i d

  abbrev behind : List Entry
  behind = drop (suc i) p.history

  pub entry_in_range : EntryInRange s entry
  entry_in_range = Each-at (EntryInRange s) p.history i d inside c.history

  -- what a link counts for before the step, and after it
  before : LinkNumber → RecordNumber
  before m = old_in m (drop i p.history) (view_value p m)

  after : LinkNumber → RecordNumber
  after m = old_in m behind (view_value p m)

  before_here : before entry.link ≡ entry.old
  unfolding before
  before_here =
      ap (λ xs. old_in entry.link xs (view_value p entry.link)) (drop-cons p.history i d inside)
      ∙ old_in_here entry.link entry behind (view_value p entry.link) refl

  -- the link of the entry stands in no later one: "no link twice in the history"
  no_more : times entry.link behind ≡ 0
  no_more =
      omega (
        arith,
        from_here entry.link p.history i d inside,
        times_one entry.link entry refl,
        times_from entry.link p.history i,
        c.once entry.link entry_in_range.link,
      )

  after_here : after entry.link ≡ view_value p entry.link
  unfolding after
  after_here = old_in_absent entry.link behind (view_value p entry.link) no_more

  others : (m : LinkNumber) → m.0 < links s → (m.0 ≡ entry.link.0 → ⊥) → before m ≡ after m
  unfolding before after
  others m k n =
      ap (λ xs. old_in m xs (view_value p m)) (drop-cons p.history i d inside)
      ∙ old_in_there m entry behind (view_value p m) (λ z. n (sym z))

  -- "no count that falls is 0"
  pub old_counted : (a : RecordNumber) → 1 ≤ a.0 → a.0 ≤ s.n → hit entry.old a ≤ count_at p a
  unfolding before
  old_counted a h k =
      omega (
        arith,
        c.counts a h k,
        tally_here before entry.link (links s) a entry_in_range.link,
        ap (λ (x : RecordNumber). hit x a) before_here,
      )

  pub core_counted : Core s (counted entry p) [] behind
  unfolding before after counted falls rises all_logs view_value
  core_counted =
      record {
        shaped = record { records = shaped_rises s (falls x p) fallen y low_y; links = c.shaped.links; workers = c.shaped.workers };
        registers = c.registers;
        last = c.last;
        values = c.values;
        logs = c.logs;
        history = c.history;
        makers = c.makers;
        once = c.once;
        marks = c.marks;
        counts =
            λ a h k.
            omega (
              arith,
              count_rises s (falls x p) fallen y low_y a h,
              count_falls s p c.shaped.records x entry_in_range.old a h (old_counted a h k),
              c.counts a h k,
              tally-moved before after entry.link (links s) a entry_in_range.link others,
              ap (λ (z : RecordNumber). hit z a) before_here,
              ap (λ (z : RecordNumber). hit z a) after_here,
            );
      }
    where
      x : RecordNumber
      x = entry.old

      y : RecordNumber
      y = view_value p entry.link

      low_y : y.0 ≤ s.n
      low_y = view_low c entry.link

      fallen : ShapedRecords s (falls x p).records
      fallen = shaped_falls s p c.shaped.records x entry_in_range.old

-- "After the last, the history is emptied": nothing of it is left to be counted
pub core_emptied_history : {s : Sizes} {p : Pool} {clear count : List Entry} → Core s p clear count → Core s (with_history [] p) clear count
unfolding all_logs view_value times
core_emptied_history c =
    record {
      shaped = record { records = c.shaped.records; links = c.shaped.links; workers = c.shaped.workers };
      registers = c.registers;
      last = c.last;
      values = c.values;
      logs = c.logs;
      history = tt;
      makers = c.makers;
      once = λ l h. omega arith;
      marks = c.marks;
      counts = c.counts;
    }

-- ---- phase 6

module _ {s : Sizes} {p : Pool} (c : Core s p [] []) (l : LinkNumber) (inside : l.0 < links s) (off : changed_at p l ≡ false) where
  value_before : old_in l [] (view_value p l) ≡ value_at p l
  unfolding old_in
  value_before = view_unmarked p l off

  -- "no count that falls is 0"
  pub value-counted : (a : RecordNumber) → 1 ≤ a.0 → a.0 ≤ s.n → hit (value_at p l) a ≤ count_at p a
  value-counted a h k =
      omega (
        arith,
        c.counts a h k,
        tally_here (λ m. old_in m [] (view_value p m)) l (links s) a inside,
        ap (λ (x : RecordNumber). hit x a) value_before,
      )

  value_after : old_in l [] (view_value (emptied l p) l) ≡ none
  unfolding old_in emptied falls
  value_after = view_unmarked (emptied l p) l off ∙ get_or-set_same p.links.value l.0 none none (omega (arith, c.shaped.links.value))

  others_stay : (m : LinkNumber) → m.0 < links s → (m.0 ≡ l.0 → ⊥) → old_in m [] (view_value p m) ≡ old_in m [] (view_value (emptied l p) m)
  unfolding old_in emptied falls all_logs view_value
  others_stay m k n = ap (cond (changed_at p m) (look_up m p.workers.log)) (sym (get_or-set_other p.links.value l.0 m.0 none none n))

  pub core_emptied : Core s (emptied l p) [] []
  unfolding emptied falls all_logs
  core_emptied =
      record {
        shaped =
            record {
              records = shaped_falls s p c.shaped.records (value_at p l) (c.values l);
              links =
                  record { value = length-set p.links.value l.0 none ∙ c.shaped.links.value; changed = c.shaped.links.changed };
              workers = c.shaped.workers;
            };
        registers = c.registers;
        last = c.last;
        values = λ m. set_keeps (λ x. x.0 ≤ s.n) none p.links.value l.0 none zero-le (λ j. c.values (record { 0 = j })) m.0;
        logs = c.logs;
        history = c.history;
        makers = c.makers;
        once = c.once;
        marks = c.marks;
        counts =
            λ a h k.
            omega (
              arith,
              count_falls s p c.shaped.records (value_at p l) (c.values l) a h (value-counted a h k),
              c.counts a h k,
              tally-moved (λ m. old_in m [] (view_value p m)) (λ m. old_in m [] (view_value (emptied l p) m)) l (links s) a inside others_stay,
              ap (λ (z : RecordNumber). hit z a) value_before,
              ap (λ (z : RecordNumber). hit z a) value_after,
              ap bit (ne_eqb 0 a.0 (λ z. omega arith)),
            );
      }
