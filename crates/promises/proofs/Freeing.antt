-- Phase 6 keeps the invariant, whether it frees the record that it takes or empties the unchanged links of a record that waits.
-- Why emptying is safe. A record that waits has a link with an entry outstanding: a worker stored to it after the clearing. Yet nobody can reach it any more. Its count
-- is 0, so no view value is it; it is not held; and it has no maker, since a record made since its maker's log was taken is a candidate only if it is held. So
-- nothing keeps it, while every register and every marked link holds none or what is kept: no register holds it, no link has it for its present value or its view
-- value, and no log names it (`passed_unnamed`). A worker comes to a link through a register or through other links alone, so none will ever see what this record's links
-- hold. And no path of view values between kept records goes through it, so that emptying takes nothing away from what is kept. Its changed link stays as it is,
-- with its entry and with the count for its view value, until the next cycle takes the entry.
--     Unkept, Unnamed             a record that nothing keeps, and that nothing names either
--     unkept               it is not kept
--     passed_unnamed                 a record that phase 6 takes is unnamed
--     named_emptied, phased_emptied, unnamed_emptied     one of its links is emptied
--     emptied_through             all that are unchanged are
--     named_freed, phased_freed   it is freed
--     named_closed                the close
-- Assumes nothing.
use Prim.Native.Nat.{ℕ, zero, suc, ◌-◌, ◌≤◌, ◌<◌}
use mathlib.Core.Path.{◌≡◌, refl, sym, ap, ◌∙◌, subst}
use mathlib.Core.Logic.{⊎_elim}
use mathlib.Core.Bool.{Bool, true, false, cond, true≢false}
use mathlib.Core.List.{List, []}
use native.Mathlib.Omega.{arith}
use borrow.Author.Tests.{eq-eqb, not-true}
use lib.ListN.{length, get_or, get_or-eq_default}
use lib.Seq.{get_or-set_other}
use Rattle.rules.specs.declared.Sizes.{Sizes}
use Rattle.rules.specs.declared.RecordNumber.{RecordNumber}
use Rattle.rules.specs.declared.LinkNumber.{LinkNumber}
use Rattle.rules.specs.Size.{links, link_number, board_number}
use Rattle.rules.specs.Pool.{Entry, Pool, none, used_at, held_at, candidate_at, maker_at, value_at, changed_at, registers_at, register_at}
use Rattle.rules.specs.View.{bit, times, old_in, all_logs, look_up, view_value}
use Rattle.rules.specs.Collect.{falls, is_unchanged, emptied, becomes_free, empties, closes}
use Rattle.rules.specs.Sound.{Each, EntryInRange}
use Rattle.laws.proofs.Tests.{eqb_cases, below_or_not, bit_on}
use Rattle.laws.proofs.Number.{record_same, link_inside, link_apart, board_apart}
use Rattle.laws.proofs.Lists.{set_cases, of_record_same, of_record_other, Each-map, Each-map₂}
use Rattle.laws.proofs.Entries.{times_each}
use Rattle.laws.proofs.LookUp.{look_up_each, view_marked, view_unmarked}
use Rattle.laws.proofs.Change.{emptied_has}
use Rattle.laws.proofs.Tally.{tally_here}
use Rattle.laws.proofs.Search.{Passed}
use Rattle.laws.proofs.Marks.{on_some, maker_some, falls_other, closes_candidate}
use Rattle.soundness.proofs.Core.{Core, times_most}
use Rattle.promises.proofs.Invariant.{Used, Kept, by_held, by_maker, by_board, by_view, NoneOrKept, Since, Named, Phased}
use Rattle.promises.proofs.Grow.{free_falls, kept_grows}

-- ---- unkept, unnamed

-- nothing keeps it
pub record Unkept (s : Sizes) (p : Pool) (y : RecordNumber) : Type 0 where
  pub held : held_at p y ≡ false
  pub maker : maker_at p y ≡ 0
  pub view : (l : LinkNumber) → (view_value p l).0 ≡ y.0 → ⊥

pub unkept : {s : Sizes} {p : Pool} {y : RecordNumber} → Unkept s p y → Kept s p y → ⊥
unkept u (by_held h) = true≢false (sym h ∙ u.held)
unkept u (by_maker h) = omega (arith, u.maker)
unkept {s} u (by_board e k x some) = u.view (board_number s e) (ap (λ (b : RecordNumber). b.0) x)
unkept {s} u (by_view {a = a} f x k e some) = u.view (link_number s a f) (ap (λ (b : RecordNumber). b.0) e)

-- and nothing names it
pub record Unnamed (s : Sizes) (p : Pool) (y : RecordNumber) : Type 0 where
  pub unkept : Unkept s p y
  pub register : (w r : ℕ) → (register_at p w r).0 ≡ y.0 → ⊥
  pub value : (l : LinkNumber) → (value_at p l).0 ≡ y.0 → ⊥
  pub log : Each (λ e. e.old.0 ≡ y.0 → ⊥) (all_logs p)
  pub history : Each (λ e. e.old.0 ≡ y.0 → ⊥) p.history

kept_some : {s : Sizes} {p : Pool} {a : RecordNumber} → Kept s p a → 1 ≤ a.0
kept_some {s} {p} (by_held {a = a} h) = on_some p.records.held a.0 h
kept_some {s} {p} (by_maker {a = a} h) = maker_some p a (maker_at p a - 1) (omega arith)
kept_some (by_board e k x some) = some
kept_some (by_view f x k e some) = some

-- ---- what phase 6 takes is unnamed

module _ {s : Sizes} {p : Pool} (c : Core s p [] []) {i : ℕ} (x : Phased s p 6 i) (empty : p.history ≡ []) (y : RecordNumber) (some : 1 ≤ y.0) (low : y.0 ≤ s.n) (pass : Passed p y) where
  -- a link number that is not below S has nothing
  beyond_value : (l : LinkNumber) → links s ≤ l.0 → value_at p l ≡ none
  beyond_value l h = get_or-eq_default p.links.value none (omega (arith, c.shaped.links.value))

  beyond_mark : (l : LinkNumber) → links s ≤ l.0 → changed_at p l ≡ false
  beyond_mark l h = get_or-eq_default p.links.changed false (omega (arith, c.shaped.links.changed))

  -- its count is 0, so no view value is it
  no_view : (l : LinkNumber) → (view_value p l).0 ≡ y.0 → ⊥
  unfolding old_in
  no_view l e = ⊎_elim inside beyond (below_or_not l.0 (links s))
    where
      inside : l.0 < links s → ⊥
      inside h =
          omega (
            arith,
            c.counts y some low,
            pass.count,
            tally_here (λ m. old_in m [] (view_value p m)) l (links s) y h,
            ap bit (eq-eqb (view_value p l).0 y.0 e),
          )

      beyond : links s ≤ l.0 → ⊥
      beyond h = omega (arith, ap (λ (a : RecordNumber). a.0) (view_unmarked p l (beyond_mark l h) ∙ beyond_value l h))

  -- it is a candidate and not held, so it is not made since, and every worker is taken
  no_maker : maker_at p y ≡ 0
  no_maker = by_maker_number (maker_at p y) refl
    where
      by_maker_number : (m : ℕ) → maker_at p y ≡ m → maker_at p y ≡ 0
      by_maker_number zero e = e
      by_maker_number (suc v) e =
          absurd (true≢false (sym ((x.since y v e (omega (arith, c.makers y))).candidate pass.candidate) ∙ pass.held))

  nothing_keeps : Unkept s p y
  nothing_keeps = record { held = pass.held; maker = no_maker; view = no_view }

  is_y : (a : RecordNumber) → a.0 ≡ y.0 → NoneOrKept s p a → ⊥
  is_y a e k = unkept nothing_keeps (subst (Kept s p) (record_same a y e) (k (omega arith)))

  pub passed_unnamed : Unnamed s p y
  unfolding all_logs times
  passed_unnamed =
      record {
        unkept = nothing_keeps;
        register = λ w r e. ⊎_elim (λ h. is_y (register_at p w r) e (x.scanned (omega arith) w r h)) (λ h. no_worker w r h e) (below_or_not w s.w);
        value = λ l e. ⊎_elim (λ h. by_mark_of l h (changed_at p l) refl e) (λ h. omega (arith, ap (λ (a : RecordNumber). a.0) (beyond_value l h))) (below_or_not l.0 (links s));
        log =
            Each-map₂ (all_logs p) (λ e (h : EntryInRange s e × (0 < times e.link (all_logs p))) found z. not-logged e h.0 h.1 found z)
            (Each-map₂ (all_logs p) (λ e (h : EntryInRange s e) (k : 0 < times e.link (all_logs p)). (h, k)) c.logs (times_each [] (all_logs p)))
            (look_up_each p.workers.log (Each-map (all_logs p) (λ e h. times_most c e.link h.link) c.logs));
        history = subst (Each (λ e. e.old.0 ≡ y.0 → ⊥)) (sym empty) tt;
      }
    where
      no_worker : (w r : ℕ) → s.w ≤ w → (register_at p w r).0 ≡ y.0 → ⊥
      no_worker w r h e =
          let beyond : length p.workers.registers ≤ w = omega (arith, c.shaped.workers.registers) in
          let nothing : registers_at p w ≡ [] = get_or-eq_default p.workers.registers [] beyond in
          omega (arith, ap (λ (l : List RecordNumber). (get_or l r none).0) nothing)

      by_mark_of : (l : LinkNumber) → l.0 < links s → (b : Bool) → changed_at p l ≡ b → (value_at p l).0 ≡ y.0 → ⊥
      by_mark_of l h true on e = is_y (value_at p l) e (x.marked (omega arith) l h on)
      by_mark_of l h false off e = no_view l (ap (λ (a : RecordNumber). a.0) (view_unmarked p l off) ∙ e)

      not-logged : (e : Entry) → EntryInRange s e → 0 < times e.link (all_logs p) → look_up e.link p.workers.log ≡ e.old → e.old.0 ≡ y.0 → ⊥
      not-logged e fits stands found z =
          no_view e.link
          (ap (λ (a : RecordNumber). a.0) (view_marked p e.link (bit_on (changed_at p e.link) (omega (arith, c.marks e.link fits.link))) ∙ found) ∙ z)

-- ---- one of its links is emptied

module _ {s : Sizes} {p : Pool} (y : RecordNumber) (some : 1 ≤ y.0) (low : y.0 ≤ s.n) (g : ℕ) (inside : g < s.k) (off : changed_at p (link_number s y g) ≡ false) (unnamed : Unnamed s p y) where
  abbrev l : LinkNumber
  l = link_number s y g

  -- a link's value, and its view value, stay or become none
  value-emptied : (P : RecordNumber → Type 0) (m : LinkNumber) → P none → P (value_at p m) → P (value_at (emptied l p) m)
  unfolding emptied falls
  value-emptied P m nothing h =
      ⊎_elim (λ e. subst P (sym e) h) (λ e. subst P (sym e.1) nothing) (set_cases p.links.value l.0 none m.0 none)

  view_emptied : (P : RecordNumber → Type 0) (m : LinkNumber) → P none → P (view_value p m) → P (view_value (emptied l p) m)
  unfolding emptied falls view_value
  view_emptied P m nothing h = by_mark_of (changed_at p m) h
    where
      by_mark_of : (b : Bool) → P (cond b (look_up m p.workers.log) (value_at p m)) → P (cond b (look_up m p.workers.log) (value_at (emptied l p) m))
      by_mark_of true q = q
      by_mark_of false q = value-emptied P m nothing q

  -- and stay for the links of other records
  view_other : (a : RecordNumber) (f : ℕ) → 1 ≤ a.0 → f < s.k → (a.0 ≡ y.0 → ⊥) → view_value (emptied l p) (link_number s a f) ≡ view_value p (link_number s a f)
  unfolding emptied falls view_value
  view_other a f some-a k n =
      ap (cond (changed_at p (link_number s a f)) (look_up (link_number s a f) p.workers.log))
      (get_or-set_other p.links.value l.0 (link_number s a f).0 none none (λ e. n (link_apart s a y f g some-a some k inside e)))

  -- and for the board entries, which are no record's
  view_board : (e : ℕ) → view_value (emptied l p) (board_number s e) ≡ view_value p (board_number s e)
  unfolding emptied falls view_value
  view_board e =
      ap (cond (changed_at p (board_number s e)) (look_up (board_number s e) p.workers.log))
      (get_or-set_other p.links.value l.0 (board_number s e).0 none none (λ same. board_apart s y g e some low inside (sym same)))

  pub named_emptied : Named s p → Named s (emptied l p)
  unfolding emptied falls all_logs
  named_emptied n =
      record {
        registers = n.registers;
        values = λ m. value-emptied (Used p) m (λ h. absurd (omega arith)) (n.values m);
        logs = n.logs;
        history = n.history;
        free_candidate = free_falls p (value_at p l) (n.values l) n.free_candidate;
        free_maker = n.free_maker;
        free_links = λ a h low-a free f k. value-emptied (λ b. b ≡ none) (link_number s a f) refl (n.free_links a h low-a free f k);
      }

  kept_emptied : {a : RecordNumber} → Kept s p a → Kept s (emptied l p) a
  unfolding emptied falls
  kept_emptied (by_held h) = by_held h
  kept_emptied (by_maker h) = by_maker h
  kept_emptied (by_board e k x some-b) = by_board e k (view_board e ∙ x) some-b
  kept_emptied (by_view {a = a} f x k e some-b) =
      by_view f (kept_emptied x) k
      (view_other a f (kept_some x) k (λ z. unkept unnamed.unkept (subst (Kept s p) (record_same a y z) x)) ∙ e)
      some-b

  since_emptied : {a : RecordNumber} → 1 ≤ a.0 → Since s p 6 a → Since s (emptied l p) 6 a
  unfolding emptied falls
  since_emptied {a} some-a x =
      record {
        candidate =
            λ h.
            ⊎_elim
            (λ e. x.view l (link_inside s y g some low inside) (ap (λ (b : RecordNumber). b.0) (view_unmarked p l off) ∙ e.0))
            (λ e. x.candidate (sym (falls_other (value_at p l) a p e.0) ∙ h))
            (eqb_cases (value_at p l).0 a.0);
        history = x.history;
        value = λ q. absurd (omega arith);
        view = λ m k. view_emptied (λ b. b.0 ≡ a.0 → held_at p a ≡ true) m (λ e. absurd (omega arith)) (x.view m k);
        marked = λ q. absurd (omega arith);
        log = λ q. absurd (omega arith);
      }

  pub phased_emptied : {i : ℕ} → Phased s p 6 i → Phased s (emptied l p) 6 i
  unfolding emptied falls
  phased_emptied x =
      record {
        snoop = x.snoop;
        logged = λ two three. absurd (omega arith);
        since = λ a v e h. since_emptied (maker_some p a v e) (x.since a v e h);
        scanned = λ four v r h some-a. kept_emptied (x.scanned four v r h some-a);
        marked =
            λ four m h e.
            value-emptied (NoneOrKept s (emptied l p)) m (λ z. absurd (omega arith)) (λ some-a. kept_emptied (x.marked four m h e some-a));
      }

  pub unnamed_emptied : Unnamed s (emptied l p) y
  unfolding emptied falls all_logs
  unnamed_emptied =
      record {
        unkept =
            record {
              held = unnamed.unkept.held;
              maker = unnamed.unkept.maker;
              view = λ m. view_emptied (λ b. b.0 ≡ y.0 → ⊥) m (λ e. omega arith) (unnamed.unkept.view m);
            };
        register = unnamed.register;
        value = λ m. value-emptied (λ b. b.0 ≡ y.0 → ⊥) m (λ e. omega arith) (unnamed.value m);
        log = unnamed.log;
        history = unnamed.history;
      }

-- ---- all of its unchanged links are emptied

pub record Emptied (s : Sizes) (y : RecordNumber) (i : ℕ) (p : Pool) : Type 0 where
  pub named : Named s p
  pub phased : Phased s p 6 i
  pub unnamed : Unnamed s p y

pub emptied_through : (s : Sizes) (y : RecordNumber) (i : ℕ) (p : Pool) → 1 ≤ y.0 → y.0 ≤ s.n → Emptied s y i p → Emptied s y i (empties s y p)
unfolding empties emptied falls
emptied_through s y i p some low start =
    (emptied_has (is_unchanged p) s y (λ q. Emptied s y i q × (q.links.changed ≡ p.links.changed)) 0 s.k
    (λ g a b off q x.
    let inside : g < s.k = omega arith in
    let l : LinkNumber = link_number s y g in
    let still-off : changed_at q l ≡ false = ap (λ marks. get_or marks l.0 false) x.1 ∙ not-true (changed_at p l) off in (
      record {
        named = named_emptied y some low g inside still-off x.0.unnamed x.0.named;
        phased = phased_emptied y some low g inside still-off x.0.unnamed x.0.phased;
        unnamed = unnamed_emptied y some low g inside still-off x.0.unnamed;
      },
      x.1,
    ))
    p
    (start, refl)).0

-- ---- it is free

module _ (s : Sizes) (p : Pool) (y : RecordNumber) (some : 1 ≤ y.0) (low_used : y.0 ≤ length p.records.used) (low_candidate : y.0 ≤ length p.records.candidate) {i : ℕ} (x : Emptied s y i p) (none_left : (f : ℕ) → f < s.k → value_at p (link_number s y f) ≡ none) where
  abbrev freed : Pool
  freed = becomes_free y p

  used_other : (a : RecordNumber) → (a.0 ≡ y.0 → ⊥) → used_at freed a ≡ used_at p a
  unfolding becomes_free
  used_other a n = of_record_other p.records.used y.0 a.0 false false (λ e. n (sym e))

  used_stays : (a : RecordNumber) → (a.0 ≡ y.0 → ⊥) → Used p a → Used freed a
  used_stays a n h some-a = used_other a n ∙ h some-a

  -- what holds of the record freed, and of every record that was free before, holds of every free record
  by_free : (P : RecordNumber → Type 0) → P y → (a : RecordNumber) → ((a.0 ≡ y.0 → ⊥) → used_at p a ≡ false → P a) → used_at freed a ≡ false → P a
  by_free P here a there h =
      ⊎_elim
      (λ e. subst P (sym (record_same a y e.0)) here)
      (λ e. there e.0 (sym (used_other a e.0) ∙ h))
      (eqb_cases a.0 y.0)

  pub named_freed : Named s freed
  unfolding becomes_free all_logs
  named_freed =
      record {
        registers = λ w r. used_stays (register_at p w r) (x.unnamed.register w r) (x.named.registers w r);
        values = λ l. used_stays (value_at p l) (x.unnamed.value l) (x.named.values l);
        logs = Each-map₂ (all_logs p) (λ e n h. used_stays e.old n h) x.unnamed.log x.named.logs;
        history = Each-map₂ p.history (λ e n h. used_stays e.old n h) x.unnamed.history x.named.history;
        free_candidate =
            λ a.
            by_free (λ b. candidate_at freed b ≡ false) (of_record_same p.records.candidate y.0 false false some low_candidate) a
            (λ n h. of_record_other p.records.candidate y.0 a.0 false false (λ e. n (sym e)) ∙ x.named.free_candidate a h);
        free_maker = λ a. by_free (λ b. maker_at p b ≡ 0) x.unnamed.unkept.maker a (λ n h. x.named.free_maker a h);
        free_links =
            λ a some-a low-a free f k.
            by_free (λ b. value_at p (link_number s b f) ≡ none) (none_left f k) a (λ n h. x.named.free_links a some-a low-a h f k) free;
      }

  pub phased_freed : Phased s freed 6 i
  unfolding becomes_free view_value
  phased_freed =
      record {
        snoop = x.phased.snoop;
        logged = λ two three. absurd (omega arith);
        since = λ a v e h. since_freed a v e (x.phased.since a v e h);
        scanned = λ four v r h some-a. grow (x.phased.scanned four v r h some-a);
        marked = λ four m h e some-a. grow (x.phased.marked four m h e some-a);
      }
    where
      grow : {a : RecordNumber} → Kept s p a → Kept s freed a
      grow z = kept_grows p freed (λ b h. h) (λ b h. h) (λ m. refl) z

      since_freed : (a : RecordNumber) (v : ℕ) → maker_at p a ≡ suc v → Since s p 6 a → Since s freed 6 a
      since_freed a v e z =
          record {
            candidate =
                λ h.
                ⊎_elim
                (λ q. absurd (omega (arith, ap (λ (b : RecordNumber). maker_at p b) (record_same a y q.0), x.unnamed.unkept.maker)))
                (λ q. z.candidate (sym (of_record_other p.records.candidate y.0 a.0 false false (λ t. q.0 (sym t))) ∙ h))
                (eqb_cases a.0 y.0);
            history = z.history;
            value = λ q. absurd (omega arith);
            view = z.view;
            marked = λ q. absurd (omega arith);
            log = λ q. absurd (omega arith);
          }

-- ---- the close

pub named_closed : {s : Sizes} {p : Pool} → length p.records.candidate ≡ length p.records.count → Named s p → Named s (closes p)
unfolding closes all_logs
named_closed {s} {p} h n =
    record {
      registers = n.registers;
      values = n.values;
      logs = n.logs;
      history = n.history;
      free_candidate = λ a free. closes_candidate p h a (n.free_candidate a free);
      free_maker = n.free_maker;
      free_links = n.free_links;
    }
