-- The steps of phases 0 to 5 keep the invariant.
--     phased_none         a phase in which no worker is taken yet asks for the snoop flags alone
--     phased_opened       phase 0
--     snooped_flags       phase 1: the flags
--     named_taken, logs_taken, phased_taken     phase 2
--     named_cleared, phased_cleared     phase 3
--     marked_kept         where phase 4 begins every marked link holds none or a held record
--     scanned_flags, phased_scanned     phase 4
--     named_counted, phased_counted     phase 5
-- Assumes nothing.
use Prim.Native.Nat.{ℕ, suc, ◌+◌, ◌≤◌, ◌<◌, zero-le}
use mathlib.Core.Path.{◌≡◌, refl, sym, ap, ◌∙◌, subst}
use mathlib.Core.Logic.{⊎_elim}
use mathlib.Core.Bool.{Bool, true, false, cond}
use mathlib.Core.List.{List, [], ◌++◌}
use native.Mathlib.Omega.{arith}
use native.Mathlib.Nat.{eq-zero-or-pos}
use borrow.Author.Tests.{ltb-true, ltb-false, leb-true, leb-false, lt-ltb, le-ltb, le-leb, lt-leb}
use lib.Dec.{ltb, leb}
use lib.ListN.{length, set}
use lib.Seq.{get_or-set_same, get_or-set_other}
use Rattle.rules.specs.declared.Sizes.{Sizes}
use Rattle.rules.specs.declared.RecordNumber.{RecordNumber}
use Rattle.rules.specs.declared.LinkNumber.{LinkNumber}
use Rattle.rules.specs.Size.{links}
use Rattle.rules.specs.Pool.{Entry, Pool, none, used_at, held_at, maker_at, value_at, changed_at, registers_at, register_at, snoops_at, log_at, with_held, with_changed, with_snoop, with_log, with_history}
use Rattle.rules.specs.View.{bit, times, all_logs, look_up, view_value}
use Rattle.rules.specs.Collect.{made_by, held_by, falls, rises, counted}
use Rattle.rules.specs.Sound.{Each}
use Rattle.laws.proofs.Tests.{eqb_cases}
use Rattle.laws.proofs.Number.{link_same}
use Rattle.laws.proofs.Lists.{set_next, Each-append, Each-all, Each-flatten, Each-flatten-set}
use Rattle.laws.proofs.Entries.{Each-link}
use Rattle.laws.proofs.LookUp.{times_logs, look_up_absent, look_up_without, view_unmarked}
use Rattle.laws.proofs.Marks.{maker_some, made_own, made_other, made_candidate, held_by_grows, held_by_each, falls_other}
use Rattle.soundness.proofs.Core.{Core, times_most}
use Rattle.promises.proofs.Invariant.{Used, Held, Kept, by_held, NoneOrKept, Since, Named, Phased, taken_below, scanned_below, snoops_in}
use Rattle.promises.proofs.Grow.{free_falls, kept_grows, since_raised, kept_raised}

-- ---- phases 0 and 1

pub phased_none : {s : Sizes} {p : Pool} (k i : ℕ) → k ≤ 2 → taken_below s k i ≡ 0 → ((w : ℕ) → w < s.w → snoops_at p w ≡ snoops_in k i w) → Phased s p k i
phased_none k i early none-taken flags =
    record {
      snoop = flags;
      logged = λ two three w h. absurd (omega arith);
      since = λ a w e h. absurd (omega arith);
      scanned = λ four w r h. absurd (omega arith);
      marked = λ four l h e. absurd (omega arith);
    }

-- the flag of the worker at the position is written, where the flags are those of a test of the position
flag_written : (p : Pool) (i w : ℕ) (x : Bool) (test : ℕ → ℕ → Bool) → i < length p.workers.snoop → test (suc i) i ≡ x
    → ((w ≡ i → ⊥) → test i w ≡ test (suc i) w)
    → snoops_at p w ≡ test i w → snoops_at (with_snoop i x p) w ≡ test (suc i) w
flag_written p i w x test inside here there flag =
    ⊎_elim
    (λ e. ap (λ (v : ℕ). snoops_at (with_snoop i x p) v) e.0 ∙ get_or-set_same p.workers.snoop i x false inside ∙ sym (ap (test (suc i)) e.0 ∙ here))
    (λ e. get_or-set_other p.workers.snoop i w x false e.0 ∙ flag ∙ there e.0)
    (eqb_cases w i)

module _ {s : Sizes} {p : Pool} (i : ℕ) where
  pub phased_opened : Phased s p 0 i → Phased s p 1 0
  phased_opened x = phased_none 1 0 (omega arith) refl (λ w h. x.snoop w h ∙ sym (le-ltb w 0 zero-le))

  -- the flag of the worker at the position goes on
  pub snooped_flags : i < length p.workers.snoop → Phased s p 1 i → (w : ℕ) → w < s.w → snoops_at (with_snoop i true p) w ≡ ltb w (suc i)
  snooped_flags inside x w h =
      flag_written p i w true (λ j v. ltb v j) inside (lt-ltb i (suc i) (omega arith)) (λ n. by_test n (ltb w i) refl) (x.snoop w h)
    where
      by_test : (w ≡ i → ⊥) → (b : Bool) → ltb w i ≡ b → b ≡ ltb w (suc i)
      by_test n true e = let k = ltb-true w i e in sym (lt-ltb w (suc i) (omega arith))
      by_test n false e = let k = ltb-false w i e in sym (le-ltb w (suc i) (omega arith))

-- ---- phase 2

module _ {s : Sizes} {p : Pool} {clear count : List Entry} (c : Core s p clear count) (w : ℕ) (worker : w < s.w) where
  abbrev taken : Pool
  taken = made_by w (with_log w [] (with_history (p.history ++ log_at p w) p))

  same_length : length p.records.maker ≡ length p.records.candidate
  same_length = c.shaped.records.maker ∙ sym c.shaped.records.candidate

  abbrev emptied_log : Pool
  emptied_log = with_log w [] (with_history (p.history ++ log_at p w) p)

  pub named_taken : Named s p → Named s taken
  unfolding all_logs made_by
  named_taken n =
      record {
        registers = n.registers;
        values = n.values;
        logs = Each-flatten-set (λ e. Used p e.old) p.workers.log w [] n.logs tt;
        history =
            Each-append (λ e. Used p e.old) p.history (log_at p w) n.history (Each-flatten (λ e. Used p e.old) p.workers.log w n.logs);
        free_candidate = λ a h. made_candidate w emptied_log same_length a (no_maker a h) ∙ n.free_candidate a h;
        free_maker = λ a h. made_other w emptied_log a (no_maker a h) ∙ n.free_maker a h;
        free_links = n.free_links;
      }
    where
      no_maker : (a : RecordNumber) → used_at p a ≡ false → maker_at p a ≡ w + 1 → ⊥
      no_maker a h e = omega (arith, n.free_maker a h)

  -- a link's view value stays, or becomes none where its entry is taken
  view_taken : (P : RecordNumber → Type 0) → P none → (l : LinkNumber) → l.0 < links s → P (view_value p l) → P (view_value taken l)
  unfolding view_value all_logs made_by times
  view_taken P nothing l k h = by_mark (changed_at p l) h
    where
      looked : P (look_up l p.workers.log) → P (look_up l (set p.workers.log w []))
      looked q =
          ⊎_elim
          (λ z. subst P (sym (look_up_without l p.workers.log w there z)) q)
          (λ (z : 0 < times l (log_at p w)). subst P (sym (look_up_absent l (set p.workers.log w []) (omega (arith, times_logs l p.workers.log w there [], times_most c l k)))) nothing)
          (eq-zero-or-pos (times l (log_at p w)))
        where
          there : w < length p.workers.log
          there = omega (arith, c.shaped.workers.log)

      by_mark : (b : Bool) → P (cond b (look_up l p.workers.log) (value_at p l)) → P (cond b (look_up l (set p.workers.log w [])) (value_at p l))
      by_mark true q = looked q
      by_mark false q = q

  since_taken : {k : ℕ} {a : RecordNumber} → 1 ≤ a.0 → (maker_at p a ≡ w + 1 → ⊥) → Since s p 2 a → Since s taken k a
  unfolding all_logs made_by
  since_taken {k} {a} some n y =
      record {
        candidate = λ h. y.candidate (sym (made_candidate w emptied_log same_length a n) ∙ h);
        history =
            Each-append (λ e. e.old.0 ≡ a.0 → ⊥) p.history (log_at p w) y.history
            (Each-flatten (λ e. e.old.0 ≡ a.0 → ⊥) p.workers.log w (y.log refl));
        value = λ q l h. y.value (omega arith) l h;
        view = λ l q. view_taken (λ b. b.0 ≡ a.0 → held_at p a ≡ true) (λ e. absurd (omega arith)) l q (y.view l q);
        marked = λ q. y.marked refl;
        log = λ q. Each-flatten-set (λ e. e.old.0 ≡ a.0 → ⊥) p.workers.log w [] (y.log refl) tt;
      }

  -- the links of all logs that were taken before, and of the one that is taken now
  pub logs_taken : Phased s p 2 w → (v : ℕ) → v < suc w → Each (λ e. Held p (value_at p e.link)) (log_at taken v)
  unfolding made_by
  logs_taken x =
      set_next (Each (λ e. Held p (value_at p e.link))) [] p.workers.log w [] (omega (arith, c.shaped.workers.log)) tt (x.logged (omega arith) (omega arith))

  pub phased_taken : (k i : ℕ) → taken_below s k i ≤ suc w → scanned_below s k i ≡ 0
      → ((v : ℕ) → v < s.w → true ≡ snoops_in k i v)
      → (4 ≤ k → (l : LinkNumber) → l.0 < links s → changed_at taken l ≡ true → NoneOrKept s taken (value_at taken l))
      → Phased s p 2 w → Phased s taken k i
  unfolding made_by
  phased_taken k i below none-scanned flags kept x =
      record {
        snoop = λ v h. x.snoop v h ∙ flags v h;
        logged = λ two three v h. logs_taken x v (omega arith);
        since = λ a v e h. by_maker a v e h;
        scanned = λ four v r h. absurd (omega arith);
        marked = kept;
      }
    where
      by_maker : (a : RecordNumber) (v : ℕ) → maker_at taken a ≡ suc v → v < taken_below s k i → Since s taken k a
      by_maker a v e h =
          ⊎_elim
          (λ z. absurd (omega (arith, made_own w emptied_log a z.0)))
          (λ z.
          let same : maker_at p a ≡ suc v = sym (made_other w emptied_log a z.0) ∙ e in
          since_taken (maker_some p a v same) z.0 (x.since a v same (let n = z.0 in omega arith)))
          (eqb_cases (maker_at p a) (w + 1))

-- ---- where phase 4 begins

-- a marked link stands in a log, and what stands in a log holds none or a held record
pub marked_kept : {s : Sizes} {p : Pool} {count : List Entry} → Core s p [] count
    → ((w : ℕ) → w < s.w → Each (λ e. Held p (value_at p e.link)) (log_at p w))
    → (l : LinkNumber) → l.0 < links s → changed_at p l ≡ true → NoneOrKept s p (value_at p l)
unfolding all_logs times
marked_kept {s} {p} c logs l h on some =
    by_held
    (Each-link (λ m. Held p (value_at p m)) l (all_logs p)
    (Each-all (λ e. Held p (value_at p e.link)) p.workers.log (λ w k. logs w (omega (arith, c.shaped.workers.log))))
    (omega (arith, c.marks l h, ap bit on))
    some)

-- ---- phase 3

module _ {s : Sizes} {p : Pool} {clear count : List Entry} (c : Core s p clear count) (m : LinkNumber) (inside : m.0 < links s) where
  abbrev cleared : Pool
  cleared = with_changed m false p

  pub named_cleared : Named s p → Named s cleared
  unfolding all_logs
  named_cleared n =
      record {
        registers = n.registers;
        values = n.values;
        logs = n.logs;
        history = n.history;
        free_candidate = n.free_candidate;
        free_maker = n.free_maker;
        free_links = n.free_links;
      }

  -- the view value of the link that is cleared becomes its present value, and the others stay
  view_cleared : (P : RecordNumber → Type 0) (l : LinkNumber) → P (value_at p l) → P (view_value p l) → P (view_value cleared l)
  unfolding view_value
  view_cleared P l here there =
      ⊎_elim
      (λ e. subst P (sym (view_unmarked cleared l (off e.0))) here)
      (λ e. subst P (ap (λ b. cond b (look_up l p.workers.log) (value_at p l)) (sym (get_or-set_other p.links.changed m.0 l.0 false false e.0))) there)
      (eqb_cases l.0 m.0)
    where
      off : l.0 ≡ m.0 → changed_at cleared l ≡ false
      off e =
          ap (λ (i : LinkNumber). changed_at cleared i) (link_same l m e)
          ∙ get_or-set_same p.links.changed m.0 false false (omega (arith, c.shaped.links.changed))

  since_cleared : {k : ℕ} {a : RecordNumber} → (k ≡ 2 → ⊥) → Since s p 3 a → Since s cleared k a
  since_cleared {k} {a} late y =
      record {
        candidate = y.candidate;
        history = y.history;
        value = λ q. y.value (omega arith);
        view = λ l q. view_cleared (λ b. b.0 ≡ a.0 → held_at p a ≡ true) l (y.value (omega arith) l) (y.view l q);
        marked = λ q. absurd (late q);
        log = λ q. absurd (late q);
      }

  pub phased_cleared : {i : ℕ} (k j : ℕ) → 3 ≤ k → taken_below s k j ≤ s.w → scanned_below s k j ≡ 0
      → ((v : ℕ) → v < s.w → true ≡ snoops_in k j v)
      → (4 ≤ k → (l : LinkNumber) → l.0 < links s → changed_at cleared l ≡ true → NoneOrKept s cleared (value_at cleared l))
      → Phased s p 3 i → Phased s cleared k j
  phased_cleared {i} k j late below none-scanned flags kept x =
      record {
        snoop = λ v h. x.snoop v h ∙ flags v h;
        logged = λ two three v h. x.logged (omega arith) (omega arith) v (omega arith);
        since = λ a v e h. since_cleared (λ z. omega arith) (x.since a v e (omega arith));
        scanned = λ four v r h. absurd (omega arith);
        marked = kept;
      }

-- ---- phase 4

module _ {s : Sizes} {p : Pool} {clear count : List Entry} (c : Core s p clear count) (i : ℕ) (worker : i < s.w) where
  abbrev scanned : Pool
  scanned = with_held (held_by (registers_at p i) p.records.held) (with_snoop i false p)

  held_grows : (a : RecordNumber) → held_at p a ≡ true → held_at scanned a ≡ true
  held_grows a h = held_by_grows (registers_at p i) p.records.held a.0 h

  -- the flag of the worker at the position goes off
  pub scanned_flags : Phased s p 4 i → (w : ℕ) → w < s.w → snoops_at scanned w ≡ leb (suc i) w
  scanned_flags x w h =
      flag_written p i w false leb (omega (arith, c.shaped.workers.snoop)) (lt-leb (suc i) i (omega arith)) (λ n. by_test n (leb i w) refl) (x.snoop w h)
    where
      by_test : (w ≡ i → ⊥) → (b : Bool) → leb i w ≡ b → b ≡ leb (suc i) w
      by_test n true e = let k = leb-true i w e in sym (le-leb (suc i) w (omega arith))
      by_test n false e = let k = leb-false i w e in sym (lt-leb (suc i) w (omega arith))

  pub phased_scanned : (k j : ℕ) → 4 ≤ k → taken_below s k j ≤ s.w → scanned_below s k j ≤ suc i
      → ((v : ℕ) → v < s.w → snoops_at scanned v ≡ snoops_in k j v)
      → Phased s p 4 i → Phased s scanned k j
  phased_scanned k j late below next flags x =
      record {
        snoop = flags;
        logged = λ two three v h. absurd (omega arith);
        since = λ a v e h. since_late (since_raised p.records.count scanned.records.held scanned.workers.snoop p.collector held_grows (x.since a v e (omega arith)));
        scanned = λ four v r h some. by_worker v r h some;
        marked = λ four l h e some. grow (x.marked (omega arith) l h e some);
      }
    where
      grow : {a : RecordNumber} → Kept s p a → Kept s scanned a
      grow y = kept_raised p.records.count scanned.records.held scanned.workers.snoop p.collector held_grows y

      since_late : {a : RecordNumber} → Since s scanned 4 a → Since s scanned k a
      since_late y =
          record {
            candidate = y.candidate;
            history = y.history;
            value = λ q. absurd (omega arith);
            view = y.view;
            marked = λ q. absurd (omega arith);
            log = λ q. absurd (omega arith);
          }

      by_worker : (v r : ℕ) → v < scanned_below s k j → NoneOrKept s scanned (register_at p v r)
      by_worker v r h some =
          ⊎_elim
          (λ e.
          by_held
          (subst (λ (u : ℕ). held_at scanned (register_at p u r) ≡ true) (sym e.0)
          (held_by_each (registers_at p i) p.records.held r (subst (λ (u : ℕ). 1 ≤ (register_at p u r).0) e.0 some) (omega (arith, c.registers i r, c.shaped.records.held)))))
          (λ e. grow (x.scanned (omega arith) v r (let n = e.0 in omega arith) some))
          (eqb_cases v i)

-- ---- phase 5

module _ (s : Sizes) (p : Pool) (e : Entry) (history : List Entry) (less : (P : Entry → Type 0) → Each P p.history → Each P history) where
  abbrev counting : Pool
  counting = with_history history (counted e p)

  pub named_counted : Used p e.old → Named s p → Named s counting
  unfolding all_logs counted falls rises
  named_counted used n =
      record {
        registers = n.registers;
        values = n.values;
        logs = n.logs;
        history = less (λ y. Used p y.old) n.history;
        free_candidate = free_falls p e.old used n.free_candidate;
        free_maker = n.free_maker;
        free_links = n.free_links;
      }

  pub phased_counted : {i : ℕ} (k j : ℕ) → 5 ≤ k → taken_below s k j ≤ s.w → scanned_below s k j ≤ s.w
      → ((v : ℕ) → v < s.w → false ≡ snoops_in k j v)
      → ((P : Entry → Type 0) → Each P p.history → P e)
      → Phased s p 5 i → Phased s counting k j
  unfolding counted falls rises all_logs view_value
  phased_counted {i} k j late below scan flags here x =
      record {
        snoop = λ v h. x.snoop v h ∙ flags v h;
        logged = λ two three v h. absurd (omega arith);
        since = λ a v f h. since_counted (x.since a v f (omega arith));
        scanned = λ four v r h some. grow (x.scanned (omega arith) v r (omega arith) some);
        marked = λ four l h f some. grow (x.marked (omega arith) l h f some);
      }
    where
      grow : {a : RecordNumber} → Kept s p a → Kept s counting a
      grow y = kept_grows p counting (λ b h. h) (λ b h. h) (λ l. refl) y

      since_counted : {a : RecordNumber} → Since s p 5 a → Since s counting k a
      since_counted {a} y =
          record {
            candidate = λ h. y.candidate (sym (falls_other e.old a p (here (λ z. z.old.0 ≡ a.0 → ⊥) y.history)) ∙ h);
            history = less (λ z. z.old.0 ≡ a.0 → ⊥) y.history;
            value = λ q. absurd (omega arith);
            view = y.view;
            marked = λ q. absurd (omega arith);
            log = λ q. absurd (omega arith);
          }
