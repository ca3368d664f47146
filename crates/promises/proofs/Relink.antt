-- A link takes a record number: store and post keep the invariant.
--     relinked                            a pool with other links and logs
--     Relinked                            what is done to them: one link takes a record number and is marked, and at most one entry is logged
--     named_relinked, phased_relinked     the invariant
--     relinked_held                       the same of a pool with other held marks
--     stored_marked, stored_unmarked      a store is such a change, whether the link was marked or not
-- Assumes nothing.
use Prim.Native.Nat.{ℕ, zero, suc, ◌≤◌, ◌<◌}
use mathlib.Core.Path.{◌≡◌, refl, sym, ap, ◌∙◌, subst}
use mathlib.Core.Logic.{⊎_elim}
use mathlib.Core.Bool.{Bool, true, false, true≢false}
use mathlib.Core.List.{List, [], ◌∷◌, ◌++◌, flatten}
use native.Mathlib.Omega.{arith}
use lib.ListN.{get_or}
use lib.Seq.{get_or-set_same, get_or-set_other}
use Rattle.rules.specs.declared.Sizes.{Sizes}
use Rattle.rules.specs.declared.RecordNumber.{RecordNumber}
use Rattle.rules.specs.declared.LinkNumber.{LinkNumber}
use Rattle.rules.specs.Size.{links, link_number}
use Rattle.rules.specs.Pool.{Entry, Links, Pool, none, used_at, held_at, value_at, changed_at, log_at, with_held, with_value}
use Rattle.rules.specs.View.{all_logs, view_value}
use Rattle.rules.specs.Worker.{added}
use Rattle.rules.specs.Sound.{Each}
use Rattle.laws.proofs.Tests.{eqb_cases}
use Rattle.laws.proofs.Number.{record_same, link_same}
use Rattle.laws.proofs.Lists.{set_cases, Each-append, Each-flatten, Each-flatten-set, Each-map}
use Rattle.laws.proofs.Marks.{maker_some}
use Rattle.soundness.proofs.Core.{Core}
use Rattle.soundness.proofs.Store.{view_value_lem, view_after}
use Rattle.promises.proofs.Invariant.{Used, Held, Kept, NoneOrKept, Since, Named, Phased, taken_below}
use Rattle.promises.proofs.Grow.{kept_grows}

abbrev pub relinked : Pool → Links → List (List Entry) → Pool
relinked p ls logs =
    record {
      records = p.records;
      links = ls;
      workers = record { registers = p.workers.registers; snoop = p.workers.snoop; log = logs };
      last = p.last;
      history = p.history;
      collector = p.collector;
    }

abbrev pub entry_of : Pool → LinkNumber → Entry
entry_of p l = record { link = l; old = value_at p l }

pub record Relinked (p : Pool) (l : LinkNumber) (x : RecordNumber) (ls : Links) (logs : List (List Entry)) : Type 1 where
  pub value_here : get_or ls.value l.0 none ≡ x
  pub value_there : (m : LinkNumber) → (m.0 ≡ l.0 → ⊥) → get_or ls.value m.0 none ≡ value_at p m
  pub changed_here : get_or ls.changed l.0 false ≡ true
  pub changed_there : (m : LinkNumber) → (m.0 ≡ l.0 → ⊥) → get_or ls.changed m.0 false ≡ changed_at p m
  pub view : (m : LinkNumber) → view_value (relinked p ls logs) m ≡ view_value p m
  pub all : (P : Entry → Type 0) → Each P (all_logs p) → (changed_at p l ≡ false → P (entry_of p l)) → Each P (flatten logs)
  pub each : (w : ℕ) (P : Entry → Type 0) → Each P (log_at p w) → P (entry_of p l) → Each P (get_or logs w [])

-- a worker whose log was taken: the phase is 2 or later
pub taken_late : (s : Sizes) (k i v : ℕ) → v < taken_below s k i → 2 ≤ k
taken_late s zero i v h = absurd (omega arith)
taken_late s (suc zero) i v h = absurd (omega arith)
taken_late s (suc (suc k)) i v h = omega arith

module _ (s : Sizes) {p : Pool} {ls : Links} {logs : List (List Entry)} (l : LinkNumber) (x : RecordNumber) (c : Relinked p l x ls logs) where
  abbrev q : Pool
  q = relinked p ls logs

  -- what a link holds after the store
  by_link : (P : RecordNumber → Type 0) (m : LinkNumber) → (m.0 ≡ l.0 → P x) → ((m.0 ≡ l.0 → ⊥) → P (value_at p m)) → P (value_at q m)
  by_link P m here there =
      ⊎_elim
      (λ e. subst P (sym (ap (λ (i : LinkNumber). value_at q i) (link_same m l e.0) ∙ c.value_here)) (here e.0))
      (λ e. subst P (sym (c.value_there m e.0)) (there e.0))
      (eqb_cases m.0 l.0)

  changed_grows : (m : LinkNumber) → changed_at p m ≡ true → changed_at q m ≡ true
  changed_grows m h =
      ⊎_elim
      (λ e. ap (λ (i : LinkNumber). changed_at q i) (link_same m l e.0) ∙ c.changed_here)
      (λ e. c.changed_there m e.0 ∙ h)
      (eqb_cases m.0 l.0)

  -- the link is no free record's
  pub named_relinked : ((b : RecordNumber) → 1 ≤ b.0 → b.0 ≤ s.n → used_at p b ≡ false → (g : ℕ) → g < s.k → (link_number s b g).0 ≡ l.0 → ⊥) → Used p x → Named s p → Named s q
  unfolding all_logs
  named_relinked other fits n =
      record {
        registers = n.registers;
        values = λ m. by_link (Used p) m (λ z. fits) (λ z. n.values m);
        logs = c.all (λ y. Used p y.old) n.logs (λ off. n.values l);
        history = n.history;
        free_candidate = n.free_candidate;
        free_maker = n.free_maker;
        free_links = λ b h low free g kg. c.value_there (link_number s b g) (other b h low free g kg) ∙ n.free_links b h low free g kg;
      }

  kept_relinked : {b : RecordNumber} → Kept s p b → Kept s q b
  kept_relinked y = kept_grows p q (λ b h. h) (λ b h. h) c.view y

  since_relinked : {k : ℕ} {b : RecordNumber} → (k ≤ 3 → Held p x) → 1 ≤ b.0 → Since s p k b → Since s q k b
  unfolding all_logs
  since_relinked {k} {b} held_x some y =
      record {
        candidate = y.candidate;
        history = y.history;
        value =
            λ late m. by_link (λ a. a.0 ≡ b.0 → held_at p b ≡ true) m
            (λ z e. ap (λ (a : RecordNumber). held_at p a) (sym (record_same x b e)) ∙ held_x late (omega arith))
            (λ z. y.value late m);
        view = λ m h e. y.view m h (ap (λ (a : RecordNumber). a.0) (sym (c.view m)) ∙ e);
        marked =
            λ two m.
            by_link_mark m
            (λ e h. ap (λ (i : LinkNumber). changed_at q i) (link_same m l e) ∙ c.changed_here)
            (λ n h. changed_grows m (y.marked two m (sym (ap (λ (a : RecordNumber). a.0) (c.value_there m n)) ∙ h)));
        log = λ two. c.all (λ e. e.old.0 ≡ b.0 → ⊥) (y.log two) (λ off e. true≢false (sym (y.marked two l e) ∙ off));
      }
    where
      by_link_mark : (m : LinkNumber)
          → (m.0 ≡ l.0 → (value_at q m).0 ≡ b.0 → changed_at q m ≡ true)
          → ((m.0 ≡ l.0 → ⊥) → (value_at q m).0 ≡ b.0 → changed_at q m ≡ true)
          → (value_at q m).0 ≡ b.0 → changed_at q m ≡ true
      by_link_mark m here there = ⊎_elim (λ e. here e.0) (λ e. there e.0) (eqb_cases m.0 l.0)

  pub phased_relinked : {k i : ℕ} → (2 ≤ k → k ≤ 3 → Held p x) → (4 ≤ k → NoneOrKept s p x) → Phased s p k i → Phased s q k i
  phased_relinked {k} {i} held_x kept-x y =
      record {
        snoop = y.snoop;
        logged =
            λ two three w h.
            c.each w (λ e. Held p (value_at q e.link))
            (Each-map (log_at p w) (λ e g. by_link (Held p) e.link (λ z. held_x two three) (λ z. g)) (y.logged two three w h))
            (by_link (Held p) l (λ z. held_x two three) (λ z. absurd (z refl)));
        since = λ b v e h. since_relinked (held_x (taken_late s k i v h)) (maker_some p b v e) (y.since b v e h);
        scanned = λ four v r h some. kept_relinked (y.scanned four v r h some);
        marked = by_link_mark;
      }
    where
      by_link_mark : 4 ≤ k → (m : LinkNumber) → m.0 < links s → changed_at q m ≡ true → NoneOrKept s q (value_at q m)
      by_link_mark four m h on =
          ⊎_elim
          (λ e. subst (NoneOrKept s q) (sym (ap (λ (j : LinkNumber). value_at q j) (link_same m l e.0) ∙ c.value_here)) (λ some. kept_relinked (kept-x four some)))
          (λ e. subst (NoneOrKept s q) (sym (c.value_there m e.0)) (λ some. kept_relinked (y.marked four m h (sym (c.changed_there m e.0) ∙ on) some)))
          (eqb_cases m.0 l.0)

-- ---- a store is such a change

module _ {s : Sizes} {p : Pool} {clear count : List Entry} (c : Core s p clear count) (l : LinkNumber) (x : RecordNumber) (low : x.0 ≤ s.n) (inside : l.0 < links s) where
  pub stored_marked : changed_at p l ≡ true → Relinked p l x (with_value l x p).links p.workers.log
  unfolding all_logs
  stored_marked on =
      record {
        value_here = get_or-set_same p.links.value l.0 x none (omega (arith, c.shaped.links.value));
        value_there = λ m n. get_or-set_other p.links.value l.0 m.0 x none n;
        changed_here = on;
        changed_there = λ m n. refl;
        view = λ m. sym (view_value_lem c l x low on m);
        all = λ P h e. h;
        each = λ w P h e. h;
      }

  module _ (w : ℕ) (worker : w < s.w) (off : changed_at p l ≡ false) where
    pub stored_unmarked : Relinked p l x (with_value l x (added w l p)).links (added w l p).workers.log
    unfolding added all_logs
    stored_unmarked =
        record {
          value_here = get_or-set_same p.links.value l.0 x none (omega (arith, c.shaped.links.value));
          value_there = λ m n. get_or-set_other p.links.value l.0 m.0 x none n;
          changed_here = get_or-set_same p.links.changed l.0 true false (omega (arith, c.shaped.links.changed));
          changed_there = λ m n. get_or-set_other p.links.changed l.0 m.0 true false n;
          view = λ m. sym (view_after c l x low inside off w worker m);
          all =
              λ P h e.
              Each-flatten-set P p.workers.log w (log_at p w ++ (entry_of p l ∷ [])) h
              (Each-append P (log_at p w) (entry_of p l ∷ []) (Each-flatten P p.workers.log w h) (e off, tt));
          each =
              λ v P h e.
              ⊎_elim
              (λ z. subst (Each P) (sym z) h)
              (λ z.
              subst (Each P) (sym z.1)
              (Each-append P (log_at p w) (entry_of p l ∷ []) (subst (λ (u : ℕ). Each P (log_at p u)) z.0 h) (e, tt)))
              (set_cases p.workers.log w (log_at p w ++ (entry_of p l ∷ [])) v []);
        }

-- held marks do not matter to it
pub relinked_held : {p : Pool} {l : LinkNumber} {x : RecordNumber} {ls : Links} {logs : List (List Entry)} (held : List Bool) → Relinked p l x ls logs → Relinked (with_held held p) l x ls logs
unfolding view_value all_logs
relinked_held held c =
    record {
      value_here = c.value_here;
      value_there = c.value_there;
      changed_here = c.changed_here;
      changed_there = c.changed_there;
      view = c.view;
      all = c.all;
      each = c.each;
    }
