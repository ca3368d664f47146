-- What an event leaves as it was.
--     logged_keeps    what adding an entry to a log leaves, logging leaves
--     stored_has      what holds of the pool that a link's taking a value leaves, whether it is logged and snooped or not: a store, a post
--     emptied_has, emptied_keeps     what emptying one link keeps, emptying some links of a record keeps
--     emptied_same                   it goes by which of the record's links are to be emptied, and by nothing else
--     emptied_values, emptied_other, emptied-none     and each link then holds what it held, or none: none if it is one of these, else what it held
--     Unmoved, empties_unmoved       so emptying the unchanged links of a record leaves the collector's record, history, workers and changed marks
-- Assumes nothing.
use Prim.Native.Nat.{ℕ, zero, suc, ◌+◌, ◌≤◌, ◌<◌}
use mathlib.Core.Path.{◌≡◌, refl, sym, ap, ◌∙◌}
use mathlib.Core.Logic.{◌⊎◌, inl, inr, ⊎_elim}
use mathlib.Core.Bool.{Bool, true, false, cond, not, true≢false}
use native.Mathlib.Omega.{arith}
use native.Mathlib.Nat.{eq-or-lt_of_le}
use lib.ListN.{length, length-set}
use lib.Seq.{get_or-set_same, get_or-set_other}
use Rattle.rules.specs.declared.Sizes.{Sizes}
use Rattle.rules.specs.declared.RecordNumber.{RecordNumber}
use Rattle.rules.specs.declared.LinkNumber.{LinkNumber}
use Rattle.rules.specs.Size.{link_number}
use Rattle.rules.specs.Pool.{Pool, none, with_record, value_at, changed_at, register_at, snoops_at, with_held, with_value}
use Rattle.rules.specs.Worker.{must_log, added, logged, snooped, link_takes}
use Rattle.rules.specs.Collect.{falls, is_unchanged, emptied, emptied_from, empties}
use Rattle.laws.proofs.Number.{link_same}
use Rattle.laws.proofs.Lists.{set_cases}

-- ---- a store, a post

-- what adding an entry leaves, logging leaves
pub logged_keeps : {A : Type 0} (field : Pool → A) (w : ℕ) (l : LinkNumber) (p : Pool) → field (added w l p) ≡ field p → field (logged w l p) ≡ field p
unfolding logged
logged_keeps field w l p h = by_mark (must_log p l)
  where
    by_mark : (b : Bool) → field (cond b (added w l p) p) ≡ field p
    by_mark true = h
    by_mark false = refl

module _ (p : Pool) (w : ℕ) (link : LinkNumber) (r : ℕ) where
  abbrev new : RecordNumber
  new = register_at p w r

  pub stored_has : (P : Pool → Type 0)
      → (snoops_at p w ≡ true → (t : Pool) → P t → P (with_held (with_record p.records.held new.0 true) t))
      → (changed_at p link ≡ false → P (with_value link new (added w link p)))
      → (changed_at p link ≡ true → P (with_value link new p))
      → P (link_takes w link r p).pool
  unfolding link_takes snooped logged added
  stored_has P held log plain = by_mark (changed_at p link) refl
    where
      by_snoop : (t : Pool) → P t → (b : Bool) → snoops_at p w ≡ b → P (cond b (with_held (with_record p.records.held new.0 true) t) t)
      by_snoop t h true on = held on t h
      by_snoop t h false off = h

      by_mark : (b : Bool) → changed_at p link ≡ b → P (snooped w new (with_value link new (cond (not b) (added w link p) p)))
      by_mark true on = by_snoop (with_value link new p) (plain on) (snoops_at p w) refl
      by_mark false off = by_snoop (with_value link new (added w link p)) (log off) (snoops_at p w) refl

-- ---- emptying some links of a record

module _ (which : LinkNumber → Bool) (s : Sizes) (a : RecordNumber) where
  -- what emptying each link keeps, emptying them all keeps
  pub emptied_has : (P : Pool → Type 0) (f left : ℕ)
      → ((g : ℕ) → f ≤ g → g < f + left → which (link_number s a g) ≡ true → (p : Pool) → P p → P (emptied (link_number s a g) p))
      → (p : Pool) → P p → P (emptied_from which s a f left p)
  unfolding emptied_from
  emptied_has P f zero step p h = h
  emptied_has P f (suc left) step p h =
      emptied_has P (suc f) left (λ g i j. step g (omega arith) (omega arith)) (cond (which (link_number s a f)) (emptied (link_number s a f) p) p) (by_which (which (link_number s a f)) refl)
    where
      by_which : (b : Bool) → which (link_number s a f) ≡ b → P (cond b (emptied (link_number s a f) p) p)
      by_which true e = step f (omega arith) (omega arith) e p h
      by_which false e = h

  pub emptied_keeps : {A : Type 0} (field : Pool → A) → ((l : LinkNumber) (p : Pool) → field (emptied l p) ≡ field p)
      → (f left : ℕ) (p : Pool) → field (emptied_from which s a f left p) ≡ field p
  emptied_keeps field h f left p = emptied_has (λ q. field q ≡ field p) f left (λ g i j on q e. h (link_number s a g) q ∙ e) p refl

  pub emptied_values : (f left : ℕ) (p : Pool) (l : LinkNumber)
      → (value_at (emptied_from which s a f left p) l ≡ value_at p l) ⊎ ((which l ≡ true) × (value_at (emptied_from which s a f left p) l ≡ none))
  unfolding emptied falls
  emptied_values f left p l =
      emptied_has (λ q. (value_at q l ≡ value_at p l) ⊎ ((which l ≡ true) × (value_at q l ≡ none))) f left
      (λ g i j on q e.
      ⊎_elim
      (λ same. ⊎_elim (λ h. inl (same ∙ h)) (λ h. inr (h.0, same ∙ h.1)) e)
      (λ here. inr (ap which (link_same l (link_number s a g) here.0) ∙ on, here.1))
      (set_cases q.links.value (link_number s a g).0 none l.0 none))
      p
      (inl refl)

  -- a link that is none of them keeps its value
  pub emptied_other : (f left : ℕ) (p : Pool) (l : LinkNumber) → ((g : ℕ) → f ≤ g → g < f + left → l.0 ≡ (link_number s a g).0 → ⊥)
      → value_at (emptied_from which s a f left p) l ≡ value_at p l
  unfolding emptied falls
  emptied_other f left p l n =
      emptied_has (λ q. value_at q l ≡ value_at p l) f left
      (λ g i j on q e. get_or-set_other q.links.value (link_number s a g).0 l.0 none none (n g i j) ∙ e)
      p
      refl

  -- and each of them holds none
  pub emptied-none : (f left : ℕ) (p : Pool) → ((g : ℕ) → f ≤ g → g < f + left → (link_number s a g).0 < length p.links.value)
      → (g : ℕ) → f ≤ g → g < f + left → which (link_number s a g) ≡ true → value_at (emptied_from which s a f left p) (link_number s a g) ≡ none
  unfolding emptied_from emptied falls
  emptied-none f zero p inside g h k on = absurd (omega arith)
  emptied-none f (suc left) p inside g h k on =
      ⊎_elim
      (λ (e : f ≡ g).
      ⊎_elim (λ same. same ∙ ap (λ (i : ℕ). value_at next (link_number s a i)) (sym e) ∙ here e (which (link_number s a f)) refl) (λ nothing. nothing.1)
      (emptied_values (suc f) left next (link_number s a g)))
      (λ (lt : f < g). emptied-none (suc f) left next (λ i x y. omega (arith, inside i (omega arith) (omega arith), same_length (which (link_number s a f)))) g lt (omega arith) on)
      (eq-or-lt_of_le h)
    where
      next : Pool
      next = cond (which (link_number s a f)) (emptied (link_number s a f) p) p

      here : f ≡ g → (b : Bool) → which (link_number s a f) ≡ b → value_at (cond b (emptied (link_number s a f) p) p) (link_number s a f) ≡ none
      here e true z = get_or-set_same p.links.value (link_number s a f).0 none none (inside f (omega arith) (omega arith))
      here e false z = absurd (true≢false (sym on ∙ ap (λ (i : ℕ). which (link_number s a i)) (sym e) ∙ z))

      same_length : (b : Bool) → length (cond b (emptied (link_number s a f) p) p).links.value ≡ length p.links.value
      same_length true = length-set p.links.value (link_number s a f).0 none
      same_length false = refl

pub emptied_same : (which that : LinkNumber → Bool) (s : Sizes) (a : RecordNumber) (f left : ℕ)
    → ((g : ℕ) → f ≤ g → g < f + left → which (link_number s a g) ≡ that (link_number s a g))
    → (p : Pool) → emptied_from which s a f left p ≡ emptied_from that s a f left p
unfolding emptied_from
emptied_same which that s a f zero h p = refl
emptied_same which that s a f (suc left) h p =
    emptied_same which that s a (suc f) left (λ g i j. h g (omega arith) (omega arith)) (cond (which (link_number s a f)) (emptied (link_number s a f) p) p)
    ∙ ap (λ b. emptied_from that s a (suc f) left (cond b (emptied (link_number s a f) p) p)) (h f (omega arith) (omega arith))

-- ---- the unchanged links of a record

-- what emptying leaves
pub record Unmoved (p q : Pool) : Type 0 where
  pub collector : q.collector ≡ p.collector
  pub history : q.history ≡ p.history
  pub workers : q.workers ≡ p.workers
  pub changed : q.links.changed ≡ p.links.changed

pub empties_unmoved : (s : Sizes) (a : RecordNumber) (p : Pool) → Unmoved p (empties s a p)
unfolding empties emptied falls
empties_unmoved s a p =
    record {
      collector = emptied_keeps (is_unchanged p) s a (λ q. q.collector) (λ l q. refl) 0 s.k p;
      history = emptied_keeps (is_unchanged p) s a (λ q. q.history) (λ l q. refl) 0 s.k p;
      workers = emptied_keeps (is_unchanged p) s a (λ q. q.workers) (λ l q. refl) 0 s.k p;
      changed = emptied_keeps (is_unchanged p) s a (λ q. q.links.changed) (λ l q. refl) 0 s.k p;
    }
