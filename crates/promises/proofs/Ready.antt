-- Two more facts of every pool of a run, which what is lost rests on.
--     Waiting          a used record with count 0 and no maker is a candidate
--     Ready            that, and held marks are off in phase 0
--     event_ready      every event keeps it
--     fresh_ready      the fresh pool has it
-- Assumes nothing.
use Prim.Native.Nat.{ℕ, suc, ◌+◌, ◌-◌, ◌≤◌, ◌<◌}
use mathlib.Core.Path.{◌≡◌, refl, sym, ap, ◌∙◌, subst}
use mathlib.Core.Logic.{inr, ⊎_elim}
use mathlib.Core.Bool.{true, false, true≢false}
use mathlib.Core.List.{[], ◌++◌}
use native.Mathlib.Omega.{arith}
use lib.ListN.{length}
use Rattle.rules.specs.declared.Sizes.{Sizes}
use Rattle.rules.specs.declared.RecordNumber.{RecordNumber}
use Rattle.rules.specs.declared.LinkNumber.{LinkNumber}
use Rattle.rules.specs.declared.Event.{Event}
use Rattle.rules.specs.declared.Event.TheVariants.{Make, Move, Drop, Load, Store, Look, Post, Collect}
use Rattle.rules.specs.Size.{link_number, board_number}
use Rattle.rules.specs.Pool.{Pool, used_at, count_at, held_at, candidate_at, maker_at, value_at, log_at, registers_at, register_at, with_held, with_snoop, with_log, with_history, with_changed, fresh}
use Rattle.rules.specs.View.{view_value}
use Rattle.rules.specs.Worker.{chosen, makes, moves, drops, register_takes, loads, looks, added, link_takes, stores, posts}
use Rattle.rules.specs.Collect.{opens, snoops, made_by, takes, entry_here, clears, held_by, scans, falls, rises, counted, counts, emptied, becomes_free, empties, closes, reclaims}
use Rattle.rules.specs.Outcome.{does, outcome}
use Rattle.rules.specs.Sound.{Sound}
use Rattle.laws.proofs.Tests.{eqb_cases}
use Rattle.laws.proofs.Number.{record_same}
use Rattle.laws.proofs.Lists.{of_record_same, of_record_other, with_record_cases}
use Rattle.laws.proofs.Chosen.{chosen-low}
use Rattle.laws.proofs.Change.{stored_has, empties_unmoved}
use Rattle.laws.proofs.Marks.{on_some, made_other, made_candidate, made_candidate_own, falls_candidate, falls_own, closes_held, closes_stays}
use Rattle.laws.proofs.Search.{reclaims_cases}
use Rattle.laws.proofs.Refusals.{decided, can_make, can_store, can_post}
use Rattle.laws.proofs.Phases.{by_phase, moved, snoops_cases, takes_cases, clears_cases, scans_cases, counts_cases}
use Rattle.soundness.proofs.Core.{core_in}
use Rattle.soundness.proofs.Reclaim.{core_emptied_has, core_empties}
use Rattle.soundness.proofs.Fresh.{of_record_all}
use Rattle.soundness.proofs.Known.{entry_below}
use Rattle.promises.proofs.Invariant.{snoops_in}
use Rattle.promises.proofs.Run.{State}

pub Waiting : Pool → Type 0
Waiting p = (a : RecordNumber) → used_at p a ≡ true → count_at p a ≡ 0 → maker_at p a ≡ 0 → candidate_at p a ≡ true

pub record Ready (p : Pool) : Type 0 where
  pub waiting : (a : RecordNumber) → used_at p a ≡ true → count_at p a ≡ 0 → maker_at p a ≡ 0 → candidate_at p a ≡ true
  pub unheld : p.collector.phase ≡ 0 → (a : RecordNumber) → held_at p a ≡ false

-- ---- counts that fall and rise

waiting_falls : (x : RecordNumber) (p : Pool) → x.0 ≤ length p.records.candidate → Waiting p → Waiting (falls x p)
unfolding Waiting falls
waiting_falls x p low h a used zero-count none =
    ⊎_elim
    (λ same. falls_candidate x a p (h a used (sym same ∙ zero-count) none))
    (λ here.
    subst (λ (b : RecordNumber). candidate_at (falls x p) b ≡ true) (sym (record_same a x here.0))
    (falls_own x p (let some = on_some p.records.used a.0 used in let e = here.0 in omega arith) low (sym here.1 ∙ zero-count)))
    (with_record_cases p.records.count x.0 (count_at p x - 1) a.0 0)

waiting_rises : (x : RecordNumber) (p : Pool) → Waiting p → Waiting (rises x p)
unfolding Waiting rises
waiting_rises x p h a used zero-count none =
    ⊎_elim
    (λ same. h a used (sym same ∙ zero-count) none)
    (λ here. absurd (omega (arith, here.1)))
    (with_record_cases p.records.count x.0 (count_at p x + 1) a.0 0)

-- ---- the collector

module _ {s : Sizes} {p : Pool} (sound : Sound s p) (ready : Ready p) where
  waits : Waiting p
  unfolding Waiting
  waits = ready.waiting

  -- where the collector arrives in a phase that is not 0
  arrives_ready : (q : Pool) (k i : ℕ) → 1 ≤ k → Waiting q → Ready (moved k i q)
  unfolding Waiting
  arrives_ready q k i late h = record { waiting = h; unheld = λ e. absurd (omega arith) }

  opens_ready : Ready (opens s p).pool
  unfolding opens
  opens_ready = arrives_ready p 1 0 (omega arith) waits

  snoops_ready : p.collector.phase ≡ 1 → Ready (snoops s p).pool
  unfolding Waiting
  snoops_ready e =
      let q : Pool = with_snoop p.collector.position true p in
      snoops_cases s p Ready e
      (λ k. arrives_ready q 1 (suc p.collector.position) (omega arith) waits)
      (λ k. arrives_ready q 2 0 (omega arith) waits)

  takes_ready : p.collector.phase ≡ 2 → Ready (takes s p).pool
  unfolding made_by Waiting
  takes_ready e =
      takes_cases s p Ready e
      (λ k. arrives_ready q 2 (suc here) (omega arith) taken)
      (λ k some. arrives_ready q 3 0 (omega arith) taken)
      (λ k f. arrives_ready q 4 0 (omega arith) taken)
    where
      here : ℕ
      here = p.collector.position

      r : Pool
      r = with_log here [] (with_history (p.history ++ log_at p here) p)

      q : Pool
      q = made_by here r

      same_length : length p.records.maker ≡ length p.records.candidate
      same_length = sound.shaped.records.maker ∙ sym sound.shaped.records.candidate

      -- a record without a maker had none, or its maker's log is taken now
      taken : (a : RecordNumber) → used_at q a ≡ true → count_at q a ≡ 0 → maker_at q a ≡ 0 → candidate_at q a ≡ true
      taken a used zero-count none =
          ⊎_elim
          (λ z. made_candidate_own here r same_length a z.0)
          (λ z. made_candidate here r same_length a z.0 ∙ ready.waiting a used zero-count (sym (made_other here r a z.0) ∙ none))
          (eqb_cases (maker_at p a) (here + 1))

  clears_ready : p.collector.phase ≡ 3 → Ready (clears s p).pool
  unfolding Waiting
  clears_ready e =
      let q : Pool = with_changed (entry_here p).link false p in
      clears_cases s p Ready e
      (λ k. arrives_ready q 3 (suc p.collector.position) (omega arith) waits)
      (λ k. arrives_ready q 4 0 (omega arith) waits)

  scans_ready : p.collector.phase ≡ 4 → Ready (scans s p).pool
  unfolding Waiting
  scans_ready e =
      let q : Pool = with_held (held_by (registers_at p p.collector.position) p.records.held) (with_snoop p.collector.position false p) in
      scans_cases s p Ready e
      (λ k. arrives_ready q 4 (suc p.collector.position) (omega arith) waits)
      (λ k some. arrives_ready q 5 0 (omega arith) waits)
      (λ k f. arrives_ready q 6 0 (omega arith) waits)

  counts_ready : p.collector.phase ≡ 5 → Ready (counts s p).pool
  unfolding counted falls rises Waiting
  counts_ready e =
      counts_cases s p Ready e
      (λ k. arrives_ready (with_history p.history q) 5 (suc p.collector.position) (omega arith) counted-waits)
      (λ k. arrives_ready (with_history [] q) 6 0 (omega arith) counted-waits)
    where
      q : Pool
      q = counted (entry_here p) p

      old : RecordNumber
      old = (entry_here p).old

      counted-waits : Waiting q
      counted-waits =
          waiting_rises (view_value (falls old p) (entry_here p).link) (falls old p)
          (waiting_falls old p (let low = (entry_below sound (inr e)).old in omega (arith, sound.shaped.records.candidate)) waits)

  closes_ready : Ready (closes p)
  unfolding closes
  closes_ready =
      record {
        waiting = λ a used zero-count none. closes_stays p (sound.shaped.records.candidate ∙ sym sound.shaped.records.count) a (ready.waiting a used zero-count none) zero-count;
        unheld = λ e a. closes_held p a;
      }

  -- ---- phase 6

  module _ (e : p.collector.phase ≡ 6) (y : RecordNumber) (some : 1 ≤ y.0) (low : y.0 ≤ s.n) where
    abbrev q : Pool
    q = empties s y p

    emptied-waits : Waiting q
    unfolding empties emptied falls Waiting
    emptied-waits =
        (core_emptied_has s y p (core_in sound 6 e) some low Waiting (λ l q c h. waiting_falls (value_at q l) q (omega (arith, c.values l, c.shaped.records.candidate)) h)
        s.k
        (omega arith)
        waits).1

    still_6 : q.collector.phase ≡ 0 → ⊥
    still_6 z = omega (arith, e, ap (λ c. c.phase) (empties_unmoved s y p).collector)

    empties_ready : Ready q
    unfolding Waiting
    empties_ready = record { waiting = emptied-waits; unheld = λ z. absurd (still_6 z) }

    frees_ready : Ready (becomes_free y q)
    unfolding becomes_free Waiting
    frees_ready = record { waiting = freed_waits; unheld = λ z. absurd (still_6 z) }
      where
        after : (a : RecordNumber) → used_at q a ≡ true → count_at q a ≡ 0 → maker_at q a ≡ 0 → candidate_at q a ≡ true
        after = emptied-waits

        -- the record freed is not used
        not_used : used_at (becomes_free y q) y ≡ false
        not_used = of_record_same q.records.used y.0 false false some (omega (arith, (core_empties s y p (core_in sound 6 e) some low).shaped.records.used))

        freed_waits : (a : RecordNumber) → used_at (becomes_free y q) a ≡ true → count_at q a ≡ 0 → maker_at q a ≡ 0 → candidate_at (becomes_free y q) a ≡ true
        freed_waits a used zero-count none =
            ⊎_elim
            (λ z. absurd (true≢false (sym used ∙ ap (λ (b : RecordNumber). used_at (becomes_free y q) b) (record_same a y z.0) ∙ not_used)))
            (λ z.
            of_record_other q.records.candidate y.0 a.0 false false (λ t. z.0 (sym t))
            ∙ after a (sym (of_record_other q.records.used y.0 a.0 false false (λ t. z.0 (sym t))) ∙ used) zero-count none)
            (eqb_cases a.0 y.0)

  reclaims_ready : p.collector.phase ≡ 6 → Ready (reclaims s p).pool
  reclaims_ready e =
      reclaims_cases s p (λ o. Ready o.pool) (λ z. closes_ready) (λ y some low pass off. frees_ready e y some low) (λ y some low pass on. empties_ready e y some low)

  -- ---- every event

  makes_ready : (w r : ℕ) → 1 ≤ (chosen p).0 → Ready (makes w r p).pool
  unfolding makes
  makes_ready w r some =
      record {
        waiting =
            λ a used zero-count none.
            ⊎_elim
            (λ same. ready.waiting a (was_used a same none used) zero-count (sym same ∙ none))
            (λ new. absurd (omega (arith, new.1)))
            (with_record_cases p.records.maker (chosen p).0 (w + 1) a.0 0);
        unheld = ready.unheld;
      }
    where
      -- a record whose maker stays is not the one made
      was_used : (a : RecordNumber) → maker_at (makes w r p).pool a ≡ maker_at p a → maker_at (makes w r p).pool a ≡ 0 → used_at (makes w r p).pool a ≡ true → used_at p a ≡ true
      was_used a same none used =
          ⊎_elim
          (λ z. sym z ∙ used)
          (λ z.
          absurd
          (omega (
            arith,
            ap (λ (b : RecordNumber). maker_at (makes w r p).pool b) (record_same a (chosen p) z.0),
            of_record_same p.records.maker (chosen p).0 (w + 1) 0 some (omega (arith, chosen-low p, sound.shaped.records.used, sound.shaped.records.maker)),
          )))
          (with_record_cases p.records.used (chosen p).0 true a.0 false)

  -- in phase 0 no worker snoops
  link_takes_ready : State s p → (w : ℕ) (l : LinkNumber) (r : ℕ) → w < s.w → Ready (link_takes w l r p).pool
  unfolding added
  link_takes_ready state w l r worker =
      (stored_has p w l r (λ t. Ready t × (t.collector ≡ p.collector))
      (λ on t h. (
        record {
          waiting = h.0.waiting;
          unheld = λ e. absurd (true≢false (sym on ∙ state.phased.snoop w worker ∙ ap (λ (k : ℕ). snoops_in k p.collector.position w) (ap (λ c. c.phase) (sym h.1) ∙ e)));
        },
        h.1,
      ))
      (λ off. (record { waiting = ready.waiting; unheld = ready.unheld }, refl))
      (λ on. (record { waiting = ready.waiting; unheld = ready.unheld }, refl))).0

pub event_ready : (s : Sizes) (p : Pool) → Sound s p → State s p → Ready p → (e : Event) → Ready (outcome s p e).pool
unfolding outcome does moves drops register_takes loads looks stores posts
event_ready s p h x ready (Make w r) = decided Ready p ready _ _ (λ t. makes_ready h ready w r (can_make s p w r t).1)
event_ready s p h x ready (Move w r q) = decided Ready p ready _ _ (λ t. record { waiting = ready.waiting; unheld = ready.unheld })
event_ready s p h x ready (Drop w r) = decided Ready p ready _ _ (λ t. record { waiting = ready.waiting; unheld = ready.unheld })
event_ready s p h x ready (Load w r q f) = decided Ready p ready _ _ (λ t. record { waiting = ready.waiting; unheld = ready.unheld })
event_ready s p h x ready (Store w q f r) = decided Ready p ready _ _ (λ t. link_takes_ready h ready x w (link_number s (register_at p w q) f) r (can_store s p w q f r t).0.worker)
event_ready s p h x ready (Look w r e) = decided Ready p ready _ _ (λ t. record { waiting = ready.waiting; unheld = ready.unheld })
event_ready s p h x ready (Post w e r) = decided Ready p ready _ _ (λ t. link_takes_ready h ready x w (board_number s e) r (can_post s p w e r t).0.worker)
event_ready s p h x ready Collect =
    decided Ready p ready _ _ (λ t.
    by_phase s p (λ o. Ready o.pool) h.phase (λ e. opens_ready h ready) (snoops_ready h ready) (takes_ready h ready) (clears_ready h ready) (scans_ready h ready) (counts_ready h ready)
    (reclaims_ready h ready))

pub fresh_ready : (s : Sizes) → Ready (fresh s)
unfolding fresh
fresh_ready s =
    record {
      waiting = λ a used zero-count none. absurd (true≢false (sym used ∙ of_record_all s.n false a.0));
      unheld = λ e a. of_record_all s.n false a.0;
    }
