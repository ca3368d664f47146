-- Every event keeps the invariant, so that it holds at each place of a run from the fresh pool.
--     State                the invariant of a pool, in its own phase at its own position
--     arrived              the collector moves to a phase and a position
--     collects_kept        the collect event
--     makes-kept .. stores_kept     the worker events
--     event-kept, run-kept          every event, and a run
-- Assumes nothing.
use Prim.Native.Nat.{ℕ, suc, ◌≤◌, ◌<◌, zero-le}
use mathlib.Core.Path.{◌≡◌, refl, sym, ◌∙◌, subst}
use mathlib.Core.Logic.{inl}
use mathlib.Core.Bool.{true, false}
use mathlib.Core.List.{List, [], ◌++◌}
use native.Mathlib.Omega.{arith}
use borrow.Author.Tests.{lt-ltb, le-leb, lt-leb}
use lib.Dec.{ltb, leb}
use lib.ListN.{length, drop, set, drop_of_length-le}
use Rattle.rules.specs.declared.Sizes.{Sizes}
use Rattle.rules.specs.declared.RecordNumber.{RecordNumber}
use Rattle.rules.specs.declared.LinkNumber.{LinkNumber}
use Rattle.rules.specs.declared.Collector.{Collector}
use Rattle.rules.specs.Size.{links, link_number}
use Rattle.rules.specs.Pool.{Entry, Pool, none, value_at, snoops_at, registers_at, log_at, with_held, with_snoop, with_log, with_history, with_changed}
use Rattle.rules.specs.Collect.{opens, snoops, made_by, takes, no_entry, entry_here, clears, held_by, scans, falls, rises, counted, counts, unchanged, becomes_free, empties, closes, reclaims, collects}
use Rattle.rules.specs.Sound.{Each, Sound}
use Rattle.laws.proofs.Lists.{Each-at}
use Rattle.laws.proofs.Change.{empties_unmoved}
use Rattle.laws.proofs.Search.{Passed, empties-none, reclaims_cases}
use Rattle.laws.proofs.Phases.{by_phase, moved, snoops_cases, takes_cases, clears_cases, scans_cases, counts_cases}
use Rattle.soundness.proofs.Core.{Core, core_in, position_in, empty_in_lem}
use Rattle.soundness.proofs.Take.{core_taken, core_made}
use Rattle.soundness.proofs.Clear.{core_cleared}
use Rattle.soundness.proofs.Reclaim.{core_empties}
use Rattle.soundness.proofs.Known.{entry_below}
use Rattle.promises.proofs.Invariant.{Used, Named, Phased}
use Rattle.promises.proofs.Grow.{named_raised, phased_raised}
use Rattle.promises.proofs.Phases.{phased_none, phased_opened, snooped_flags, named_taken, logs_taken, phased_taken, marked_kept, named_cleared, phased_cleared, scanned_flags, phased_scanned, named_counted, phased_counted}
use Rattle.promises.proofs.Freeing.{Unnamed, passed_unnamed, Emptied, emptied_through, named_freed, phased_freed, named_closed}

pub record State (s : Sizes) (p : Pool) : Type 0 where
  pub named : Named s p
  pub phased : Phased s p p.collector.phase p.collector.position

arrived : {s : Sizes} {q : Pool} (k i : ℕ) → Named s q → Phased s q k i → State s (moved k i q)
arrived {s} {q} k i n x =
    record {
      named = named_raised q.records.count q.records.held q.workers.snoop (moved k i q).collector n;
      phased = phased_raised q.records.count q.records.held q.workers.snoop (moved k i q).collector (λ a h. h) x.snoop x;
    }

-- ---- the collector

module _ {s : Sizes} {p : Pool} (sound : Sound s p) (state : State s p) where
  abbrev here : ℕ
  here = p.collector.position

  pub phased_in : (k : ℕ) → p.collector.phase ≡ k → Phased s p k here
  phased_in k e = subst (λ (n : ℕ). Phased s p n here) e state.phased

  opens_kept : p.collector.phase ≡ 0 → State s (opens s p).pool
  unfolding opens
  opens_kept e = arrived 1 0 state.named (phased_opened here (phased_in 0 e))

  snoops_kept : p.collector.phase ≡ 1 → State s (snoops s p).pool
  snoops_kept e =
      snoops_cases s p (State s) e
      (λ k. arrived 1 (suc here) n (phased_none 1 (suc here) (omega arith) refl flags))
      (λ k. arrived 2 0 n (phased_none 2 0 (omega arith) refl (λ w h. flags w h ∙ lt-ltb w (suc here) (omega arith))))
    where
      q : Pool
      q = with_snoop here true p

      n : Named s q
      n = named_raised p.records.count p.records.held (set p.workers.snoop here true) p.collector state.named

      flags : (w : ℕ) → w < s.w → snoops_at q w ≡ ltb w (suc here)
      flags = snooped_flags here (omega (arith, sound.shaped.workers.snoop, position_in sound 1 e)) (phased_in 1 e)

  takes_kept : p.collector.phase ≡ 2 → State s (takes s p).pool
  unfolding made_by
  takes_kept e =
      takes_cases s p (State s) e
      (λ k. arrived 2 (suc here) n (phased_taken c here worker 2 (suc here) (omega arith) refl (λ v h. refl) (λ four. absurd (omega arith)) x))
      (λ k some. arrived 3 0 n (phased_taken c here worker 3 0 k refl (λ v h. refl) (λ four. absurd (omega arith)) x))
      (λ k f.
      arrived 4 0 n
      (phased_taken c here worker 4 0 k refl (λ v h. sym (le-leb 0 v zero-le))
      (λ four.
      marked_kept (subst (λ (xs : List Entry). Core s q xs q.history) f (core_made (core_taken c here worker) here))
      (λ w h. logs_taken c here worker x w (omega arith)))
      x))
    where
      q : Pool
      q = made_by here (with_log here [] (with_history (p.history ++ log_at p here) p))

      worker : here < s.w
      worker = position_in sound 2 e

      c : Core s p p.history p.history
      c = core_in sound 2 e

      x : Phased s p 2 here
      x = phased_in 2 e

      n : Named s q
      n = named_taken c here worker state.named

  clears_kept : p.collector.phase ≡ 3 → State s (clears s p).pool
  clears_kept e =
      clears_cases s p (State s) e
      (λ k. arrived 3 (suc here) n (phased_cleared c m inside 3 (suc here) (omega arith) (omega arith) refl (λ v h. refl) (λ four. absurd (omega arith)) x))
      (λ k.
      arrived 4 0 n
      (phased_cleared c m inside 4 0 (omega arith) (omega arith) refl (λ v h. sym (le-leb 0 v zero-le))
      (λ four.
      marked_kept
      (subst (λ (xs : List Entry). Core s q xs p.history) (drop_of_length-le p.history k) (core_cleared here c (position_in sound 3 e) no_entry))
      (λ w h. x.logged (omega arith) (omega arith) w h))
      x))
    where
      m : LinkNumber
      m = (entry_here p).link

      q : Pool
      q = with_changed m false p

      c : Core s p (drop here p.history) p.history
      c = core_in sound 3 e

      inside : m.0 < links s
      inside = (entry_below sound (inl e)).link

      x : Phased s p 3 here
      x = phased_in 3 e

      n : Named s q
      n = named_cleared c m inside state.named

  scans_kept : p.collector.phase ≡ 4 → State s (scans s p).pool
  scans_kept e =
      scans_cases s p (State s) e
      (λ k. arrived 4 (suc here) n (phased_scanned c here worker 4 (suc here) (omega arith) (omega arith) (omega arith) flags x))
      (λ k some. arrived 5 0 n (phased_scanned c here worker 5 0 (omega arith) (omega arith) k (off k) x))
      (λ k f. arrived 6 0 n (phased_scanned c here worker 6 0 (omega arith) (omega arith) k (off k) x))
    where
      q : Pool
      q = with_held (held_by (registers_at p here) p.records.held) (with_snoop here false p)

      worker : here < s.w
      worker = position_in sound 4 e

      c : Core s p [] p.history
      c = core_in sound 4 e

      x : Phased s p 4 here
      x = phased_in 4 e

      n : Named s q
      n = named_raised p.records.count q.records.held q.workers.snoop p.collector state.named

      flags : (v : ℕ) → v < s.w → snoops_at q v ≡ leb (suc here) v
      flags = scanned_flags c here worker x

      -- after the last worker no flag is on
      off : s.w ≤ suc here → (v : ℕ) → v < s.w → snoops_at q v ≡ false
      off k v h = flags v h ∙ lt-leb (suc here) v (omega arith)

  counts_kept : p.collector.phase ≡ 5 → State s (counts s p).pool
  unfolding counted falls rises
  counts_kept e =
      counts_cases s p (State s) e
      (λ k.
      let same : (P : Entry → Type 0) → Each P p.history → Each P p.history = λ P h. h in
      arrived 5 (suc here) (named_counted s p entry p.history same used state.named)
      (phased_counted s p entry p.history same 5 (suc here) (omega arith) (omega arith) (omega arith) (λ v h. refl) at_entry x))
      (λ k.
      let none_left : (P : Entry → Type 0) → Each P p.history → Each P [] = λ P h. tt in
      arrived 6 0 (named_counted s p entry [] none_left used state.named)
      (phased_counted s p entry [] none_left 6 0 (omega arith) (omega arith) (omega arith) (λ v h. refl) at_entry x))
    where
      entry : Entry
      entry = entry_here p

      x : Phased s p 5 here
      x = phased_in 5 e

      at_entry : (P : Entry → Type 0) → Each P p.history → P entry
      at_entry P h = Each-at P p.history here no_entry (position_in sound 5 e) h

      used : Used p entry.old
      used = at_entry (λ y. Used p y.old) state.named.history

  -- what phase 6 takes is unnamed, and its links are emptied
  module _ (e : p.collector.phase ≡ 6) where
    core_6 : Core s p [] []
    core_6 = core_in sound 6 e

    pub taken_unnamed : (y : RecordNumber) → 1 ≤ y.0 → y.0 ≤ s.n → Passed p y → Unnamed s p y
    taken_unnamed y some low pass = passed_unnamed core_6 (phased_in 6 e) (empty_in_lem sound 6 e tt) y some low pass

    module _ (y : RecordNumber) (some : 1 ≤ y.0) (low : y.0 ≤ s.n) (pass : Passed p y) where
      all : Emptied s y here (empties s y p)
      all =
          emptied_through s y here p some low
          (record { named = state.named; phased = phased_in 6 e; unnamed = taken_unnamed y some low pass })

      -- phase 6 stays
      phase_stays : (q : Pool) → q.collector ≡ (empties s y p).collector → Phased s q 6 here → Phased s q q.collector.phase q.collector.position
      phase_stays q same x =
          subst (λ (c : Collector). Phased s q c.phase c.position) (sym (same ∙ (empties_unmoved s y p).collector)) (subst (λ (k : ℕ). Phased s q k here) (sym e) x)

      empties_kept : State s (empties s y p)
      empties_kept = record { named = all.named; phased = phase_stays (empties s y p) refl all.phased }

      frees_kept : unchanged s p y ≡ true → State s (becomes_free y (empties s y p))
      unfolding becomes_free
      frees_kept off =
          record {
            named = named_freed s q y some low_used low_candidate all (none_left off);
            phased = phase_stays (becomes_free y q) refl (phased_freed s q y some low_used low_candidate all (none_left off));
          }
        where
          q : Pool
          q = empties s y p

          none_left : unchanged s p y ≡ true → (f : ℕ) → f < s.k → value_at q (link_number s y f) ≡ none
          none_left off = empties-none s p y sound.shaped.links.value some low off

          after : Core s q [] []
          after = core_empties s y p core_6 some low

          low_used : y.0 ≤ length q.records.used
          low_used = omega (arith, after.shaped.records.used)

          low_candidate : y.0 ≤ length q.records.candidate
          low_candidate = omega (arith, after.shaped.records.candidate)

    closes_kept : State s (closes p)
    unfolding closes
    closes_kept =
        record {
          named = named_closed (sound.shaped.records.candidate ∙ sym sound.shaped.records.count) state.named;
          phased = phased_none 0 0 (omega arith) refl (phased_in 6 e).snoop;
        }

    reclaims_kept : State s (reclaims s p).pool
    reclaims_kept = reclaims_cases s p (λ o. State s o.pool) (λ z. closes_kept) frees_kept (λ y some low pass on. empties_kept y some low pass)

  pub collects_kept : State s (collects s p).pool
  collects_kept =
      by_phase s p (λ o. State s o.pool) sound.phase opens_kept snoops_kept takes_kept clears_kept scans_kept counts_kept reclaims_kept
