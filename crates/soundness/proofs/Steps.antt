-- Each collector step on a sound pool leaves a sound pool, phase by phase: what the step does keeps the core, and the collector arrives where the core fits.
--     stays                 an event that moves neither the collector's record nor the history
--     opens_sound .. reclaims_sound     the steps of phases 0 to 6
--     collects_sound        the collect event
-- Assumes nothing.
use Prim.Native.Nat.{ℕ, suc, ◌≤◌, ◌<◌}
use mathlib.Core.Path.{◌≡◌, refl, sym, ◌∙◌, subst}
use mathlib.Core.Bool.{true, false}
use mathlib.Core.List.{List, [], ◌++◌}
use native.Mathlib.Omega.{arith}
use lib.Dec.{T}
use lib.ListN.{length, drop, drop_of_length-le}
use Rattle.rules.specs.declared.Sizes.{Sizes}
use Rattle.rules.specs.declared.RecordNumber.{RecordNumber}
use Rattle.rules.specs.declared.Collector.{Collector}
use Rattle.rules.specs.Pool.{Entry, Pool, registers_at, log_at, with_held, with_changed, with_snoop, with_log, with_history}
use Rattle.rules.specs.Collect.{opens, snoops, made_by, takes, entry_here, clears, held_by, scans, falls, rises, counted, counts}
use Rattle.rules.specs.Collect.{becomes_free, empties, closes, reclaims, collects}
use Rattle.rules.specs.Sound.{Sound, empty_in, entries_in, positions, uncleared, uncounted}
use Rattle.laws.proofs.Change.{empties_unmoved}
use Rattle.laws.proofs.Search.{reclaims_cases}
use Rattle.laws.proofs.Phases.{by_phase, snoops_cases, takes_cases, clears_cases, scans_cases, counts_cases}
use Rattle.soundness.proofs.Core.{Core, core, core_in, position_in, empty_in_lem, sound, core_moved, arrives, uncleared_in, uncounted_in, positions_in}
use Rattle.soundness.proofs.Parts.{core_records, core_snoop, length-held_by}
use Rattle.soundness.proofs.Take.{core_taken, core_made}
use Rattle.soundness.proofs.Clear.{core_cleared}
use Rattle.soundness.proofs.Count.{core_counted, core_emptied_history}
use Rattle.soundness.proofs.Reclaim.{core_empties, core_free, core_closed}

-- ---- an event that leaves the collector and the history as they are

module _ {s : Sizes} {p : Pool} (h : Sound s p) where
  pub stays : (q : Pool) → p.collector ≡ q.collector → p.history ≡ q.history → Core s q (uncleared p) (uncounted p) → Sound s q
  unfolding uncleared uncounted positions
  stays q e f c =
      sound
      (subst (λ x. Core s q (uncleared_in x.0.phase x.0.position x.1) (uncounted_in x.0.phase x.0.position x.1)) both c)
      (subst (λ (x : Collector). x.phase ≤ 6) e h.phase)
      (subst (λ x. x.0.position < positions_in s x.0.phase x.1) both h.position)
      (subst (λ x. T (empty_in x.0.phase) → x.1 ≡ []) both h.history_empty)
      (subst (λ x. T (entries_in x.0.phase) → 0 < length x.1) both h.history_entries)
    where
      both : ◌≡◌ {A = Collector × List Entry} (p.collector, p.history) (q.collector, q.history)
      both = λ i. (e i, f i)

-- ---- the phases

module _ {s : Sizes} {p : Pool} (worker : 0 < s.w) (h : Sound s p) where
  abbrev here : ℕ
  here = p.collector.position

  opens_sound : p.collector.phase ≡ 0 → Sound s (opens s p).pool
  unfolding opens
  opens_sound e = arrives 1 0 (core_in h 0 e) (omega arith) worker (λ t. empty_in_lem h 0 e tt) (λ t. absurd t)

  snoops_sound : p.collector.phase ≡ 1 → Sound s (snoops s p).pool
  snoops_sound e =
      let q : Pool = with_snoop here true p in
      let c : Core s q [] [] = core_snoop (core_in h 1 e) here true in
      let empty : p.history ≡ [] = empty_in_lem h 1 e tt in
      snoops_cases s p (Sound s) e
      (λ k. arrives 1 (suc here) c (omega arith) k (λ t. empty) (λ t. absurd t))
      (λ k. arrives 2 0 (subst (λ (xs : List Entry). Core s q xs xs) (sym empty) c) (omega arith) worker (λ t. absurd t) (λ t. absurd t))

  takes_sound : p.collector.phase ≡ 2 → Sound s (takes s p).pool
  unfolding made_by
  takes_sound e =
      takes_cases s p (Sound s) e
      (λ k. arrives 2 (suc here) c (omega arith) k (λ t. absurd t) (λ t. absurd t))
      (λ k some. arrives 3 0 c (omega arith) some (λ t. absurd t) (λ t. some))
      (λ k f. arrives 4 0 (subst (λ (xs : List Entry). Core s q xs q.history) f c) (omega arith) worker (λ t. absurd t) (λ t. absurd t))
    where
      q : Pool
      q = made_by here (with_log here [] (with_history (p.history ++ log_at p here) p))

      c : Core s q q.history q.history
      c = core_made (core_taken (core_in h 2 e) here (position_in h 2 e)) here

  clears_sound : p.collector.phase ≡ 3 → Sound s (clears s p).pool
  clears_sound e =
      clears_cases s p (Sound s) e
      (λ k. arrives 3 (suc here) c (omega arith) k (λ t. absurd t) (λ t. omega arith))
      (λ k.
      arrives 4 0 (subst (λ (xs : List Entry). Core s q xs p.history) (drop_of_length-le p.history k) c) (omega arith) worker
      (λ t. absurd t)
      (λ t. absurd t))
    where
      q : Pool
      q = with_changed (entry_here p).link false p

      c : Core s q (drop (suc here) p.history) p.history
      c = core_cleared here (core_in h 3 e) (position_in h 3 e) _

  scans_sound : p.collector.phase ≡ 4 → Sound s (scans s p).pool
  scans_sound e =
      scans_cases s p (Sound s) e
      (λ k. arrives 4 (suc here) c (omega arith) k (λ t. absurd t) (λ t. absurd t))
      (λ k some. arrives 5 0 c (omega arith) some (λ t. absurd t) (λ t. some))
      (λ k f. arrives 6 0 (subst (λ (xs : List Entry). Core s q [] xs) f c) (omega arith) (omega arith) (λ t. f) (λ t. absurd t))
    where
      r : Pool
      r = with_snoop here false p

      q : Pool
      q = with_held (held_by (registers_at p here) p.records.held) r

      snooped : Core s r [] p.history
      snooped = core_snoop (core_in h 4 e) here false

      c : Core s q [] p.history
      c =
          core_records snooped p.records.used (held_by (registers_at p here) p.records.held) p.records.candidate p.records.maker
          snooped.shaped.records.used
          (length-held_by (registers_at p here) p.records.held ∙ snooped.shaped.records.held)
          snooped.shaped.records.candidate
          snooped.shaped.records.maker
          snooped.makers

  counts_sound : p.collector.phase ≡ 5 → Sound s (counts s p).pool
  unfolding counted falls rises
  counts_sound e =
      counts_cases s p (Sound s) e
      (λ k. arrives 5 (suc here) c (omega arith) k (λ t. absurd t) (λ t. omega arith))
      (λ k.
      arrives 6 0 (core_emptied_history (subst (λ (xs : List Entry). Core s q [] xs) (drop_of_length-le p.history k) c)) (omega arith) (omega arith)
      (λ t. refl)
      (λ t. absurd t))
    where
      q : Pool
      q = counted (entry_here p) p

      c : Core s q [] (drop (suc here) p.history)
      c = core_counted here (core_in h 5 e) (position_in h 5 e) _

  -- "If none passes": the close
  closes_sound : Core s p [] [] → p.history ≡ [] → Sound s (closes p)
  unfolding closes uncleared uncounted positions
  closes_sound c empty =
      sound (core_moved (closes p).collector (core_closed c)) (omega arith) (omega arith) (λ t. empty) (λ t. absurd t)

  -- "Phase 6 stays."
  empties_sound : (a : RecordNumber) → p.collector.phase ≡ 6 → 1 ≤ a.0 → a.0 ≤ s.n → Sound s (empties s a p)
  unfolding uncleared uncounted
  empties_sound a e some low =
      let unmoved = empties_unmoved s a p in
      stays h (empties s a p) (sym unmoved.collector) (sym unmoved.history)
      (subst (λ (n : ℕ). Core s (empties s a p) (uncleared_in n here p.history) (uncounted_in n here p.history)) (sym e) (core_empties s a p (core_in h 6 e) some low))

  frees_sound : (a : RecordNumber) → Sound s (empties s a p) → Sound s (becomes_free a (empties s a p))
  unfolding becomes_free uncleared uncounted
  frees_sound a sound-then = stays sound-then (becomes_free a (empties s a p)) refl refl (core_free a (core sound-then))

  reclaims_sound : p.collector.phase ≡ 6 → Sound s (reclaims s p).pool
  reclaims_sound e =
      reclaims_cases s p (λ o. Sound s o.pool) (λ z. closes_sound (core_in h 6 e) (empty_in_lem h 6 e tt))
      (λ y some low pass off. frees_sound y (empties_sound y e some low))
      (λ y some low pass on. empties_sound y e some low)

  -- ---- the collect event

  pub collects_sound : Sound s (collects s p).pool
  collects_sound =
      by_phase s p (λ o. Sound s o.pool) h.phase opens_sound snoops_sound takes_sound clears_sound scans_sound counts_sound reclaims_sound
