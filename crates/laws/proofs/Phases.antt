-- The list of phases, and how a step moves on.
--     by_phase           the collect event is the step of the phase
--     moved              a pool with the collector moved to a phase and a position
--     onward_cases       a step moves to the next position, or after the last to the next phase
--     snoops_cases .. counts_cases     where the step of each phase from 1 to 5 arrives
--     closed_up, closed_again     the closed-cycle number
-- Assumes nothing.
use Prim.Native.Nat.{ℕ, zero, suc, ◌+◌, ◌≤◌, ◌<◌}
use mathlib.Core.Path.{◌≡◌, refl, sym, ap, ◌∙◌, subst}
use mathlib.Core.Bool.{Bool, true, false, cond}
use mathlib.Core.List.{List, [], ◌∷◌, ◌++◌}
use native.Mathlib.Omega.{arith}
use native.Mathlib.Nat.{mod-eq_of_lt}
use borrow.Author.Tests.{leb-true, leb-false}
use lib.ListN.{length, get_or}
use Rattle.rules.specs.declared.Sizes.{Sizes}
use Rattle.rules.specs.declared.Collector.{Collector}
use Rattle.rules.specs.Pool.{Entry, Pool, registers_at, log_at, with_held, with_changed, with_snoop, with_log, with_history, with_collector}
use Rattle.rules.specs.Reply.{Outcome}
use Rattle.rules.specs.Collect.{skipped, phase_after, last_of, onward, stepped, opens, snoops, made_by, takes, entry_here, clears, held_by, scans, counted, falls, rises, counts}
use Rattle.rules.specs.Collect.{next_closed, closes, reclaims, phases, collects}

-- ---- the list of phases

module _ (s : Sizes) (p : Pool) (P : Outcome → Type 0) where
  pub by_phase : p.collector.phase ≤ 6
      → (p.collector.phase ≡ 0 → P (opens s p))
      → (p.collector.phase ≡ 1 → P (snoops s p))
      → (p.collector.phase ≡ 2 → P (takes s p))
      → (p.collector.phase ≡ 3 → P (clears s p))
      → (p.collector.phase ≡ 4 → P (scans s p))
      → (p.collector.phase ≡ 5 → P (counts s p))
      → (p.collector.phase ≡ 6 → P (reclaims s p))
      → P (collects s p)
  unfolding collects phases
  by_phase most opened snoop take clear scan count found = at p.collector.phase refl most
    where
      at : (k : ℕ) → p.collector.phase ≡ k → k ≤ 6 → P (get_or phases k (λ s p. stepped p) s p)
      at zero e l = opened e
      at (suc zero) e l = snoop e
      at (suc (suc zero)) e l = take e
      at (suc (suc (suc zero))) e l = clear e
      at (suc (suc (suc (suc zero)))) e l = scan e
      at (suc (suc (suc (suc (suc zero))))) e l = count e
      at (suc (suc (suc (suc (suc (suc zero)))))) e l = found e
      at (suc (suc (suc (suc (suc (suc (suc k))))))) e l = absurd (omega arith)

-- ---- moving on

abbrev pub moved : ℕ → ℕ → Pool → Pool
moved phase i p = with_collector (record { phase = phase; position = i; closed = p.collector.closed }) p

-- "The phase changes within the step that did the last position, and the position returns to 0."
onward_cases : (P : Pool → Type 0) (q : Pool) (n k next : ℕ) → q.collector.phase ≡ k → phase_after k q.history ≡ next
    → (suc q.collector.position < n → P (moved k (suc q.collector.position) q))
    → (n ≤ suc q.collector.position → P (moved next 0 q))
    → P (onward n q)
unfolding onward
onward_cases P q n k next e f stay leave = by_place (last_of n q) refl
  where
    c : Collector
    c = q.collector

    last : Collector
    last = record { phase = phase_after c.phase q.history; position = 0; closed = c.closed }

    there : Collector
    there = record { phase = c.phase; position = suc c.position; closed = c.closed }

    by_place : (b : Bool) → last_of n q ≡ b → P (with_collector (cond b last there) q)
    by_place true h =
        subst (λ (m : ℕ). P (moved m 0 q)) (sym (ap (λ (m : ℕ). phase_after m q.history) e ∙ f)) (leave (leb-true n (suc c.position) h))
    by_place false h = subst (λ (m : ℕ). P (moved m (suc c.position) q)) (sym e) (stay (leb-false n (suc c.position) h))

-- ---- where the step of each phase arrives

-- "Phases 3 and 5 are skipped when the history is empty."
after_cases : (k : ℕ) (P : ℕ → Type 0) (history : List Entry) → (0 < length history → P (suc k)) → (history ≡ [] → P (cond (skipped (suc k) []) (suc (suc k)) (suc k)))
    → P (phase_after k history)
unfolding phase_after
after_cases k P [] some empty = empty refl
after_cases k P (x ∷ history) some empty = some (omega arith)

module _ (s : Sizes) (p : Pool) (P : Pool → Type 0) where
  abbrev here : ℕ
  here = p.collector.position

  -- "After the last worker, phase 2."
  pub snoops_cases : p.collector.phase ≡ 1
      → (suc here < s.w → P (moved 1 (suc here) (with_snoop here true p)))
      → (s.w ≤ suc here → P (moved 2 0 (with_snoop here true p)))
      → P (snoops s p).pool
  unfolding snoops
  snoops_cases e = onward_cases P (with_snoop here true p) s.w 1 2 e (after_cases 1 (λ k. k ≡ 2) p.history (λ f. refl) (λ f. refl))

  -- "After the last, phase 3", which is skipped when the history is empty
  abbrev took : Pool
  took = made_by here (with_log here [] (with_history (p.history ++ log_at p here) p))

  pub takes_cases : p.collector.phase ≡ 2
      → (suc here < s.w → P (moved 2 (suc here) took))
      → (s.w ≤ suc here → 0 < length took.history → P (moved 3 0 took))
      → (s.w ≤ suc here → took.history ≡ [] → P (moved 4 0 took))
      → P (takes s p).pool
  unfolding takes made_by
  takes_cases e stay some empty =
      onward_cases P took s.w 2 (phase_after 2 took.history) e refl stay (λ k. after_cases 2 (λ next. P (moved next 0 took)) took.history (some k) (empty k))

  -- "After the last, phase 4."
  pub clears_cases : p.collector.phase ≡ 3
      → (suc here < length p.history → P (moved 3 (suc here) (with_changed (entry_here p).link false p)))
      → (length p.history ≤ suc here → P (moved 4 0 (with_changed (entry_here p).link false p)))
      → P (clears s p).pool
  unfolding clears
  clears_cases e =
      onward_cases P (with_changed (entry_here p).link false p) (length p.history) 3 4 e (after_cases 3 (λ k. k ≡ 4) p.history (λ f. refl) (λ f. refl))

  -- "After the last, phase 5", which is skipped when the history is empty
  abbrev scanned : Pool
  scanned = with_held (held_by (registers_at p here) p.records.held) (with_snoop here false p)

  pub scans_cases : p.collector.phase ≡ 4
      → (suc here < s.w → P (moved 4 (suc here) scanned))
      → (s.w ≤ suc here → 0 < length p.history → P (moved 5 0 scanned))
      → (s.w ≤ suc here → p.history ≡ [] → P (moved 6 0 scanned))
      → P (scans s p).pool
  unfolding scans
  scans_cases e stay some empty =
      onward_cases P scanned s.w 4 (phase_after 4 p.history) e refl stay (λ k. after_cases 4 (λ next. P (moved next 0 scanned)) p.history (some k) (empty k))

  -- "After the last, the history is emptied: phase 6."
  pub counts_cases : p.collector.phase ≡ 5
      → (suc here < length p.history → P (moved 5 (suc here) (with_history p.history (counted (entry_here p) p))))
      → (length p.history ≤ suc here → P (moved 6 0 (with_history [] (counted (entry_here p) p))))
      → P (counts s p).pool
  unfolding counts counted falls rises phase_after
  counts_cases e stay leave = by_place (last_of n p) refl
    where
      n : ℕ
      n = length p.history

      q : List Entry → Pool
      q history = with_history history (counted (entry_here p) p)

      by_place : (b : Bool) → last_of n p ≡ b → P (onward n (q (cond b [] p.history)))
      by_place true last =
          let over : n ≤ suc here = leb-true n (suc here) last in
          onward_cases P (q []) n 5 6 e refl (λ k. absurd (omega arith)) leave
      by_place false more =
          let left : suc here < n = leb-false n (suc here) more in
          onward_cases P (q p.history) n 5 (phase_after 5 p.history) e refl stay (λ k. absurd (omega arith))

-- ---- the close

-- "closed-cycle number up by one", "after 65,535 it goes on at 0"
pub closed_up : (p : Pool) → p.collector.closed < 65535 → (closes p).collector.closed ≡ p.collector.closed + 1
unfolding closes
closed_up p h = mod-eq_of_lt (let low : p.collector.closed + 1 < 65536 = omega arith in low)

pub closed_again : (p : Pool) → p.collector.closed ≡ 65535 → (closes p).collector.closed ≡ 0
unfolding closes
closed_again p e = ap next_closed e
