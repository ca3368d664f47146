-- The collector's record, and where it parts the history.
--     FitsPhase, phase_tells     the clauses on phase, position and history, and their test
--     Parted, parted             where the entries begin that are not yet cleared, and those that are not yet counted
-- Assumes nothing.
use Prim.Native.Nat.{ℕ, zero, suc, ◌≤◌, ◌<◌, zero-le}
use mathlib.Core.Path.{◌≡◌, refl, sym, ◌∙◌}
use mathlib.Core.Logic.Iff
use mathlib.Core.Bool.{◌&&◌, false≢true}
use mathlib.Core.List.{List, []}
use native.Mathlib.Omega.{arith}
use lib.Dec.{T, eqb, ltb}
use lib.ListN.{length, drop}
use lib.Seq.{drop-length}
use Rattle.rules.specs.declared.Sizes.{Sizes}
use Rattle.rules.specs.declared.Collector.{Collector}
use Rattle.rules.specs.Pool.{Entry}
use Rattle.rules.specs.Sound.{empty_in, entries_in}
use Rattle.soundness.proofs.Core.{positions_in, uncleared_in, uncounted_in}
use Rattle.clauses.specs.Inspected.{phase_fits, counted_to, uncleared_from}
use Rattle.clauses.proofs.Tests.{Tells, equal_tells, less_tells, empty_tells, ◌and◌}

-- the clauses of a sound pool that speak of the collector's record
pub record FitsPhase (s : Sizes) (history : List Entry) (phase position : ℕ) : Type 0 where
  pub most : phase ≤ 6
  pub inside : position < positions_in s phase history
  pub empty : T (empty_in phase) → history ≡ []
  pub entries : T (entries_in phase) → 0 < length history

module _ (s : Sizes) (history : List Entry) where
  -- a phase of one position, with an empty history
  rests : (k i : ℕ) → k ≤ 6 → positions_in s k history ≡ 1 → T (empty_in k) → (T (entries_in k) → ⊥)
      → Tells (eqb i 0 && eqb (length history) 0) (FitsPhase s history k i)
  rests k i most one none never =
      Iff.trans (equal_tells i 0 and empty_tells history) (
        λ (first, nothing). record { most = most; inside = omega arith; empty = λ _. nothing; entries = λ x. absurd (never x) },
        λ x. (omega (arith, x.inside), x.empty none),
      )

  -- a phase of a position for each of n
  goes : (k i n : ℕ) → k ≤ 6 → positions_in s k history ≡ n → (T (empty_in k) → ⊥) → (T (entries_in k) → n ≡ length history)
      → Tells (ltb i n) (FitsPhase s history k i)
  goes k i n most all never some =
      Iff.trans (less_tells i n) (
        λ here. record { most = most; inside = omega arith; empty = λ x. absurd (never x); entries = λ x. omega (arith, some x) },
        λ x. omega (arith, x.inside),
      )

  fits_at : (k i closed : ℕ) → Tells (phase_fits s (record { phase = k; position = i; closed = closed }) (length history)) (FitsPhase s history k i)
  unfolding phase_fits
  fits_at zero i closed = rests 0 i (omega arith) refl tt (λ x. x)
  fits_at (suc zero) i closed =
      Iff.trans (less_tells i s.w and empty_tells history) (
        λ (here, nothing). record { most = omega arith; inside = here; empty = λ _. nothing; entries = λ x. absurd x },
        λ x. (x.inside, x.empty tt),
      )
  fits_at (suc (suc zero)) i closed = goes 2 i s.w (omega arith) refl (λ x. x) (λ x. absurd x)
  fits_at (suc (suc (suc zero))) i closed = goes 3 i (length history) (omega arith) refl (λ x. x) (λ _. refl)
  fits_at (suc (suc (suc (suc zero)))) i closed = goes 4 i s.w (omega arith) refl (λ x. x) (λ x. absurd x)
  fits_at (suc (suc (suc (suc (suc zero))))) i closed = goes 5 i (length history) (omega arith) refl (λ x. x) (λ _. refl)
  fits_at (suc (suc (suc (suc (suc (suc zero)))))) i closed = rests 6 i (omega arith) refl tt (λ x. x)
  fits_at (suc (suc (suc (suc (suc (suc (suc k))))))) i closed = (λ h. absurd (false≢true h), λ x. absurd (omega (arith, x.most)))

  pub phase_tells : (c : Collector) → Tells (phase_fits s c (length history)) (FitsPhase s history c.phase c.position)
  phase_tells c = fits_at c.phase c.position c.closed

-- ---- the parts of the history

-- in a pool that fits so, `to` entries of the history are counted, and behind `from` it is not yet cleared
pub record Parted (phase position : ℕ) (history : List Entry) (to from : ℕ) : Type 0 where
  pub uncleared : uncleared_in phase position history ≡ drop from history
  pub uncounted : uncounted_in phase position history ≡ drop to history
  pub order : to ≤ from
  pub end : from ≤ length history

module _ (s : Sizes) (history : List Entry) where
  -- every phase but 2 and 3
  all_cleared : {k i to : ℕ} → uncleared_in k i history ≡ [] → uncounted_in k i history ≡ drop to history → to ≤ length history
      → Parted k i history to (length history)
  all_cleared cleared counted inside =
      record { uncleared = cleared ∙ sym (drop-length history); uncounted = counted; order = inside; end = omega arith }

  parted_at : (k i closed : ℕ) → FitsPhase s history k i
      → let c : Collector = record { phase = k; position = i; closed = closed } in Parted k i history (counted_to c) (uncleared_from c (length history))
  unfolding counted_to uncleared_from
  parted_at zero i closed x = all_cleared refl (sym (x.empty tt)) zero-le
  parted_at (suc zero) i closed x = all_cleared refl (sym (x.empty tt)) zero-le
  parted_at (suc (suc zero)) i closed x = record { uncleared = refl; uncounted = refl; order = omega arith; end = omega arith }
  parted_at (suc (suc (suc zero))) i closed x = record { uncleared = refl; uncounted = refl; order = omega arith; end = omega (arith, x.inside) }
  parted_at (suc (suc (suc (suc zero)))) i closed x = all_cleared refl refl zero-le
  parted_at (suc (suc (suc (suc (suc zero))))) i closed x = all_cleared refl refl (omega (arith, x.inside))
  parted_at (suc (suc (suc (suc (suc (suc zero)))))) i closed x = all_cleared refl (sym (x.empty tt)) zero-le
  parted_at (suc (suc (suc (suc (suc (suc (suc k))))))) i closed x = absurd (omega (arith, x.most))

  pub parted : (c : Collector) → FitsPhase s history c.phase c.position
      → Parted c.phase c.position history (counted_to c) (uncleared_from c (length history))
  parted c = parted_at c.phase c.position c.closed
