-- The loop of `reclaimed`.
use Prim.Native.Nat.{ℕ, ◌+◌, ◌-◌, ◌≤◌, ◌<◌}
use mathlib.Core.Path.{◌≡◌}
use mathlib.Core.Bool.{false}
use Rattle.rules.specs.Size.{link_number}
use Rattle.tables.specs.Bits.{mark_at}
use Rattle.tables.specs.Lie.{record_number}
use Rattle.reclaim.proofs.Found.{Fails}
use Rattle.reclaim.proofs.reclaimed.Given as goal

abbrev pub invariant-loop-f : goal.invariant-loop-f
invariant-loop-f l =
    (g : ℕ) → g < l.f → mark_at l.changed (link_number l.s l.record g).0 ≡ false

abbrev pub invariant-records : goal.invariant-records
invariant-records l =
    (1 ≤ l.a) × (l.a ≤ l.s.n + 1) × ((b : ℕ) → b < l.a → 1 ≤ b → Fails l.s l.used l.counts l.held l.candidates l.values l.changed (record_number b))

abbrev pub decreases-records : goal.decreases-records
decreases-records l = l.s.n + 1 - l.a
