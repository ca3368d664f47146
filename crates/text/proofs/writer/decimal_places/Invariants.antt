-- The loop of `decimal_places`.
use Prim.Native.Nat.{ℕ, suc, ◌-◌, ◌^◌, ◌≤◌}
use mathlib.Core.Path.{◌≡◌}
use lib.ListN.{length}
use Rattle.text.specs.Text.{decimal}
use Rattle.text.proofs.writer.decimal_places.Given as goal

abbrev pub invariant-loop-power : goal.invariant-loop-power
invariant-loop-power l =
    (l.places ≤ length (decimal l.n)) × (m : ℕ) × (l.places ≡ suc m) × (l.power ≡ 10 ^ m)

abbrev pub decreases-loop-power : goal.decreases-loop-power
decreases-loop-power l = l.n - l.power
