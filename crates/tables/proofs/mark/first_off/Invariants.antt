-- The loop of `mark.first_off`.
use Prim.Native.Nat.{◌+◌, ◌*◌, ◌^◌, ◌<◌}
use mathlib.Core.Path.{◌≡◌}
use lib.ListN.{drop}
use Rattle.tables.specs.Bits.{bits_of, first_off}
use Rattle.tables.proofs.Searched.{left}
use Rattle.tables.proofs.mark.first_off.Given as goal

abbrev pub invariant-loop-i : goal.invariant-loop-i
invariant-loop-i l =
    (l.passed < 2 ^ 64) × (l.from + first_off (drop l.from (bits_of l.words)) ≡ l.i * 64 + left 64 (drop l.i l.words) l.passed)
