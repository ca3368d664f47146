-- The loop of `end_to_end`.
use Prim.Native.Nat.{◌+◌}
use mathlib.Core.Path.{◌≡◌}
use lib.ListN.{length, take}
use Rattle.join.specs.Joined.{sum}
use Rattle.join.proofs.end_to_end.Given as goal

abbrev pub invariant-loop-length : goal.invariant-loop-length
invariant-loop-length l = sum (take l.length-index l.lengths) + l.left ≡ length l.parts
