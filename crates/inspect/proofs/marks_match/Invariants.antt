-- The loop of `marks_match`.
use Prim.Native.Nat.{◌*◌}
use mathlib.Core.Path.{◌≡◌}
use lib.ListN.{length}
use Rattle.clauses.specs.IsSound.{below}
use Rattle.inspect.proofs.Seen.{link_matches}
use Rattle.inspect.proofs.marks_match.Given as goal

abbrev pub invariant-loop-times : goal.invariant-loop-times
invariant-loop-times l = l.ok ≡ below (length l.yielded * 64) (link_matches l.changed l.seen)
