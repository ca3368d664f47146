-- The loop of `rest_matches`.
use mathlib.Core.Path.{◌≡◌}
use Rattle.clauses.specs.IsSound.{below}
use Rattle.inspect.specs.Parts.{matches}
use Rattle.inspect.proofs.rest_matches.Given as goal

abbrev pub invariant-loop-i : goal.invariant-loop-i
invariant-loop-i l = l.ok ≡ below l.i (matches l.word l.seen)
