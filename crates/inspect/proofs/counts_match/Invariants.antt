-- The loop of `counts_match`.
use Prim.Native.Nat.{ℕ, suc}
use mathlib.Core.Path.{◌≡◌}
use mathlib.Core.Bool.{Bool}
use mathlib.Core.List.{List}
use lib.Dec.{eqb}
use lib.ListN.{get_or}
use Rattle.clauses.specs.IsSound.{below}
use Rattle.clauses.specs.Tallied.{tally_of}
use Rattle.inspect.proofs.counts_match.Given as goal

-- the count of one record
abbrev pub matches : List ℕ → List ℕ → ℕ → Bool
matches counts tally i = eqb (tally_of tally (suc i)) (get_or counts i 0)

abbrev pub invariant-loop-i : goal.invariant-loop-i
invariant-loop-i l = l.ok ≡ below l.i (matches l.counts l.tally)
