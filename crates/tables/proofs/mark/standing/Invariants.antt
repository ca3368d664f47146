-- The loop of `mark.standing`.
use mathlib.Core.Path.{◌≡◌}
use Rattle.tables.specs.Bits.{number, stands}
use Rattle.tables.proofs.mark.standing.Given as goal

abbrev pub invariant-loop-i : goal.invariant-loop-i
invariant-loop-i l = l.word ≡ number l.i (stands l.x l.numbers)
