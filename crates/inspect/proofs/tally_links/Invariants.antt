-- The loops of `tally_links`.
use Prim.Native.Nat.{◌+◌, ◌*◌, ◌/◌}
use Rattle.inspect.proofs.Tallies.{Tallied}
use Rattle.inspect.proofs.tally_links.Given as goal

abbrev pub invariant-loop-four : goal.invariant-loop-four
invariant-loop-four l = Tallied l.last (l.four-index * 4) l.tally

abbrev pub invariant-loop-i : goal.invariant-loop-i
invariant-loop-i l = Tallied l.last (l.four-index * 4 + l.i) l.tally

abbrev pub invariant-loop-i-2 : goal.invariant-loop-i-2
invariant-loop-i-2 l = Tallied l.last (l.links / 4 * 4 + l.i) l.tally
