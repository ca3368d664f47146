-- `cycles::put_closed` meets its contract, by whether a cycle closes and the test of the room. Assumes nothing.
use Rattle.std.proofs.Common.{arith, ◌≡◌, pos, to_z, of_z, w64}
use Rattle.std.proofs.lemmas.Int.{ints}
use Rattle.cycles.proofs.Placed.{put_here, put_past}
use Rattle.cycles.proofs.put_closed.Goals as goal
use Rattle.cycles.proofs.put_closed.Goals.{then-cycles-numbers, else-cycles-numbers}

pub returns : goal.returns
returns c =
    let at = c.args.cycles in
    let room = c.args.numbers.now in
    let cycle = c.in-Some.c in
    let few = rw c.in-Some.is at c.requires.few in
    let taken : to_z w64 cycle.taken ≡ pos cycle.taken = omega (arith, ints, few.0) in
    let freed : to_z w64 cycle.freed ≡ pos cycle.freed = omega (arith, ints, few.1) in
    rw c.in-Some.is (elim c.if-cycles-numbers.branch [
      | then-cycles-numbers w ↦ let net : to_z w64 (of_z w64 w.from.result) ≡ cycle.net = omega (arith, ints, w.from.ensures) in rw (w.numbers-is, w.copy_from_slice.ensures.after, taken, freed, net) (put_here at room cycle (omega arith) w.if-cycles-numbers.true)
      | else-cycles-numbers w ↦ rw w.numbers-is (put_past at room cycle w.if-cycles-numbers.false)
    ])
