-- `Writer::put_net` meets its contract, by the test of the sign. Assumes nothing.
use Rattle.std.proofs.Common.{arith, pos, ◌-ℤ◌, w32}
use Rattle.std.proofs.lemmas.Int.{ints, to_z-of_z}
use mir.Val.{SFits}
use Rattle.text.proofs.Below.{net_below, net_up}
use Rattle.text.proofs.Puts.{puts_both}
use Rattle.text.proofs.writer.Writer.put_net.Goals as goal

pub returns-then-net-lt0 : goal.returns-then-net-lt0
returns-then-net-lt0 c =
    let net = c.args.net in
    let held = to_z-of_z w32 net c.ranges.net in
    let negated : SFits w32 (pos 0 -ℤ net) = omega (arith, ints, c.requires.net_bound) in
    rw (net_below net (rw held at c.if-net-lt0.true)) (puts_both c.put_byte.ensures (rw (held, to_z-of_z w32 _ negated) at c.put_decimal.ensures))

pub returns-else-net-lt0 : goal.returns-else-net-lt0
returns-else-net-lt0 c =
    let net = c.args.net in
    let held = to_z-of_z w32 net c.ranges.net in
    rw (net_up net (rw held at c.if-net-lt0.false)) (rw held at c.put_decimal-else-net-lt0.ensures)
