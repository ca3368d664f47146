-- `Writer::put_cycle` meets its contract: its parts are written one behind the other. Assumes nothing.
use Rattle.std.proofs.Common.{w32}
use Rattle.std.proofs.lemmas.Int.{to_z-of_z}
use Rattle.text.specs.Cycle.{cycle_text}
use Rattle.text.proofs.Puts.{puts_both}
use Rattle.text.proofs.writer.Writer.put_cycle.Goals as goal

pub returns : goal.returns
unfolding cycle_text
returns c =
    let net = rw (to_z-of_z w32 c.args.net c.ranges.net) at c.put_net.ensures in
    puts_both (puts_both (puts_both (puts_both (puts_both c.put_named.ensures c.put_named-2.ensures) c.put_named-3.ensures) c.put.ensures) net) c.put_byte.ensures
