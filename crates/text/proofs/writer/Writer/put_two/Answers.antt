-- `Writer::put_two` meets its contract: its four parts are written one behind the other. Assumes nothing.
use Rattle.text.specs.Text.{two_text}
use Rattle.text.proofs.Puts.{puts_both}
use Rattle.text.proofs.writer.Writer.put_two.Goals as goal

pub returns : goal.returns
unfolding two_text
returns c = puts_both (puts_both (puts_both c.put_decimal.ensures c.put_byte.ensures) c.put_decimal-2.ensures) c.put_byte-2.ensures
