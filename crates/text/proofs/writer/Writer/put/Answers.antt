-- `Writer::put` meets its contract: the bytes are put behind the text. Assumes nothing.
use Rattle.std.proofs.Common.{rules}
use Rattle.text.proofs.Written.{written_same, written_front}
use Rattle.text.proofs.writer.Writer.put.Goals as goal

pub returns : goal.returns
returns c =
    let put = c.put_bytes-self.ensures in
    record { same = search rules; room = written_same put; len = put.place; wrote = written_front put c.requires }
