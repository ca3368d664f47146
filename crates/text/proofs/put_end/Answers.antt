-- `text::put_end` meets its contract: the word and the two numbers are written one behind the other. Assumes nothing.
use Rattle.std.proofs.Common.{rules, arith, ap, length}
use Rattle.text.specs.Text.{end_text}
use Rattle.text.proofs.Lines.{two_most}
use Rattle.text.proofs.Puts.{puts_both, starts}
use Rattle.text.proofs.put_end.Goals as goal

pub returns : goal.returns
unfolding end_text
returns c =
    starts c.new-w.ensures.len (puts_both c.put.ensures (rw (c.from.ensures, c.from-2.ensures) at c.put_two.ensures))
    (omega (arith, two_most c.args.free c.args.closed, ap length c.new-w.ensures.out, c.requires)) (search rules) c.len.ensures
