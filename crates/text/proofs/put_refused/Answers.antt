-- `text::put_refused` meets its contract: the word and the two numbers are written one behind the other. Assumes nothing.
use Rattle.std.proofs.Common.{rules, arith, ap, length}
use Rattle.text.specs.Text.{refused_text}
use Rattle.text.proofs.Lines.{two_most}
use Rattle.text.proofs.Puts.{puts_both, starts}
use Rattle.text.proofs.put_refused.Goals as goal

pub returns : goal.returns
unfolding refused_text
returns c =
    starts c.new-w.ensures.len (puts_both c.put.ensures (rw (c.from.ensures) at c.put_two.ensures))
    (omega (arith, two_most c.args.number c.args.place, ap length c.new-w.ensures.out, c.requires)) (search rules) c.len.ensures
