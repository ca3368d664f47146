-- `Writer::put_line` meets its contract: the step's digits, a space and the two numbers are written one behind the other. Assumes nothing.
use Rattle.std.proofs.Common.{arith, ap, length, ◌≤◌, ◌∙◌}
use Rattle.text.specs.Text.{line_text}
use Rattle.text.proofs.Digits.{decimal_some}
use Rattle.text.proofs.Puts.{puts_both, front_last}
use Rattle.text.proofs.writer.Writer.put_line.Goals as goal

pub returns : goal.returns
unfolding line_text
returns c =
    let digits = c.digits-digits in
    let some : 1 ≤ length digits.result.now = omega (arith, ap length digits.ensures, decimal_some c.args.step.now.number) in
    let whole = front_last digits.result.now some ∙ digits.ensures in
    puts_both (puts_both (rw whole at (puts_both c.put.ensures c.put_byte.ensures)) c.put_byte-2.ensures) (rw (c.from.ensures, c.from-2.ensures) at c.put_two.ensures)
