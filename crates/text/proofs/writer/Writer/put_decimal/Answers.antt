-- `Writer::put_decimal` meets its contract: the digits that std writes end where they have room. Assumes nothing.
use Rattle.std.proofs.Common.{rules, arith, ap, sym, length}
use Rattle.text.specs.Text.{decimal}
use Rattle.text.proofs.Digits.{decimal_is, decimal_20}
use Rattle.text.proofs.Puts.{ends_at}
use Rattle.text.proofs.writer.Writer.put_decimal.Goals as goal

pub overflow_add-end : goal.overflow_add-end
overflow_add-end c = omega (arith, decimal_20 c.args.n)

pub write_digits-requires : goal.write_digits-requires
write_digits-requires c = (omega (arith, ap length (decimal_is c.args.n (omega arith))), omega (arith, decimal_20 c.args.n))

pub returns : goal.returns
returns c =
    let is = sym (decimal_is c.args.n (omega arith)) in
    record {
      same = search rules;
      room = c.write_digits.auto.buf;
      len = omega (arith, ap length is);
      wrote =
          ends_at c.args.self.now.out.now c.write_digits.new.buf (decimal c.args.n) _ _ c.args.self.now.len _ (rw is at c.write_digits.ensures.start) (omega arith)
          (omega (arith, c.write_digits.auto.buf)) (rw is at c.write_digits.ensures.written) c.write_digits.ensures.before;
    }
