-- `text::put_lines` meets its contract: a turn puts the first of the lines that are left, of which each has 24 bytes at most, 12 for each number of `answers`. Assumes
-- nothing.
use Rattle.std.proofs.Common.{rules, arith, ap, length, ◌+◌, ◌*◌, ◌/◌, ◌<◌}
use Rattle.text.proofs.Lines.{line_most, number_at, value_at, number_is, value_is, next_line, no_line}
use Rattle.text.proofs.Puts.{puts_next, ends}
use Rattle.text.proofs.put_lines.Goals as goal

pub loop-number-preserved : goal.loop-number-preserved
loop-number-preserved c =
    let at = c.loop-number in
    let i = at.number-index in
    let answers = c.args.answers.now in
    let pairs = c.as_chunks.result.0.now in
    let front = c.as_chunks.ensures.front in
    let here : i < length answers / 2 = omega (arith, c.as_chunks.ensures.front_len) in
    let few-digits = line_most c.up.new.self.number (number_at answers pairs i front here) (value_at answers pairs i front here) (omega (arith, c.up.ensures)) in
    let line = few-digits (omega (arith, number_is answers pairs i front here, (c.type_inv.answers (i * 2)).fits)) (omega (arith, value_is answers pairs i front here, (c.type_inv.answers (i * 2 + 1)).fits)) in
    record {
      same = search rules;
      long = search rules;
      few = omega (arith, line, c.put_line.ensures.len, at.invariant.few);
      counted = omega (arith, c.up.ensures, at.invariant.counted);
      wrote =
          puts_next _ c.put_line.ensures
          (rw (c.up.ensures, ← next_line answers pairs i front here at.last.number) at.invariant.wrote);
    }

pub returns : goal.returns
returns c =
    let at = c.loop-number in
    ends at.w at.invariant.wrote (no_line at.last.number c.args.answers.now _ (omega (arith, c.requires.events_behind.1, c.as_chunks.ensures.front_len))) (search rules) c.len.ensures
    (omega (arith, at.invariant.few, at.invariant.long, ap length c.new-w.ensures.out, c.requires.answers_in_bounds, c.as_chunks.ensures.front_len))
