-- The loop of `put_lines`: what is written and the lines of the events that are left are all.
use Prim.Native.Nat.{◌+◌, ◌*◌, ◌≤◌}
use mathlib.Core.Path.{◌≡◌}
use mathlib.Core.List.{◌++◌}
use lib.ListN.{length, drop}
use Rattle.text.specs.Text.{lines_text}
use Rattle.text.specs.Writer.{written}
use Rattle.text.proofs.put_lines.Given as goal

abbrev pub invariant-loop-number : goal.invariant-loop-number
invariant-loop-number l =
    record {
      same : l.w.out.ghost_name ≡ l.initial.w.out.ghost_name;
      long : length l.w.out.now ≡ length l.initial.w.out.now;
      few : l.w.len ≤ l.number-index * 24;
      counted : l.last.number ≡ l.step + l.number-index;
      wrote : written l.w ++ lines_text l.last.number (drop (l.number-index * 2) l.answers) ≡ lines_text l.step l.answers;
    }
