-- The loop of `put_cycles`: what is written and the lines of the cycles that are left are all.
use Prim.Native.Nat.{◌+◌, ◌*◌, ◌≤◌}
use mathlib.Core.Path.{◌≡◌}
use mathlib.Core.List.{◌++◌}
use lib.ListN.{length, drop}
use Rattle.text.specs.Cycle.{cycles_text, Printable}
use Rattle.text.specs.Writer.{written}
use Rattle.text.proofs.cycle.put_cycles.Given as goal

abbrev pub invariant-loop-taken : goal.invariant-loop-taken
invariant-loop-taken l =
    record {
      same : l.w.out.ghost_name ≡ l.initial.w.out.ghost_name;
      long : length l.w.out.now ≡ length l.initial.w.out.now;
      few : l.w.len ≤ l.taken-index * 114;
      counted : l.last ≡ l.before + l.taken-index;
      printable : Printable (drop (l.taken-index * 3) l.numbers);
      wrote : written l.w ++ cycles_text l.last (drop (l.taken-index * 3) l.numbers) ≡ cycles_text l.before l.numbers;
    }
