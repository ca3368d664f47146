-- The loop of `look_up`.
use mathlib.Core.Path.{◌≡◌}
use mathlib.Core.List.{flatten}
use lib.ListN.{drop}
use Rattle.rules.specs.View.{times}
use Rattle.tables.specs.Lie.{logs_in}
use Rattle.count.proofs.look_up.Given as goal

abbrev pub invariant-loop-w : goal.invariant-loop-w
invariant-loop-w l = times l.l (flatten (drop l.w (logs_in l.s l.logs l.lengths))) ≡ 0
