-- The loop of `clear_maker`.
use mathlib.Core.Path.{◌≡◌}
use mathlib.Core.List.{◌++◌}
use lib.ListN.{take, drop}
use Rattle.gather.specs.Raw.{unmade}
use Rattle.gather.proofs.clear_maker.Given as goal

abbrev pub invariant-loop-maker : goal.invariant-loop-maker
invariant-loop-maker l = take l.maker-index l.makers ++ unmade l.w (drop l.maker-index l.makers) ≡ unmade l.w l.initial.makers
