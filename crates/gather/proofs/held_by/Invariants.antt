-- The loop of `held_by`.
use mathlib.Core.Path.{◌≡◌}
use lib.ListN.{drop}
use Rattle.gather.specs.Raw.{held_in}
use Rattle.gather.proofs.held_by.Given as goal

abbrev pub invariant-loop-a : goal.invariant-loop-a
invariant-loop-a l = held_in (drop l.a-index l.registers) l.held ≡ held_in l.registers l.initial.held
