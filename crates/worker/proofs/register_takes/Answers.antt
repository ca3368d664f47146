-- `worker::register_takes` meets its contract. Assumes nothing.
use Prim.Native.Nat.{ℕ, ◌+◌, ◌*◌}
use mathlib.Core.Path.{ap, ◌∙◌}
use lib.ListN.{get_or, set}
use Rattle.tables.specs.Lie.{record_number}
use Rattle.worker.proofs.register_takes.Goals as goal

pub returns : goal.returns
returns c = (
  ap (λ (i : ℕ). record_number (get_or c.args.values.now i 0)) c.from-link.ensures,
  λ j. set c.args.registers.now ((c.register_place-to.ensures.0 ∙ (λ i. c.from.ensures i * c.args.s.r + c.from-2.ensures i)) j) (get_or c.args.values.now (c.from-link.ensures j) 0),
)
