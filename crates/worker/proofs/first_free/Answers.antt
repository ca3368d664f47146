-- `worker::first_free` meets its contract: `free_at`, or `free_nowhere` where the first mark that is off is no record's. Assumes nothing.
use native.Mathlib.Omega.{arith}
use Rattle.worker.proofs.Free.{free_at, free_nowhere}
use Rattle.worker.proofs.first_free.Goals as goal

pub returns-then-i-from : goal.returns-then-i-from
returns-then-i-from c =
    free_at c.args.n c.args.used.now c.args.from (omega (arith, c.requires.1)) c.requires.2 c.first_off-i.result c.first_off-i.ensures (omega (arith, c.from.ensures))

pub returns : goal.returns
returns c = free_nowhere c.args.n c.args.used.now c.args.from (omega (arith, c.requires.1)) c.requires.2 (omega (arith, c.first_off-i.ensures, c.from.ensures))
