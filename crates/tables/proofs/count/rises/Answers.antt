-- `tables::count::rises` meets its contract. Of none nothing changes; the count of another stands at its place. Assumes nothing.
use Prim.Native.Nat.{◌+◌}
use mathlib.Core.Path.{refl}
use native.Mathlib.Omega.{arith}
use Rattle.tables.specs.Counted.{more}
use Rattle.tables.proofs.Counted.{changed_here}
use Rattle.tables.proofs.count.rises.Goals as goal

pub returns-then-a-eq0 : goal.returns-then-a-eq0
unfolding more
returns-then-a-eq0 c = rw c.if-a-eq0.true refl

pub returns : goal.returns
unfolding more
returns c =
    changed_here c.args.counts.now (λ n. n + 1) c.args.a.0 c.record_place-place.result (omega arith) c.record_place-place.ensures
