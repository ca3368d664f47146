-- `text::decimal_places` meets its contract. The loop's invariant: the power of ten has as many zeros as places were counted behind the first, and the number has at
-- least so many places. The power is compared with a tenth of the number, so that it stays a number of 64 bits. Assumes nothing.
use Prim.Native.Nat.{suc}
use mathlib.Core.Path.{refl}
use native.Mathlib.Omega.{arith}
use Rattle.text.proofs.Digits.{decimal_20, decimal_most, decimal_least, decimal_some, power_some}
use Rattle.text.proofs.writer.decimal_places.Goals as goal

pub loop-power-init : goal.loop-power-init
loop-power-init c = (decimal_some c.args.n, 0, refl, refl)

pub overflow_add-places : goal.overflow_add-places
overflow_add-places c = omega (arith, decimal_20 c.args.n)

pub loop-power-smaller : goal.loop-power-smaller
loop-power-smaller c = omega (arith, power_some c.loop-power.invariant.1)

pub loop-power-preserved : goal.loop-power-preserved
loop-power-preserved c =
    let m = c.loop-power.invariant.1 in (
      omega (arith, decimal_least (suc m) c.args.n (omega arith) (omega arith)),
      suc m,
      omega arith,
      omega arith,
    )

pub returns : goal.returns
returns c = omega (arith, decimal_most (suc c.loop-power.invariant.1) c.args.n (omega arith) (omega arith) (omega arith))
