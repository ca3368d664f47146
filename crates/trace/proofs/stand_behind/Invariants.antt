-- The loop of `stand_behind`: so many fields may still come.
use Prim.Native.Nat.{◌-◌}
use mathlib.Core.Path.{◌≡◌}
use Rattle.fresh.specs.Free.{free_in}
use Rattle.trace.specs.Stand.{stood, stand_behind}
use Rattle.trace.proofs.stand_behind.Given as goal

abbrev pub invariant-loop : goal.invariant-loop
invariant-loop l =
    let free = free_in l.n l.used in stood (2 - l.counter) l.last free l.closed l.bytes l.next l.now ≡ stand_behind l.last free l.closed l.bytes l.fn.place l.fn.reader
