-- The loop of `run_events`.
use Prim.Native.Nat.{◌-◌}
use mathlib.Core.List.{[]}
use lib.ListN.{length}
use Rattle.tables.specs.Lent.{contents, SameTables}
use Rattle.trace.specs.Stretch.{ran_on}
use Rattle.trace.specs.Told.{told_on}
use Rattle.trace.proofs.Told.{Following}
use Rattle.trace.proofs.run_events.Given as goal

abbrev pub invariant-loop-size : goal.invariant-loop-size
invariant-loop-size g l =
    let teller = g.T.Teller in
    let start = contents l.fn.t in
    record {
      following :
          Following teller.told teller.fits l.s (ran_on l.s start l.fn.c l.bytes l.fn.place l.fn.step []) (told_on teller.told l.s start l.fn.c l.bytes l.fn.place l.fn.step l.fn.teller) l.bytes
          (contents l.t) l.ran.collector l.ran.next l.ran.step l.ran.events l.teller;
      lent : SameTables l.fn.t l.t;
    }

abbrev pub decreases-loop-size : goal.decreases-loop-size
decreases-loop-size g l = length l.bytes - l.ran.next
