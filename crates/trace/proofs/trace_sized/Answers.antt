-- `trace::trace_sized` meets its contract: `fresh` leaves a sound pool where it does not refuse, the events are done on it, and what stands behind them says how
-- the trace ends. Assumes nothing.
use mathlib.Core.Path.{sym, ap, ◌∙◌}
use mathlib.Core.Bool.{true}
use mathlib.Core.List.{[]}
use Rattle.tables.specs.Lent.{contents}
use Rattle.tables.proofs.StillLent.{lent_again}
use Rattle.fresh.specs.Free.{free_in}
use Rattle.trace.specs.Stand.{stand_behind}
use Rattle.trace.proofs.Sized.{fresh-refused, inexact, untold, fresh_starts, started_known, sized_told, sized-ends}
use Rattle.trace.proofs.trace_sized.Goals as goal

pub returns-in-Refused-clause-done : goal.returns-in-Refused-clause-done
returns-in-Refused-clause-done g c =
    fresh-refused c.args.s (contents c.args.t.now) c.args.c c.requires.range c.fresh-made.ensures.made c.in-Refused.why c.in-Refused.is c.args.bytes.now c.args.place []
    ∙ ap (λ r. record { replay = r; tables = contents c.fresh-made.new.t; answers = [] }) (sym c.stops.ensures)

pub returns-in-Refused-clause-told : goal.returns-in-Refused-clause-told
returns-in-Refused-clause-told g c =
    untold g.T.Teller.told c.args.s (contents c.args.t.now) c.args.bytes.now c.args.place c.args.teller.now
    (inexact c.args.s (contents c.args.t.now) c.args.c c.requires.range c.fresh-made.ensures.made c.in-Refused.why c.in-Refused.is)

pub run_events-ran-requires : goal.run_events-ran-requires
run_events-ran-requires g c =
    record {
      known = started_known c.requires.range (fresh_starts c.args.s (contents c.args.t.now) c.args.c c.requires.range c.fresh-made.ensures.made c.in_default.not-Refused);
      fits = c.requires.fits;
    }

pub returns : goal.returns
returns g c =
    let started = fresh_starts c.args.s (contents c.args.t.now) c.args.c c.requires.range c.fresh-made.ensures.made c.in_default.not-Refused in
    record {
      done =
          sized-ends c.requires.range started c.args.c c.args.bytes.now c.args.place [] {stood = c.stand_behind-stood.result} c.run_events-ran.ensures.ran
          (c.stand_behind-stood.ensures
          ∙ (λ j. stand_behind true (free_in c.args.s.n (c.to_read.ensures j).used) c.run_events-ran.result.collector.closed c.args.bytes.now c.run_events-ran.result.next (c.behind-reader.ensures j)))
          c.ending_of.ensures;
      told = c.run_events-ran.ensures.told ∙ sized_told c.requires.range started g.T.Teller.told c.args.bytes.now c.args.place c.args.teller.now;
      same = lent_again c.fresh-made.ensures.same c.run_events-ran.ensures.same;
    }
