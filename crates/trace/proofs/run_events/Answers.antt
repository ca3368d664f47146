-- `trace::run_events` meets its contract: a turn does the event that stands at the place and tells of it, and the last one finds that none does. Assumes nothing.
use mathlib.Core.Path.{sym, ap}
use lib.ListN.{length}
use native.Mathlib.Omega.{arith}
use Rattle.tables.proofs.StillLent.{still_lent, lent_again}
use Rattle.trace.proofs.Told.{meets, following_starts, following_goes, following_ends}
use Rattle.trace.proofs.run_events.Goals as goal

pub loop-size-init : goal.loop-size-init
loop-size-init g c =
    record {
      following = following_starts g.T.Teller.told g.T.Teller.fits c.requires.known c.args.bytes.now c.args.place c.args.step c.args.teller.now c.requires.fits;
      lent = still_lent c.args.t.now;
    }

pub bounds-t-workers-in-Some : goal.bounds-t-workers-in-Some
bounds-t-workers-in-Some g c =
    let met = meets c.loop-size.invariant.following.going.known c.event_at-e.result c.event_known-done.ensures.done in
    omega (arith, met.lengths, c.from-workers.ensures)

pub invariant_of-turn : goal.invariant_of-turn
invariant_of-turn g c =
    let met = meets c.loop-size.invariant.following.going.known c.event_at-e.result c.event_known-done.ensures.done in
    record { had_le_has = rw c.from-workers.ensures met.grows }

pub tell-requires-clause-counts_len_bound : goal.tell-requires-clause-counts_len_bound
tell-requires-clause-counts_len_bound g c =
    let met = meets c.loop-size.invariant.following.going.known c.event_at-e.result c.event_known-done.ensures.done in
    rw (ap (λ t. length t.counts) c.to_read.ensures) met.counts

pub loop-size-preserved : goal.loop-size-preserved
loop-size-preserved g c =
    record {
      following =
          following_goes g.T.Teller.told g.T.Teller.fits c.args.bytes.now c.loop-size.ran.next c.loop-size.ran.step c.loop-size.invariant.following c.in-Some.ensures c.event_at-e.ensures
          c.event_known-done.ensures.done
          (rw (ap (λ t. t.counts) c.to_read.ensures, c.from-workers.ensures) at c.tell.ensures.told)
          c.tell.ensures.fits;
      lent = lent_again c.loop-size.invariant.lent c.event_known-done.ensures.same;
    }

pub returns-clause-ran : goal.returns-clause-ran
returns-clause-ran g c =
    (following_ends g.T.Teller.told g.T.Teller.fits c.args.bytes.now c.loop-size.ran.next c.loop-size.ran.step c.loop-size.invariant.following c.in_default.ensures).0

pub returns-clause-told : goal.returns-clause-told
returns-clause-told g c =
    sym (following_ends g.T.Teller.told g.T.Teller.fits c.args.bytes.now c.loop-size.ran.next c.loop-size.ran.step c.loop-size.invariant.following c.in_default.ensures).1
