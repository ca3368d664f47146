-- `reports::report_text` meets its contract: the numbers of the cycles that close have room, since an event has at least 7 bytes and closes one cycle at most, and their
-- text is that of the cycles' lines. Assumes nothing.
use Prim.Native.Nat.{◌+◌, ◌*◌, ◌≤◌}
use mathlib.Core.Path.{◌≡◌, sym, ap, ◌∙◌}
use native.Mathlib.Omega.{arith}
use native.Mathlib.Nat.{zero-add}
use lib.ListN.{length}
use lib.Seq.{length-take-le}
use Rattle.std.proofs.Common.{rules}
use Rattle.rules.specs.Sound.{Each}
use Rattle.tables.specs.Lent.{contents}
use Rattle.cycles.specs.Slice.{put_cycles, put_from}
use Rattle.cycles.proofs.Small.{SmallNet}
use Rattle.parts.specs.Work.{Work}
use Rattle.parts.specs.Begun.{whole_work}
use Rattle.parts.proofs.Most.{events_most}
use Rattle.parts.proofs.First.{whole_lines, whole_sound}
use Rattle.reports.specs.Told.{PartTold, told_work}
use Rattle.reports.proofs.Told.{part_kept, cycles_most, cycles_small}
use Rattle.reports.proofs.Lines.{kept_printable, kept_printed}
use Rattle.reports.proofs.report_text.Goals as goal
use Rattle.reports.proofs.report_text.Goals.{After-part_told-part}

module _ (c : After-part_told-part) where
  abbrev work : Work
  work = whole_work c.args.x.progress (contents c.args.t.now) c.args.last c.args.bytes.now

  -- what the events tell
  abbrev told : PartTold
  told = told_work c.args.x.tally work

  put_there : c.part_told-part.new.teller.numbers.now ≡ put_cycles c.args.numbers.now told.cycles
  unfolding put_from
  put_there = ap (λ z. z.numbers.now) (c.part_told-part.ensures.told ∙ part_kept work _)

  tally_is : c.part_told-part.new.teller.tallied.tally ≡ told.tally
  tally_is = ap (λ z. z.tallied.tally) (c.part_told-part.ensures.told ∙ part_kept work _)

  count : c.part_told-part.new.teller.tallied.cycles ≡ length told.cycles
  count = ap (λ z. z.tallied.cycles) (c.part_told-part.ensures.told ∙ part_kept work _) ∙ zero-add (length told.cycles)

  -- no more cycles close than there are events
  most : c.part_told-part.new.teller.tallied.cycles ≤ c.part_told-part.result.events
  most =
      omega
      (arith, count, cycles_most work c.args.x.progress.reader.step c.args.x.tally, ap length (whole_lines c.requires.ready.set c.args.last c.args.bytes.now), c.part_told-part.ensures.takes.events)

  -- "an event has at least 7 bytes"
  few : c.part_told-part.new.teller.tallied.cycles * 7 ≤ length c.args.bytes.now
  few = omega (arith, most, events_most c.args.x.progress (contents c.args.t.now) c.args.last c.args.bytes.now c.part_told-part.ensures.takes)

  -- so that their numbers have room
  fits : c.part_told-part.new.teller.tallied.cycles * 3 ≤ length c.args.numbers.now
  fits = omega (arith, few, c.requires.has_room.cycles)

  small : Each SmallNet told.cycles
  small = cycles_small work (whole_sound c.requires.ready.set c.args.last c.args.bytes.now) c.args.x.tally c.requires.ready.few.opening

pub slice_bounds-put_cycles-end : goal.slice_bounds-put_cycles-end
slice_bounds-put_cycles-end c = let fits = fits (goal.at.slice_bounds-put_cycles-end c).After-part_told-part in search rules

pub slice_bounds-put_cycles-end-2 : goal.slice_bounds-put_cycles-end-2
slice_bounds-put_cycles-end-2 c = sym (length-take-le _ _ (slice_bounds-put_cycles-end c))

pub put_cycles-size-requires-clause-printable : goal.put_cycles-size-requires-clause-printable
put_cycles-size-requires-clause-printable c =
    let call = (goal.at.put_cycles-size-requires-clause-printable c).After-part_told-part in
    let name = sym (ap (λ z. z.numbers.ghost_name) (c.part_told-part.ensures.told ∙ part_kept (work call) _)) in
    kept_printable c.args.x.cycles (told call).cycles c.args.numbers.now (search rules) (put_there call) (count call) (fits call) (small call)

pub put_cycles-size-requires-clause-numbers_in_bounds : goal.put_cycles-size-requires-clause-numbers_in_bounds
put_cycles-size-requires-clause-numbers_in_bounds c =
    omega (arith, sym (slice_bounds-put_cycles-end-2 c), few (goal.at.put_cycles-size-requires-clause-numbers_in_bounds c).After-part_told-part, c.requires.has_room.lines)

pub returns-clause-report : goal.returns-clause-report
returns-clause-report c =
    let call = (goal.at.returns-clause-report c).After-part_told-part in
    let name = sym (ap (λ z. z.numbers.ghost_name) (c.part_told-part.ensures.told ∙ part_kept (work call) _)) in
    let takes = c.part_told-part.ensures.takes in
    record {
      stood = takes.stood;
      left = takes.left;
      tally = tally_is call;
      cycles = ap (λ n. c.args.x.cycles + n) (count call);
      lines = kept_printed c.args.x.cycles (told call).cycles c.args.numbers.now (search rules) (put_there call) (count call) (fits call) (small call) c.put_cycles-size.ensures;
      ready =
          record {
            set = takes.set;
            few = c.part_told-part.ensures.fits.0;
            fewer = omega (arith, takes.step, most call, c.requires.ready.fewer);
          };
    }
