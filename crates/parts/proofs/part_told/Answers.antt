-- `parts::part_told` meets its contract: a part begins with its events, or there is nothing to do. Assumes nothing.
use mathlib.Core.Path.{◌≡◌, sym, ap, ◌∙◌, subst}
use mathlib.Core.List.{[]}
use native.Mathlib.Omega.{arith}
use Rattle.tables.specs.Lent.{contents}
use Rattle.tables.proofs.StillLent.{still_lent}
use Rattle.parts.specs.declared.Part.{Part}
use Rattle.parts.specs.Arrays.{front}
use Rattle.parts.proofs.Front.{within}
use Rattle.parts.proofs.Rest.{ran_steps}
use Rattle.parts.proofs.First.{goes-taken, goes-told, stays-told}
use Rattle.parts.proofs.part_told.Goals as goal

pub run_front-ran-requires-clause-within : goal.run_front-ran-requires-clause-within
run_front-ran-requires-clause-within g c =
    let goes = c.in-Continue.ensures (contents c.args.t.now) (ap (λ t. t.used) (sym c.to_read.ensures)) c.requires.set in
    within c.in-Continue.y.sizes (contents c.args.t.now) goes.holds.small c.requires.set.long

pub returns-in-Break : goal.returns-in-Break
returns-in-Break g c =
    let stays = c.in-Break.ensures (contents c.args.t.now) (ap (λ t. t.used) (sym c.to_read.ensures)) c.requires.set in
    let takes = stays.takes [] in
    let step : c.args.x.reader.step ≡ c.in-Break.part.progress.reader.step = omega (arith, takes.step, stays.none) in
    record {
      takes = takes;
      told = stays-told stays g.T.Teller.told c.args.teller.now;
      fits = subst (g.T.Teller.fits c.args.teller.now) step c.requires.fits;
      same = still_lent c.args.t.now;
    }

pub returns-in-Continue : goal.returns-in-Continue
returns-in-Continue g c =
    let goes = c.in-Continue.ensures (contents c.args.t.now) (ap (λ t. t.used) (sym c.to_read.ensures)) c.requires.set in
    let y = c.in-Continue.y in
    let ran = c.run_front-ran.result in
    let steps = ran_steps y.sizes (front y.sizes (contents c.args.t.now)) y.collector c.args.bytes.now c.in-Continue.place c.args.x.reader.step [] c.run_front-ran.ensures.ran.same in
    let ends = rw (c.behind.ensures, ap (λ t. t.used) c.to_read-in-Continue.ensures) at c.end_part.ensures in
    let takes = goes-taken c.args.last c.args.bytes.now goes c.requires.set [] {left = contents c.run_front-ran.new.t} c.run_front-ran.ensures.ran ends in
    let step : ran.step ≡ c.end_part.result.progress.reader.step = omega (arith, takes.step, steps, ap (λ (z : Part). z.events) ends) in
    record {
      takes = takes;
      told = c.run_front-ran.ensures.told ∙ goes-told c.args.last c.args.bytes.now goes g.T.Teller.told c.args.teller.now;
      fits = subst (g.T.Teller.fits c.run_front-ran.new.teller) step c.run_front-ran.ensures.fits;
      same = c.run_front-ran.ensures.same;
    }
