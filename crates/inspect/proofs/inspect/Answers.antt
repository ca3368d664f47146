-- `inspect::inspect` meets its contract: the tests before the links are the definition's, and the links are asked exactly if these hold. Assumes nothing.
use Prim.Native.Nat.{◌≤◌}
use mathlib.Core.Path.{◌≡◌, sym, ap, ◌∙◌}
use mathlib.Core.Bool.{Bool, ◌&&◌}
use borrow.Author.Tests.{leb-true}
use lib.Dec.{leb}
use lib.ListN.{get_or}
use Rattle.rules.specs.Size.{links}
use Rattle.laws.proofs.Tests.{and_left, and_right}
use Rattle.tables.specs.Lent.{seen}
use Rattle.clauses.specs.IsSound.{every}
use Rattle.clauses.specs.Inspected.{phase_fits, numbers_fit, links_fit, inspected}
use Rattle.inspect.proofs.Tested.{every_each}
use Rattle.inspect.proofs.inspect.Goals as goal
use Rattle.inspect.proofs.inspect.Goals.{After-phase_fits}

module _ (c : After-phase_fits) where
  abbrev low_lengths : Bool
  low_lengths = every (λ n. leb n (links c.args.s)) c.args.t.lengths.now

  abbrev collector_fits : Bool
  collector_fits = phase_fits c.args.s c.args.c (get_or c.args.t.lengths.now c.args.s.w 0)

  abbrev numbers : Bool
  numbers = numbers_fit c.args.s (seen c.args.t)

  abbrev rest : Bool
  rest = links_fit c.args.s (seen c.args.t) c.args.c

  tested : (c.at_most.result && c.phase_fits.result) ≡ (low_lengths && collector_fits)
  tested = simp (c.at_most.ensures, c.link_count.ensures.0, c.phase_fits.ensures, c.from.ensures)

pub returns-then-not-fits : goal.returns-then-not-fits
unfolding inspected
returns-then-not-fits c =
    let at = (goal.at.returns-then-not-fits c).After-phase_fits in
    ap (λ b. b && numbers at && rest at) (sym c.if-not-fits.true ∙ tested at)

pub links_fit-requires : goal.links_fit-requires
links_fit-requires c =
    let at = (goal.at.links_fit-requires c).After-phase_fits in
    let first = sym (tested at) ∙ c.if-not-fits.false in
    let most = links c.args.s in
    record {
      sizes = c.requires.0;
      exact = c.requires.1;
      low = every_each (λ n. leb n most) (λ n. n ≤ most) (λ n h. leb-true n most h) c.args.t.lengths.now (and_left (low_lengths at) _ first);
      phase = and_right (low_lengths at) _ first;
    }

pub returns-then-numbers_fit : goal.returns-then-numbers_fit
unfolding inspected
returns-then-numbers_fit c =
    let at = (goal.at.returns-then-numbers_fit c).After-phase_fits in
    c.links_fit.ensures ∙ (λ j. (sym c.if-not-fits.false ∙ tested at) j && (sym c.if-numbers_fit.true ∙ c.numbers_fit.ensures) j && rest at)

pub returns-else-numbers_fit : goal.returns-else-numbers_fit
unfolding inspected
returns-else-numbers_fit c =
    let at = (goal.at.returns-else-numbers_fit c).After-phase_fits in
    c.if-numbers_fit.false ∙ (λ j. (sym c.if-not-fits.false ∙ tested at) j && (sym c.if-numbers_fit.false ∙ c.numbers_fit.ensures) j && rest at)
