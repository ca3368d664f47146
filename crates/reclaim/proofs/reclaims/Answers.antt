-- `reclaim::reclaims` meets its contract: where the search finds none the step closes the cycle; else it frees what the search finds, or empties its unchanged links.
-- Assumes nothing.
use mathlib.Core.Path.{refl, sym, ap, ◌∙◌}
use mathlib.Core.List.{[]}
use native.Mathlib.Omega.{arith}
use Rattle.rules.specs.declared.Answer.TheVariants.{Stepped}
use Rattle.laws.proofs.Number.{bounds}
use Rattle.tables.specs.Bits.{word_count}
use Rattle.tables.specs.Tables.{Tables, put_used, put_held, put_candidates}
use Rattle.advance.proofs.Moved.{closing-moves}
use Rattle.reclaim.specs.Lent.{empties_on, frees_on, reclaims_on, InPool}
use Rattle.reclaim.proofs.Step.{close_asks, closed_on_lem, found_inside, freed_on, emptied_on}
use Rattle.reclaim.proofs.reclaims.Goals as goal
use Rattle.reclaim.proofs.reclaims.Goals.{In-Some, Start}

pub closes-requires : goal.closes-requires
closes-requires c =
    let known = c.requires.1 in
    (known.exact.candidates ∙ ap word_count (sym known.exact.counts), omega (arith, known.exact.counts, (bounds c.args.s known.sizes).n_most))

pub onward-requires : goal.onward-requires
onward-requires c = close_asks c.requires.1 c.requires.2

-- the tables at hand, among any others
abbrev lent : Start → Tables → Tables
lent c = reclaims_on c.args.used.now c.args.counts.now c.args.held.now c.args.candidates.now c.args.values.now c.args.changed.now

pub returns-in_default : goal.returns-in_default
returns-in_default c t known phase =
    closed_on_lem known phase (sym c.in_default.is ∙ c.reclaimed.ensures t c.args.c known) c.stepped.result
    (c.stepped.ensures ∙ ap (λ next. record { answer = Stepped; collector = next }) (c.onward.ensures [] refl ∙ closing-moves 1 [] c.args.c phase))
    _
    (λ j. put_held (sym c.closes.ensures.0 j) (put_candidates (sym c.closes.ensures.1 j) (lent (goal.at.returns-in_default c).Start t)))

-- what the search finds is a record of the pool at hand
inside : (c : In-Some) → InPool c.args.s (lent (goal.at.In-Some c).Start c.requires.0) c.args.c c.in-Some.a
inside c = found_inside c.requires.1 c.requires.2 c.in-Some.a (sym c.in-Some.is ∙ c.reclaimed.ensures c.requires.0 c.args.c c.requires.1)

pub unchanged-requires : goal.unchanged-requires
unchanged-requires c =
    let found = inside c in
    (record { sizes = found.known.sizes; some = found.some; low = found.low }, found.known.exact.changed)

pub empties-requires : goal.empties-requires
empties-requires c = (put_used c.args.used.now (put_held c.args.held.now c.requires.0), c.args.c, inside (goal.at.empties-requires c).In-Some)

pub returns-then-not-unchanged : goal.returns-then-not-unchanged
returns-then-not-unchanged c t known phase =
    let rest : Tables = put_used c.args.used.now (put_held c.args.held.now t) in
    emptied_on known phase c.in-Some.a (sym c.in-Some.is ∙ c.reclaimed.ensures t c.args.c known)
    (sym (c.unchanged.ensures (lent (goal.at.returns-then-not-unchanged c).Start t) c.args.c) ∙ c.if-not-unchanged.true)
    (empties_on c.empties.new.counts c.empties.new.candidates c.empties.new.values c.args.changed.now rest)
    (c.empties.ensures rest c.args.c)
    c.stepped-then-not-unchanged.result
    c.stepped-then-not-unchanged.ensures

pub frees-requires : goal.frees-requires
frees-requires c = (
  put_held c.args.held.now c.requires.0,
  c.args.c,
  record {
    inside = inside (goal.at.frees-requires c).In-Some;
    unchanged = sym (c.unchanged.ensures (lent (goal.at.frees-requires c).Start c.requires.0) c.args.c) ∙ c.if-not-unchanged.false;
  },
)

pub returns : goal.returns
returns c t known phase =
    let rest : Tables = put_held c.args.held.now t in
    freed_on known phase c.in-Some.a (sym c.in-Some.is ∙ c.reclaimed.ensures t c.args.c known)
    (sym (c.unchanged.ensures (lent (goal.at.returns c).Start t) c.args.c) ∙ c.if-not-unchanged.false)
    (frees_on c.frees.new.used c.frees.new.counts c.frees.new.candidates c.frees.new.values c.args.changed.now rest)
    (c.frees.ensures rest c.args.c)
