-- `inspect::links_fit` meets its contract: what each call tells of its part is put together by the law on the whole check. How often a link can have been seen so
-- far shows at each call that there is room for more. Assumes nothing.
use Prim.Native.Nat.{ℕ, ◌+◌, ◌-◌, ◌*◌, ◌≤◌}
use mathlib.Core.Path.{◌≡◌, sym, ap, ◌∙◌, subst}
use mathlib.Core.List.{List}
use native.Mathlib.Omega.{arith}
use native.Mathlib.Nat.{le_refl}
use lib.ListN.{length, get_or, take, drop, length-drop}
use lib.Seq.{length-take-le}
use Rattle.tables.specs.Lent.{seen}
use Rattle.tables.proofs.Logs.{LogTables}
use Rattle.laws.proofs.Number.{bounds}
use Rattle.clauses.specs.Entered.{Noted, once}
use Rattle.clauses.specs.Inspected.{uncleared_from, valued}
use Rattle.inspect.proofs.Most.{Most, most_zeros}
use Rattle.inspect.proofs.Noting.{entries_most}
use Rattle.inspect.proofs.Logs.{all_logs_most}
use Rattle.inspect.proofs.Links.{Cut, cut_order, links_checked}
use Rattle.inspect.proofs.links_fit.Goals as goal
use Rattle.inspect.proofs.links_fit.Goals.{After-enter-2, After-enter_logs-padded, After-from-end, After-take_values}

-- ---- where the history is cut

module _ (c : After-from-end) where
  abbrev history : List ℕ
  history = c.args.t.history.now

  abbrev to : ℕ
  to = c.from-to.result

  abbrev from : ℕ
  from = c.from-from.result

  abbrev end : ℕ
  end = c.from-end.result

  cut : Cut c.args.s (seen c.args.t) c.args.c to from end
  cut =
      let lengths = c.args.t.lengths.now in
      record {
        counted = c.from-to.ensures ∙ c.counted_to.ensures;
        uncleared = c.from-from.ensures ∙ c.uncleared_from.ensures ∙ ap (λ (i : ℕ). uncleared_from c.args.c (get_or lengths i 0)) c.from.ensures;
        whole = c.from-end.ensures ∙ ap (λ (i : ℕ). get_or lengths i 0) c.from.ensures;
      }

  order : (to ≤ from) × (from ≤ end) × (end ≤ 8208) × (end * 2 ≤ length history)
  order = cut_order c.requires cut

  right : LogTables c.args.s c.args.t.logs.now c.args.t.lengths.now
  right = record { sizes = c.requires.sizes; exact = c.requires.exact.logs; counted = c.requires.exact.lengths; low = c.requires.low }

  counted_long : length (take (to * 2) history) ≡ to * 2
  counted_long = length-take-le (to * 2) history (omega (arith, order))

  part_long : (low high : ℕ) → high ≤ end → length (take (high * 2 - low * 2) (drop (low * 2) history)) ≡ (high - low) * 2
  part_long low high h =
      length-take-le (high * 2 - low * 2) (drop (low * 2) history) (omega (arith, order, length-drop (low * 2) history))
      ∙ (let e : high * 2 - low * 2 ≡ (high - low) * 2 = omega arith in e)

  -- how often a link can have been seen after the counted entries, after the logs, and after the entries that are cleared and not yet counted
  abbrev most_counted : ℕ
  most_counted = 0 + to * once

  abbrev most_logged : ℕ
  most_logged = most_counted + 65664

  abbrev most_cleared : ℕ
  most_cleared = most_logged + (from - to) * once

pub slice_bounds-enter-end : goal.slice_bounds-enter-end
slice_bounds-enter-end c = sym (counted_long (goal.at.slice_bounds-enter-end c).After-from-end)

pub enter-requires : goal.enter-requires
enter-requires c = let at = (goal.at.enter-requires c).After-from-end in (c.requires.sizes, (0, most_zeros 0 8208, omega (arith, counted_long at, order at)))

-- ---- after the counted entries and the values

abbrev cutting : After-take_values → After-from-end
cutting c = (goal.at.After-take_values c).After-from-end

counted_most : (c : After-take_values) → Most (most_counted (cutting c)) c.take_values.new.self.seen
unfolding valued
counted_most c =
    let at = cutting c in
    subst (Most (most_counted at)) (ap (λ (x : Noted). x.seen) c.take_values.ensures)
    (entries_most _ _ once (to at) (take (to at * 2) (history at)) _ 0 (c.enter.ensures (to at) (counted_long at)) (most_zeros 0 8208))

pub enter_logs-padded-requires : goal.enter_logs-padded-requires
enter_logs-padded-requires c =
    let before = (goal.at.enter_logs-padded-requires c).After-take_values in
    let asked = c.requires in
    (asked.sizes, asked.exact.logs, asked.exact.lengths, asked.low, (most_counted (cutting before), counted_most before, omega (arith, order (cutting before))))

-- ---- after the logs

abbrev logging : After-enter_logs-padded → After-take_values
logging c = (goal.at.After-enter_logs-padded c).After-take_values

logged_most : (c : After-enter_logs-padded) → Most (most_logged (cutting (logging c))) c.enter_logs-padded.new.self.seen
logged_most c = all_logs_most (right (cutting (logging c))) _ (most_counted (cutting (logging c))) c.enter_logs-padded.ensures.entered (counted_most (logging c))

pub slice_bounds-enter-count : goal.slice_bounds-enter-count
slice_bounds-enter-count c = omega (arith, order (goal.at.slice_bounds-enter-count c).After-from-end)

pub slice_bounds-enter-start : goal.slice_bounds-enter-start
slice_bounds-enter-start c = omega (arith, order (goal.at.slice_bounds-enter-start c).After-from-end)

pub slice_bounds-enter-end-2 : goal.slice_bounds-enter-end-2
slice_bounds-enter-end-2 c = omega (arith, order (goal.at.slice_bounds-enter-end-2 c).After-from-end)

pub enter-requires-2 : goal.enter-requires-2
enter-requires-2 c =
    let before = (goal.at.enter-requires-2 c).After-enter_logs-padded in
    let at = cutting (logging before) in
    (c.requires.sizes, (most_logged at, logged_most before, omega (arith, order at, part_long at (to at) (from at) (order at).1)))

-- ---- after the entries that are cleared and not yet counted

cleared_most : (c : After-enter-2) → Most (most_cleared (goal.at.After-enter-2 c).After-from-end) c.enter-2.new.self.seen
cleared_most c =
    let before = (goal.at.After-enter-2 c).After-enter_logs-padded in
    let at = cutting (logging before) in
    entries_most _ _ once (from at - to at) (take (from at * 2 - to at * 2) (drop (to at * 2) (history at))) _ (most_logged at)
    (c.enter-2.ensures (from at - to at) (part_long at (to at) (from at) (order at).1)) (logged_most before)

pub slice_bounds-enter-count-2 : goal.slice_bounds-enter-count-2
slice_bounds-enter-count-2 c = omega (arith, order (goal.at.slice_bounds-enter-count-2 c).After-from-end)

pub slice_bounds-enter-start-2 : goal.slice_bounds-enter-start-2
slice_bounds-enter-start-2 c = omega (arith, order (goal.at.slice_bounds-enter-start-2 c).After-from-end)

pub enter-requires-3 : goal.enter-requires-3
enter-requires-3 c =
    let before = (goal.at.enter-requires-3 c).After-enter-2 in
    let at = (goal.at.enter-requires-3 c).After-from-end in
    (c.requires.sizes, (most_cleared at, cleared_most before, omega (arith, order at, part_long at (from at) (end at) (le_refl (end at)))))

-- ---- after the whole history

pub counts_match-requires : goal.counts_match-requires
counts_match-requires c = (omega (arith, c.requires.exact.counts, (bounds c.args.s c.requires.sizes).n_most), c.tally_links.ensures.1)

pub returns : goal.returns
returns c =
    let at = (goal.at.returns c).After-from-end in
    links_checked c.requires (cut at) c.link_count-links.ensures.0
    (c.enter.ensures (to at) (counted_long at))
    c.take_values.ensures
    c.enter_logs-padded.ensures.entered
    (c.enter-2.ensures (from at - to at) (part_long at (to at) (from at) (order at).1))
    (c.enter-3.ensures (end at - from at) (part_long at (from at) (end at) (le_refl (end at))))
    c.enter_logs-padded.ensures.padded
    c.all_zero.ensures
    c.unused_off.ensures
    c.marks_match.ensures
    c.tally_links.ensures.0
    c.counts_match.ensures
