-- `count::counts` meets its contract. What is read is the entry at the position, whose numbers a sound pool keeps in range; what is written is the step on known
-- tables, at either end. Assumes nothing.
use Prim.Native.Nat.{ℕ, ◌*◌, ◌/◌, ◌≤◌, ◌<◌}
use mathlib.Core.Path.{◌≡◌, refl, sym, ap, ◌∙◌, subst, subst₂}
use mathlib.Core.List.{List, [], ◌++◌}
use native.Mathlib.Omega.{arith}
use lib.ListN.{length, get_or, drop, set, replicate}
use lib.Seq.{length-take-le}
use borrow.Author.Rules.{rules}
use Rattle.rules.specs.declared.Collector.{Collector}
use Rattle.rules.specs.declared.Answer.TheVariants.{Stepped}
use Rattle.rules.specs.Pool.{of_record}
use Rattle.rules.specs.View.{view_value}
use Rattle.tables.specs.Tables.{Tables, put_counts, put_candidates, put_history, put_lengths}
use Rattle.tables.specs.Lie.{pool_of}
use Rattle.tables.specs.Counted.{fewer, fallen, more}
use Rattle.tables.specs.Bits.{word_count, mark_at}
use Rattle.rules.specs.Size.{links}
use Rattle.count.specs.Looked.{OneEntry}
use Rattle.tables.proofs.Chunks.{chunk_at}
use mathlib.Core.Bool.{true}
use Rattle.tables.proofs.Entered.{entry_in}
use Rattle.advance.proofs.Moved.{others_move}
use Rattle.count.specs.Lent.{counts_on}
use Rattle.count.proofs.Entry.{Ready, ready, history_entries}
use Rattle.count.proofs.Step.{counted_in, counted_on, emptied_on}
use Rattle.count.proofs.counts.Goals as goal
use Rattle.count.proofs.counts.Goals.{After-falls, After-fill, After-from, After-rises, After-view_value-view, Start}

-- where the position has been read: the place that the answers go back to
abbrev read : After-rises → After-from
read c = (goal.at.After-rises c).After-from

-- the tables at hand, among any others
abbrev lent : Start → Tables → Tables
lent c =
    counts_on c.args.counts.now c.args.candidates.now c.args.values.now c.args.changed.now c.args.logs.now c.args.history.now c.args.lengths.now

-- what the answers below rest on
ready_at : (c : After-from) → Ready c.args.s (lent (goal.at.After-from c).Start c.requires.0) c.args.c c.from-last.result c.from.result
ready_at c = ready c.requires.1 c.requires.2 c.from-last.ensures c.from.ensures

-- the two numbers of the pair at the position are that entry's
here : (c : After-from) → c.from.result < length c.args.history.now / 2
here c = omega (arith, ready_at c)

link_is : (c : After-from) → get_or (get_or c.as_chunks.result.0.now c.from.result []) 0 0 ≡ (entry_in c.args.history.now c.from.result).link.0
link_is c = chunk_at 2 _ c.args.history.now c.from.result 0 c.as_chunks.ensures.front (here c) (omega arith) (omega arith)

old_is : (c : After-from) → get_or (get_or c.as_chunks.result.0.now c.from.result []) 1 0 ≡ (entry_in c.args.history.now c.from.result).old.0
old_is c = chunk_at 2 _ c.args.history.now c.from.result 1 c.as_chunks.ensures.front (here c) (omega arith) refl

pub bounds-as_chunks-from : goal.bounds-as_chunks-from
bounds-as_chunks-from c = omega (arith, here (goal.at.bounds-as_chunks-from c).After-from, c.as_chunks.ensures.front_len)

pub bounds-as_chunks-from-2 : goal.bounds-as_chunks-from-2
bounds-as_chunks-from-2 c = omega (arith, here (goal.at.bounds-as_chunks-from-2 c).After-from, c.as_chunks.ensures.front_len)

pub falls-requires : goal.falls-requires
falls-requires c =
    let at = (goal.at.falls-requires c).After-from in
    let r = ready_at at in
    let counts = c.args.counts.now in
    subst (λ (a : ℕ). (a ≤ length counts) × (length c.args.candidates.now ≡ word_count (length counts)) × (1 ≤ a → 1 ≤ of_record counts a 0))
    (sym (old_is at))
    (r.old, r.candidates, r.counted)

pub view_value-view-requires : goal.view_value-view-requires
view_value-view-requires c =
    let at = (goal.at.view_value-view-requires c).After-from in
    let r = ready_at at in
    let s = c.args.s in
    let changed = c.args.changed.now in
    subst (λ (l : ℕ). (l < links s) × (length c.args.values.now ≡ links s) × (length changed ≡ word_count (links s)) × (mark_at changed l ≡ true → OneEntry s c.args.logs.now c.args.lengths.now (record { 0 = l })))
    (sym (link_is at))
    (r.link, r.value, r.mark, r.one)

-- the count that fell is the old value's
fell : (c : After-falls) → let a : ℕ = (entry_in c.args.history.now c.from.result).old.0 in
    (c.falls.new.counts ≡ fewer a c.args.counts.now) × (c.falls.new.candidates ≡ fallen a c.args.counts.now c.args.candidates.now)
fell c =
    let is = old_is (goal.at.After-falls c).After-from in
    let ensured = c.falls.ensures in
    (ensured.0 ∙ ap (λ (a : ℕ). fewer a c.args.counts.now) is, ensured.1 ∙ ap (λ (a : ℕ). fallen a c.args.counts.now c.args.candidates.now) is)

-- the view value of the entry's link, in any pool that has these tables
seen : (c : After-view_value-view) (t : Tables) (x : Collector)
    → c.view_value-view.result ≡ view_value (pool_of c.args.s (lent (goal.at.After-view_value-view c).Start t) x) (entry_in c.args.history.now c.from.result).link
unfolding pool_of view_value
seen c t x =
    c.view_value-view.ensures t x
    ∙ ap (λ (l : ℕ). view_value (pool_of c.args.s (lent (goal.at.After-view_value-view c).Start t) x) (record { 0 = l })) (link_is (goal.at.After-view_value-view c).After-from)

pub rises-requires : goal.rises-requires
rises-requires c =
    let r = ready_at (goal.at.rises-requires c).After-from in
    subst₂ (λ (counts : List ℕ) (v : ℕ). (v ≤ length counts) × (of_record counts v 0 < 65535))
    (sym (fell (goal.at.rises-requires c).After-falls).0)
    (sym (ap (λ a. a.0) (seen (goal.at.rises-requires c).After-view_value-view c.requires.0 c.args.c)))
    (r.view, r.room)

-- both counts and the candidate marks, as they are written
written : (c : After-rises) (t : Tables) (x : Collector) → let at = lent (goal.at.After-rises c).Start t in
    counted_in c.args.s at x c.from.result ≡ put_counts c.rises.new.counts (put_candidates c.falls.new.candidates at)
written c t x =
    let down = fell (goal.at.After-rises c).After-falls in
    λ j.
    put_counts (sym (c.rises.ensures ∙ (λ k. more (seen (goal.at.After-rises c).After-view_value-view t x k).0 (down.0 k))) j)
    (put_candidates (sym down.1 j) (lent (goal.at.After-rises c).Start t))

pub overflow_add-c : goal.overflow_add-c
overflow_add-c c = omega (arith, ready_at (read (goal.at.overflow_add-c c).After-rises))

pub slice_bounds-fill-end : goal.slice_bounds-fill-end
slice_bounds-fill-end c = omega (arith, ready_at (read (goal.at.slice_bounds-fill-end c).After-rises))

pub slice_bounds-fill-end-then-n-c : goal.slice_bounds-fill-end-then-n-c
slice_bounds-fill-end-then-n-c c = sym (length-take-le _ _ (omega (arith, ready_at (read (goal.at.slice_bounds-fill-end-then-n-c c).After-rises))))

-- the history as it is written
cleared : (c : After-fill) → let n = get_or c.args.lengths.now c.from-last.result 0 in
    replicate (n * 2) 0 ++ drop (n * 2) c.args.history.now ≡ c.fill.new.self ++ drop (c.from-then-n-c.result * 2) c.args.history.now
cleared c =
    let history = c.args.history.now in
    let n = c.from-then-n-c in
    (λ j. replicate (sym n.ensures j * 2) 0 ++ drop (sym n.ensures j * 2) history)
    ∙ ap (λ front. front ++ drop (n.result * 2) history)
    (sym
    (c.fill.ensures.after (search rules)
    ∙ ap (λ (k : ℕ). replicate k 0) (length-take-le (n.result * 2) history (omega (arith, ready_at (read (goal.at.After-fill c).After-rises))))))

pub onward-requires : goal.onward-requires
onward-requires c = omega (arith, c.requires.2, ready_at (read (goal.at.onward-requires c).After-rises))

pub returns-then-n-c : goal.returns-then-n-c
returns-then-n-c c t known phase =
    let step =
    c.stepped.ensures
    ∙ ap (λ (x : Collector). record { answer = Stepped; collector = x }) (c.onward.ensures [] refl ∙ others_move _ _ c.args.c (λ e. omega arith)) in
    emptied_on known phase c.from-last.ensures c.from.ensures c.if-n-c.true
    ∙ (λ j.
    record {
      answer = (sym step j).answer;
      collector = (sym step j).collector;
      tables =
          put_history (cleared (goal.at.returns-then-n-c c).After-fill j)
          (put_lengths (set c.args.lengths.now c.from-last.result 0) (written (goal.at.returns-then-n-c c).After-rises t c.args.c j));
    })

pub returns : goal.returns
returns c t known phase =
    let many = history_entries known phase c.from-last.ensures c.from.ensures in
    let step =
    c.stepped-2.ensures
    ∙ ap (λ (x : Collector). record { answer = Stepped; collector = x }) (c.onward-2.ensures _ (sym many) ∙ others_move _ _ c.args.c (λ e. omega arith)) in
    counted_on known phase c.from-last.ensures c.from.ensures c.if-n-c.false
    ∙ (λ j. record { answer = (sym step j).answer; collector = (sym step j).collector; tables = written (goal.at.returns c).After-rises t c.args.c j })
