-- `gather::takes` meets its contract: the history has room for the worker's log, and what stood in the log's place is 0 after it. Assumes nothing.
use Prim.Native.Nat.{ℕ, ◌+◌, ◌-◌, ◌*◌}
use mathlib.Core.Path.{◌≡◌, sym, ap, ◌∙◌}
use native.Mathlib.Omega.{arith}
use borrow.Author.Rules.{rules}
use lib.ListN.{length, take, drop, set, replicate}
use Rattle.laws.proofs.Number.{bounds}
use Rattle.tables.specs.Bits.{word_count}
use Rattle.gather.proofs.Part.{part_length, part_copied, part_cleared}
use Rattle.gather.proofs.Here.{position_known, onward_asks}
use Rattle.gather.proofs.Moves.{onward-answers}
use Rattle.gather.proofs.Taken.{lengths_here, part_here, takes_on_lem}
use Rattle.gather.proofs.takes.Goals as goal

pub bounds-lengths-worker : goal.bounds-lengths-worker
bounds-lengths-worker c = omega (arith, position_known c.requires.1 2 c.requires.2, c.requires.1.exact.lengths)

pub bounds-lengths-worker-2 : goal.bounds-lengths-worker-2
bounds-lengths-worker-2 c = omega (arith, position_known c.requires.1 2 c.requires.2, c.requires.1.exact.lengths)

pub log_place-from-requires : goal.log_place-from-requires
log_place-from-requires c = (c.requires.1.sizes, position_known c.requires.1 2 c.requires.2)

pub slice_bounds-log-end : goal.slice_bounds-log-end
slice_bounds-log-end c =
    let ns = lengths_here c.requires.1 c.requires.2 _ _ c.from-worker.ensures c.from-last.ensures in
    omega (arith, part_here c.requires.1 c.requires.2 _ _ c.log_place-from.ensures (c.from.ensures ∙ ns.0))

pub slice_bounds-copy-end : goal.slice_bounds-copy-end
slice_bounds-copy-end c =
    let ns = lengths_here c.requires.1 c.requires.2 _ _ c.from-worker.ensures c.from-last.ensures in
    let part = part_here c.requires.1 c.requires.2 _ _ c.log_place-from.ensures (c.from.ensures ∙ ns.0) in
    omega (
      arith,
      ns,
      part_length c.args.logs.now c.log_place-from.result (c.log_place-from.result + c.from.result * 2) _ _ c.log_place-from.ensures.0 part.0 part.1,
      c.requires.1.exact.history,
    )

pub overflow_add-lengths : goal.overflow_add-lengths
overflow_add-lengths c = omega (arith, lengths_here c.requires.1 c.requires.2 _ _ c.from-worker.ensures c.from-last.ensures)

pub overflow_add-m : goal.overflow_add-m
overflow_add-m c = omega (arith, lengths_here c.requires.1 c.requires.2 _ _ c.from-worker.ensures c.from-last.ensures)

pub made_by-requires : goal.made_by-requires
made_by-requires c =
    let known = c.requires.1 in (
      known.exact.candidates ∙ ap word_count (sym known.exact.makers),
      omega (arith, known.exact.makers, (bounds c.args.s known.sizes).n_most),
      omega (arith, position_known known 2 c.requires.2, (bounds c.args.s known.sizes).w_most),
    )

pub onward-requires : goal.onward-requires
onward-requires c = onward_asks c.requires.1 2 (omega arith) c.requires.2

pub returns : goal.returns
returns c t known e =
    let logs = c.args.logs.now in
    let from : ℕ = c.log_place-from.result in
    let to : ℕ = from + c.from.result * 2 in
    let ns = lengths_here c.requires.1 c.requires.2 _ _ c.from-worker.ensures c.from-last.ensures in
    let begin = c.log_place-from.ensures.0 in
    let part = part_here c.requires.1 c.requires.2 _ _ c.log_place-from.ensures (c.from.ensures ∙ ns.0) in
    let emptied : c.fill.new.self ≡ replicate (length (take (to - from) (drop from logs))) 0 = search rules in
    let long = part_length logs from to _ _ begin part.0 part.1 in
    takes_on_lem known e
    (record {
      candidates = c.made_by.ensures.1;
      makers = c.made_by.ensures.0;
      logs = part_cleared logs from to _ _ begin part.0 part.1 emptied;
      history =
          part_copied logs from to _ _ begin part.0 part.1 c.args.history.now c.copy.ensures (omega (arith, long))
          (ap (λ (m : ℕ). m * 2) (c.from-end.ensures ∙ ns.1));
      lengths = λ j. set (set c.args.lengths.now (c.from-worker.ensures j) 0) (c.from-last.ensures j) (ns.1 j + ns.0 j);
    })
    (onward-answers c.args.s.w c.args.c (omega arith) c.stepped.ensures c.onward.ensures (λ j. ns.1 j + ns.0 j))
