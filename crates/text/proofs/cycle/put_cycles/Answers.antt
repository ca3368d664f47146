-- `text::cycle::put_cycles` meets its contract: a turn puts the first of the lines that are left, of which each has 114 bytes at most, 38 for each number of `numbers`.
-- Assumes nothing.
use Rattle.std.proofs.Common.{rules, arith, ap, length, ◌/◌, ◌<◌, ◌+◌, ℤ, w32, w64, FitsSigned}
use lib.IntN.{nat_abs}
use Rattle.std.proofs.lemmas.Int.{to_z-of_z}
use Rattle.text.proofs.Cycles.{taken_at, freed_at, net_at, Three, three, unsigned, no_cycle, cycle_most}
use Rattle.text.proofs.Puts.{puts_next, ends}
use Rattle.text.proofs.cycle.put_cycles.Goals as goal
use Rattle.text.proofs.cycle.put_cycles.Goals.{In-loop-taken}

-- the numbers of the cycle whose turn it is
module _ (c : In-loop-taken) where
  here : c.loop-taken.taken-index < length c.args.numbers.now / 3
  here = omega (arith, c.as_chunks.ensures.front_len, c.loop-taken-test.true)

  abbrev taken : ℤ
  taken = taken_at c.args.numbers.now c.as_chunks.result.0.now c.loop-taken.taken-index c.as_chunks.ensures.front here

  abbrev freed : ℤ
  freed = freed_at c.args.numbers.now c.as_chunks.result.0.now c.loop-taken.taken-index c.as_chunks.ensures.front here

  abbrev net : ℤ
  net = net_at c.args.numbers.now c.as_chunks.result.0.now c.loop-taken.taken-index c.as_chunks.ensures.front here

  its : Three c.args.numbers.now c.loop-taken.taken-index c.loop-taken.last taken freed net
  its = three c.args.numbers.now c.as_chunks.result.0.now c.loop-taken.taken-index c.as_chunks.ensures.front here c.loop-taken.last c.loop-taken.invariant.printable

  small : FitsSigned w32 net
  small = record { sfits = omega (arith, its.few) }

pub overflow_cast-taken : goal.overflow_cast-taken
overflow_cast-taken c = let turn = (goal.at.overflow_cast-taken c).In-loop-taken in unsigned (taken turn) (search rules) (its turn).taken-up

pub overflow_cast-freed : goal.overflow_cast-freed
overflow_cast-freed c = let turn = (goal.at.overflow_cast-freed c).In-loop-taken in unsigned (freed turn) (search rules) (its turn).freed-up

pub overflow_cast-net : goal.overflow_cast-net
overflow_cast-net c = let turn = (goal.at.overflow_cast-net c).In-loop-taken in rw (to_z-of_z w64 (net turn) (search rules)) (small turn)

pub put_cycle-requires-clause-net_bound : goal.put_cycle-requires-clause-net_bound
put_cycle-requires-clause-net_bound c =
    let turn = (goal.at.put_cycle-requires-clause-net_bound c).In-loop-taken in
    rw (to_z-of_z w64 (net turn) (search rules), to_z-of_z w32 (net turn) (small turn)) (its turn).few

pub loop-taken-preserved : goal.loop-taken-preserved
loop-taken-preserved c =
    let at = c.loop-taken in
    let turn = (goal.at.loop-taken-preserved c).In-loop-taken in
    let put =
    rw (to_z-of_z w64 (taken turn) (search rules), to_z-of_z w64 (freed turn) (search rules), to_z-of_z w64 (net turn) (search rules), to_z-of_z w32 (net turn) (small turn))
    at c.put_cycle.ensures in
    record {
      same = search rules;
      long = search rules;
      few = omega (arith, put.len, cycle_most (at.last + 1) (nat_abs (taken turn)) (nat_abs (freed turn)) (net turn), at.invariant.few);
      counted = omega (arith, at.invariant.counted);
      printable = (its turn).rest;
      wrote = puts_next _ put (rw (← (its turn).text) at.invariant.wrote);
    }

pub returns : goal.returns
returns c =
    let at = c.loop-taken in
    ends at.w at.invariant.wrote (no_cycle c.args.numbers.now _ at.last (omega (arith, c.as_chunks.ensures.front_len)) (omega (arith, c.as_chunks.ensures.front_len))) (search rules) c.len.ensures
    (omega (arith, at.invariant.few, at.invariant.long, ap length c.new-w.ensures.out, c.requires.numbers_in_bounds, c.as_chunks.ensures.front_len))
