-- `inspect::tally_links` meets its contract. The loops' invariants: the links passed are tallied. Assumes nothing.
use Prim.Native.Nat.{ℕ, ◌+◌, ◌*◌, ◌/◌, ◌%◌, ◌≤◌, ◌<◌}
use mathlib.Core.Path.{◌≡◌, refl, ◌∙◌, subst}
use native.Mathlib.Omega.{arith}
use lib.ListN.{length, take}
use Rattle.inspect.proofs.Chunks.{part_long, part_at, rest_at}
use Rattle.inspect.proofs.Most.{most_more}
use Rattle.inspect.proofs.Tallies.{Tallied, none_yet, still_low, one_more}
use Rattle.inspect.proofs.tally_links.Goals as goal
use Rattle.inspect.proofs.tally_links.Goals.{After-from}

-- the first links are among all
short : (c : After-from) → c.from.result ≤ length c.args.last.now
short c = omega (arith, c.requires.1, c.told-last, c.from.ensures)

long : (c : After-from) → length (take c.from.result c.args.last.now) ≡ c.args.links
long c = part_long 4 c.from.result c.args.last.now (short c) ∙ c.from.ensures

pub loop-four-init : goal.loop-four-init
loop-four-init c = none_yet c.args.last.now c.requires.0

pub tally_link-requires : goal.tally_link-requires
tally_link-requires c =
    let h = c.loop-i-test.true in
    (omega arith, still_low c.loop-i.invariant (omega (arith, c.requires.1, c.loop-four-test.true, c.as_chunks.ensures.front_len, long (goal.at.tally_link-requires c).After-from)))

pub loop-i-preserved : goal.loop-i-preserved
loop-i-preserved c =
    let at = (goal.at.loop-i-preserved c).After-from in
    let q = c.loop-four.four-index in
    let inside : q < c.args.links / 4 = omega (arith, c.loop-four-test.true, c.as_chunks.ensures.front_len, long at) in
    one_more q c.loop-i.i c.loop-i-test.true refl (omega arith) refl
    (part_at 4 c.from.result c.args.last.now (short at) q c.loop-i.i c.as_chunks.ensures.front (omega (arith, inside, c.from.ensures)) c.loop-i-test.true refl (omega (arith, inside, c.from.ensures)))
    c.loop-i.invariant c.tally_link.ensures

pub tally_link-requires-in-loop-i-2 : goal.tally_link-requires-in-loop-i-2
tally_link-requires-in-loop-i-2 c =
    let few : c.loop-i-2.i < c.args.links % 4 = omega (arith, c.loop-i-2-test.true, c.as_chunks.ensures.back_len, long (goal.at.tally_link-requires-in-loop-i-2 c).After-from) in
    (omega arith, still_low c.loop-i-2.invariant (omega (arith, c.requires.1)))

pub loop-i-2-preserved : goal.loop-i-2-preserved
loop-i-2-preserved c =
    let at = (goal.at.loop-i-2-preserved c).After-from in
    let few : c.loop-i-2.i < c.args.links % 4 = omega (arith, c.loop-i-2-test.true, c.as_chunks.ensures.back_len, long at) in
    one_more (c.args.links / 4) c.loop-i-2.i (omega arith) refl (omega arith) refl
    (rest_at 4 c.from.result c.args.last.now (short at) c.loop-i-2.i c.as_chunks.ensures.back (omega (arith, c.from.ensures)) (omega (arith, c.from.ensures)))
    c.loop-i-2.invariant c.tally_link-in-loop-i-2.ensures

pub returns : goal.returns
returns c =
    let all : c.args.links / 4 * 4 + c.loop-i-2.i ≡ c.args.links =
    omega (arith, c.loop-i-2-test.false, c.loop-i-2.auto.i-end, c.as_chunks.ensures.back_len, long (goal.at.returns c).After-from) in
    let done = subst (λ (n : ℕ). Tallied c.args.last.now n c.loop-i-2.tally) all c.loop-i-2.invariant in
    (done.are, most_more c.loop-i-2.tally c.requires.1 done.most)
