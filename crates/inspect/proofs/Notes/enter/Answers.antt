-- `inspect::Notes::enter` meets its contract. The loop's invariant: the entries passed are noted. So each number seen is at most the bound before them and `by` for
-- each of them, and there is room for one more. Assumes nothing.
use Prim.Native.Nat.{suc, ◌+◌, ◌*◌, ◌/◌, ◌≤◌, ◌<◌}
use native.Mathlib.Omega.{arith}
use native.Mathlib.Nat.{mul-le-mul_right, suc-mul}
use lib.ListN.{length}
use Rattle.tables.proofs.Chunks.{chunk_at}
use Rattle.inspect.proofs.Most.{Most, most_at}
use Rattle.inspect.proofs.Noting.{entries_most, entered_next}
use Rattle.inspect.proofs.Notes.enter.Goals as goal

pub overflow_add-self : goal.overflow_add-self
overflow_add-self c =
    let at = c.loop-link in
    let by = c.args.by in
    let list = c.args.list.now in
    let k = at.link-index in
    let room = c.requires.1 in
    let most : Most (room.0 + k * by) at.self.seen = entries_most _ _ by k list _ room.0 at.invariant room.1 in
    let low : suc k ≤ length list = omega (arith, c.as_chunks.ensures.front_len) in
    omega (arith, room.2, most_at at.self.seen c.place_of-place.result most, mul-le-mul_right by low, suc-mul k by)

pub loop-link-preserved : goal.loop-link-preserved
loop-link-preserved c =
    let list = c.args.list.now in
    let k = c.loop-link.link-index in
    let chunks = c.as_chunks.ensures in
    let inside : k < length list / 2 = omega (arith, chunks.front_len, c.loop-link-test.true) in
    entered_next _ _ _ list k _ c.loop-link.invariant c.link_count-links.ensures.0
    (chunk_at 2 _ list k 0 chunks.front inside (omega arith) (omega arith)) (chunk_at 2 _ list k 1 chunks.front inside (omega arith) (omega arith))
    c.place_of-place.ensures.0
