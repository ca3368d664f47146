-- `tables::mark::set_mark` meets its contract: one bit of one word is another. Assumes nothing.
use Prim.Native.Nat.{◌^◌, ◌<◌}
use native.Mathlib.Omega.{arith}
use Rattle.laws.proofs.Lists.{Each-places}
use Rattle.tables.proofs.Packed.{word_marked}
use Rattle.tables.proofs.mark.set_mark.Goals as goal

pub returns : goal.returns
returns c =
    let words = c.args.words.now in
    word_marked words c.args.place c.with_bit.result c.args.on
    (Each-places (λ x. x < 2 ^ 64) 0 words (λ i h. (c.slice_known-1.given i).fits))
    (omega arith)
    c.requires
    c.with_bit.ensures
