-- `tables::mark::mark_standing` meets its contract, word by word. Assumes nothing.
use Prim.Native.Nat.{ℕ, ◌*◌, ◌<◌}
use mathlib.Core.Path.{◌≡◌}
use borrow.Author.Rules.{rules}
use lib.Bits.{bit_or}
use lib.ListN.{length, get_or, drop}
use Rattle.tables.specs.Bits.{number, stands}
use Rattle.tables.proofs.Standing.{with_words}
use Rattle.tables.proofs.mark.mark_standing.Goals as goal

pub returns : goal.returns
returns c =
    let words = c.args.words.now in
    let numbers = c.args.numbers.now in
    let x = c.args.x in
    let each : (i : ℕ) → i < length words → get_or c.join_standing.new.words i 0 ≡ bit_or (get_or words i 0) (number 64 (stands x (drop (i * 64) numbers))) =
    λ i h. let k = c.join_standing.ensures i h in search rules in
    with_words x numbers words c.join_standing.new.words (λ i. (c.slice_known-1.given i).fits) c.join_standing.auto.words each
