-- `inspect::whole_matches` meets its contract: `whole_told`. Assumes nothing.
use Prim.Native.Nat.{ℕ, ◌<◌}
use mathlib.Core.Path.{◌≡◌, ap, ◌∙◌}
use mathlib.Core.Bool.{false, ◌&&◌}
use borrow.Author.Rules.{rules}
use lib.Dec.{eqb}
use lib.ListN.{get_or}
use Rattle.tables.specs.Bits.{digits}
use Rattle.inspect.proofs.Seen.{is_standing, whole_told}
use Rattle.inspect.proofs.whole_matches.Goals as goal

pub returns : goal.returns
returns c =
    let word = c.args.word in
    let seen = c.args.seen.now in
    let standing = c.word_of.result in
    let bits : (i : ℕ) → i < 64 → get_or (digits 64 standing) i false ≡ is_standing (get_or seen i 0) = λ i h. let k = c.word_of.ensures i h in search rules in
    ap (λ b. b && eqb standing word) c.seen_once.ensures ∙ whole_told word standing seen c.ranges.word.fits c.word_of.type_inv c.told-seen bits
