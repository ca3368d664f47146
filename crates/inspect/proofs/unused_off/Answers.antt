-- `inspect::unused_off` meets its contract: `packed_whole`, or `packed_last`. Assumes nothing.
use Prim.Native.Nat.{ℕ, ◌/◌, ◌%◌, ◌^◌, ◌<◌}
use mathlib.Core.Path.{sym, ap, ◌∙◌}
use native.Mathlib.Omega.{arith}
use borrow.Author.Tests.{eq-eqb}
use lib.Dec.{eqb}
use lib.ListN.{get_or}
use Rattle.laws.proofs.Lists.{Each-places}
use Rattle.inspect.proofs.Unused.{packed_whole, packed_last}
use Rattle.inspect.proofs.unused_off.Goals as goal

pub returns-then-rest-eq0 : goal.returns-then-rest-eq0
returns-then-rest-eq0 c =
    let words = c.args.words.now in
    eq-eqb _ 0 c.if-rest-eq0.true
    ∙ sym (packed_whole c.args.n words c.requires (Each-places (λ x. x < 2 ^ 64) 0 words (λ i h. (c.type_inv.words i).fits)) (omega (arith, c.from-end.ensures, c.if-rest-eq0.true)))

pub returns-else-rest-eq0 : goal.returns-else-rest-eq0
returns-else-rest-eq0 c =
    let words = c.args.words.now in
    ap (λ (k : ℕ). eqb (get_or words (k / 64) 0 / 2 ^ (k % 64)) 0) c.from-end.ensures
    ∙ sym (packed_last c.args.n words c.requires (Each-places (λ x. x < 2 ^ 64) 0 words (λ i h. (c.type_inv.words i).fits)) (omega (arith, c.from-end.ensures, c.if-rest-eq0.false)))
