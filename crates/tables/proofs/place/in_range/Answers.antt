-- `tables::place::in_range` meets its contract: each range is the definition's. Assumes nothing.
use Prim.Native.Nat.{ℕ}
use mathlib.Core.Path.{◌≡◌, ◌∙◌}
use mathlib.Core.Bool.{Bool, false, cond, ◌&&◌}
use lib.Dec.{leb}
use borrow.Author.Rules.{rules}
use Rattle.std.specs.Ordering.{is_le, is_lt, nat_cmp}
use Rattle.rules.specs.Size.{between, in_range}
use Rattle.tables.proofs.place.in_range.Goals as goal

le_is : (a b : ℕ) → is_le (nat_cmp a b) ≡ leb a b
le_is a b = search rules

told : (low high n start end : ℕ) (over b : Bool) → b ≡ (is_le (nat_cmp start n) && cond over (is_lt (nat_cmp n end)) (is_le (nat_cmp n end)))
    → start ≡ low → end ≡ high → over ≡ false → b ≡ between low high n
told low high n start end over b e s t o =
    e
    ∙ (λ j. is_le (nat_cmp (s j) n) && cond (o j) (is_lt (nat_cmp n (t j))) (is_le (nat_cmp n (t j))))
    ∙ (λ j. le_is low n j && le_is n high j)

pub returns : goal.returns
unfolding in_range
returns c =
    let s = c.args.s in
    let n = told 1 1024 s.n _ _ _ _ c.contains.ensures.value c.new.ensures.start c.new.ensures.end c.new.ensures.exhausted in
    let k = told 1 8 s.k _ _ _ _ c.contains-2.ensures.value c.new-2.ensures.start c.new-2.ensures.end c.new-2.ensures.exhausted in
    let w = told 1 8 s.w _ _ _ _ c.contains-3.ensures.value c.new-3.ensures.start c.new-3.ensures.end c.new-3.ensures.exhausted in
    let r = told 1 16 s.r _ _ _ _ c.contains-4.ensures.value c.new-4.ensures.start c.new-4.ensures.end c.new-4.ensures.exhausted in
    let b = c.contains-5.ensures.value ∙ le_is s.b 16 in
    λ j. n j && k j && w j && r j && b j
