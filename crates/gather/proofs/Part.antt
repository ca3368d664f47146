-- A part of a table, from one place to another, as a slice has it.
--     part_is          the part
--     part_length      its length
--     part_copied      another table, once the part is copied into it
--     part_cleared     the table, once the part is 0
-- Assumes nothing.
use Prim.Native.Nat.{ℕ, ◌+◌, ◌-◌, ◌≤◌}
use mathlib.Core.Path.{◌≡◌, sym, ap, ◌∙◌}
use mathlib.Core.List.{List, ◌++◌}
use native.Mathlib.Omega.{arith}
use lib.ListN.{length, take, drop, replicate, length-drop}
use lib.Seq.{length-take-le, take-take, paste}
use borrow.Rule.Slice.PartMut.{put_mid}
use Rattle.std.proofs.lemmas.Slice.{put_mid-paste}

module _ (xs : List ℕ) (from to at size : ℕ) (start : from ≡ at) (end : to ≡ at + size) where
  as_long : to - from ≡ size
  as_long = omega arith

  pub part_is : take (to - from) (drop from xs) ≡ take size (drop at xs)
  part_is = λ j. take (as_long j) (drop (start j) xs)

  module _ (inside : at + size ≤ length xs) where
    pub part_length : length (take (to - from) (drop from xs)) ≡ size
    part_length = ap length part_is ∙ length-take-le size (drop at xs) (omega (arith, length-drop at xs))

    pub part_copied : (ys : List ℕ) {zs : List ℕ} {i k place : ℕ} → zs ≡ take (to - from) (drop from xs) → k ≡ size → i ≡ place
        → put_mid i k ys zs ≡ paste ys place (drop at xs) size
    part_copied ys {zs} {i} {k} copied e same =
        put_mid-paste i k ys zs (take size (drop at xs)) size (copied ∙ part_is) (sym e) (sym (length-take-le size (drop at xs) (omega (arith, length-drop at xs))))
        ∙ (λ j. take (same j) ys ++ take-take size size (drop at xs) (omega arith) j ++ drop (same j + size) ys)

    pub part_cleared : {zeros : List ℕ} → zeros ≡ replicate (length (take (to - from) (drop from xs))) 0
        → take from xs ++ (zeros ++ drop (to - from) (drop from xs)) ≡ take at xs ++ (replicate size 0 ++ drop size (drop at xs))
    part_cleared cleared =
        λ j. take (start j) xs ++ ((cleared ∙ ap (λ (n : ℕ). replicate n 0) part_length) j ++ drop (as_long j) (drop (start j) xs))
