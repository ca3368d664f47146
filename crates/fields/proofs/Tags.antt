-- The tags and their payloads.
--     either            what holds of both holds of either
--     other_payload     only the sizes have another payload by their length
--     sizes_payload     theirs has 8 bytes or more
--     tag_least, tag_most, payload_least, payload_most     a payload has 4 to 10 bytes
-- Assumes nothing.
use Prim.Native.Nat.{ℕ, ◌≤◌}
use mathlib.Core.Path.{◌≡◌, ap}
use mathlib.Core.Logic.{◌⊎◌, inl, inr, ⊎_elim}
use mathlib.Core.Bool.{Bool, true, false, cond, ◌&&◌}
use native.Mathlib.Omega.{arith}
use borrow.Author.Tests.{ne_eqb}
use lib.Dec.{eqb}
use Rattle.fields.specs.Field.{sizes_tag, payload_of, payload_for}

pub either : {A : Type 0} (P : A → Type 0) (b : Bool) {x y : A} → P x → P y → P (cond b x y)
either P true p q = p
either P false p q = q

module _ (tag : ℕ) where
  payload_there : (payload_of tag ≡ 0) ⊎ ((4 ≤ payload_of tag) × (payload_of tag ≤ 10))
  unfolding payload_of
  payload_there =
      let P : ℕ → Type 0 = (λ n. (n ≡ 0) ⊎ ((4 ≤ n) × (n ≤ 10))) in
      either P (eqb tag 0x01) (inr (omega arith))
      (either P (eqb tag 0x10) (inr (omega arith))
      (either P (eqb tag 0x11) (inr (omega arith))
      (either P (eqb tag 0x12) (inr (omega arith))
      (either P (eqb tag 0x13) (inr (omega arith))
      (either P (eqb tag 0x14) (inr (omega arith))
      (either P (eqb tag 0x15) (inr (omega arith))
      (either P (eqb tag 0x16) (inr (omega arith))
      (either P (eqb tag 0x20) (inr (omega arith))
      (either P (eqb tag 0x7F) (inr (omega arith)) (inl (omega arith)))))))))))

  pub tag_least : (payload_of tag ≡ 0 → ⊥) → 4 ≤ payload_of tag
  tag_least there = ⊎_elim (λ none. absurd (there none)) (λ known. known.0) payload_there

  pub tag_most : payload_of tag ≤ 10
  tag_most = ⊎_elim (λ none. omega arith) (λ known. known.1) payload_there

  module _ (long : ℕ) where
    pub payload_least : (payload_of tag ≡ 0 → ⊥) → 4 ≤ payload_for tag long
    unfolding payload_for
    payload_least there = either (λ n. 4 ≤ n) (eqb tag sizes_tag && eqb long 10) (omega arith) (tag_least there)

    pub payload_most : payload_for tag long ≤ 10
    unfolding payload_for
    payload_most = either (λ n. n ≤ 10) (eqb tag sizes_tag && eqb long 10) (omega arith) tag_most

    -- only the sizes have another payload by their length
    pub other_payload : (tag ≡ sizes_tag → ⊥) → payload_for tag long ≡ payload_of tag
    unfolding payload_for
    other_payload other = ap (λ (b : Bool). cond (b && eqb long 10) 10 (payload_of tag)) (ne_eqb tag sizes_tag other)

    -- of the sizes
    pub sizes_payload : tag ≡ sizes_tag → 8 ≤ payload_for tag long
    unfolding payload_for payload_of
    sizes_payload is = either (λ n. 8 ≤ n) (eqb tag sizes_tag && eqb long 10) (omega arith) (omega (arith, ap payload_of is))
