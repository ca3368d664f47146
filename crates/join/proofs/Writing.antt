-- The merge that writes, where the parts are whole and their numbers are 1 to n.
--     joined_length_lem       how long the joined trace is
--     text_most, text_all     what is written of the events, on the way and at the end
--     first_field_lem         the first part's sizes field
--     joined_is, told_same           the pieces that are written are the joined trace
-- Assumes nothing.
use Prim.Native.Nat.{ℕ, ◌+◌, ◌-◌, ◌≤◌, ◌<◌}
use mathlib.Core.Path.{◌≡◌, refl, sym, ap, ◌∙◌}
use mathlib.Core.Bool.{true}
use mathlib.Core.List.{List, [], ◌∷◌, ◌++◌}
use native.Mathlib.Omega.{arith}
use lib.ListN.{length, get_or, take, length-append, length-take}
use Rattle.std.specs.Prelude.{Ok, None}
use Rattle.fields.specs.Field.{EventSized}
use Rattle.join.specs.declared.Cursor.{Cursor}
use Rattle.join.specs.Part.{Part, Told, parts_told}
use Rattle.join.specs.Joined.{sum, all_events, stand_to, in_order, end_field, first_field, joined_trace}
use Rattle.join.specs.Merge.{end_of, part_of, cursor_at}
use Rattle.join.proofs.Lengths.{Lent}
use Rattle.join.proofs.Split.{order_most}
use Rattle.join.proofs.Merging.{open_at}
use Rattle.join.proofs.Whole.{no_part, opened_inside, parts_each, part_at}
use Rattle.join.proofs.Finish.{step_most, same_order, comes_through}
use Rattle.join.proofs.Going.{take_inside, Going}

pub joined_length_lem : (told : List Part) → length (joined_trace told) ≡ length (first_field told) + length (in_order (length (all_events told)) (all_events told)) + 7
unfolding joined_trace end_field
joined_length_lem told =
    let n : ℕ = length (all_events told) in
    let order : List ℕ = in_order n (all_events told) in
    omega (arith, length-append (first_field told) (order ++ end_field n), length-append order (end_field n))

module _ (parts lengths : List ℕ) (lent : Lent parts lengths) {told : List Part} (reads : parts_told parts 0 lengths ≡ Ok told) where
  first_at : (told : List Part) → 1 ≤ length told → first_field told ≡ (get_or told 0 no_part).field
  unfolding first_field
  first_at [] h = absurd (omega arith)
  first_at (p ∷ told) h = refl

  -- the first part's sizes field stands at the start of the slice
  pub first_field_lem : (behind : ℕ) → behind ≡ open_at parts lengths 0 → (first_field told ≡ take behind parts) × (behind ≤ length parts)
  unfolding sum
  first_field_lem behind is =
      let many = (parts_each parts 0 lengths reads).0 in
      let part = part_at parts lengths reads 0 lent.some in
      let inside = (opened_inside (part_of parts lengths 0) 0 part.opens).inside in
      let long = length-take (end_of lengths 0) parts in (
        first_at told (omega (arith, lent.some))
            ∙ part.field_is
            ∙ take_inside (open_at parts lengths 0 - 0) 0 (end_of lengths 0) parts (omega arith)
            ∙ ap (λ (n : ℕ). take n parts) (let e : open_at parts lengths 0 - 0 ≡ behind = omega arith in e),
        omega (arith, inside),
      )

  module _ (numbers : stand_to (length (all_events told)) (all_events told) ≡ true) {cursors : List Cursor} {text : List ℕ} {step : ℕ}
      (going : Going parts lengths cursors step text) where
    pub text_most : length text ≤ length (in_order (length (all_events told)) (all_events told))
    text_most =
        rw (same_order parts lengths going.merging reads numbers)
        (order_most step (length (all_events told)) (all_events told) (step_most parts lengths going.merging reads))

    pub text_all : ((i : ℕ) → i < length lengths → EventSized (part_of parts lengths i) (cursor_at cursors i).place step None)
        → (text ≡ in_order (length (all_events told)) (all_events told)) × (step ≡ length (all_events told))
    text_all stuck =
        let last : step ≡ length (all_events told) =
        omega (arith, comes_through parts lengths going.merging reads numbers stuck, step_most parts lengths going.merging reads) in
        (same_order parts lengths going.merging reads numbers ∙ ap (λ (n : ℕ). in_order n (all_events told)) last, last)

-- the pieces that are written
pub joined_is : (told : List Part) {first text : List ℕ} {step : ℕ} → first_field told ≡ first → text ≡ in_order (length (all_events told)) (all_events told)
    → step ≡ length (all_events told) → first ++ (text ++ end_field step) ≡ joined_trace told
unfolding joined_trace
joined_is told first text last = let same = sym first in λ j. same j ++ (text j ++ end_field (last j))

pub told_same : {a b : List Part} → ◌≡◌ {A = Told (List Part)} (Ok a) (Ok b) → a ≡ b
told_same {a} {b} h = let same : a ≡ b = cc in same
