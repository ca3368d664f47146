-- A turn of the merge, and its end, as the code sees them.
--     take_inside, field_in_part        the bytes of a field
--     Going, going_start, within        a merge that goes on
--     Took, took, going_takes, stuck    one step further, and no next event
--     merged, not_ended                 what the merge without writing comes to
-- Assumes nothing.
use Prim.Native.Nat.{ℕ, zero, suc, ◌+◌, ◌-◌, ◌≤◌, ◌<◌}
use mathlib.Core.Path.{◌≡◌, refl, sym, ap, ◌∙◌, subst}
use mathlib.Core.Logic.{⊎_elim}
use mathlib.Core.Bool.{Bool, true, false}
use mathlib.Core.List.{List, [], ◌∷◌, ◌++◌}
use native.Mathlib.Omega.{arith}
use lib.ListN.{length, get_or, take, drop, set, length-set, length-take}
use lib.Seq.{get_or-take, get_or-set_same, get_or-set_other, length-take-le, take-take}
use Rattle.std.specs.Prelude.{Ok, None, Some}
use Rattle.rules.specs.declared.Sizes.{Sizes}
use Rattle.laws.proofs.Tests.{never, eqb_cases}
use Rattle.laws.proofs.Lists.{length-flatten}
use Rattle.fields.specs.Field.{byte_at, EventSized}
use Rattle.fields.proofs.Tags.{tag_most}
use Rattle.join.specs.declared.Cursor.{Cursor}
use Rattle.join.specs.Part.{Part, between, opening, parts_told}
use Rattle.join.specs.Joined.{all_events, stand_to}
use Rattle.join.specs.Merge.{start_of, end_of, part_of, no_cursor, cursor_at, Opened, Within, on, Taken, TakesNext, ends_with, AllEnded, Merges}
use Rattle.join.proofs.Lengths.{Lent, sum_most}
use Rattle.join.proofs.Reading.{next_at}
use Rattle.join.proofs.Merging.{open_at, Merging, merging_start, merging_takes}
use Rattle.join.proofs.Finish.{comes_through, at_ends, merges}

-- ---- the bytes of a field

pub take_inside : (m place end : ℕ) (l : List ℕ) → place + m ≤ end → take m (drop place (take end l)) ≡ take m (drop place l)
take_inside m zero end l h = take-take m end l (omega arith)
take_inside m (suc place) zero l h = absurd (omega arith)
take_inside m (suc place) (suc end) [] h = refl
take_inside m (suc place) (suc end) (x ∷ l) h = take_inside m place end l (omega arith)

-- those in the part are those in the slice
pub field_in_part : (parts lengths : List ℕ) (i place next : ℕ) → place ≤ next → next ≤ length (part_of parts lengths i)
    → between (part_of parts lengths i) place next ≡ between parts place next
field_in_part parts lengths i place next low high =
    take_inside (next - place) place (end_of lengths i) parts (omega (arith, length-take (end_of lengths i) parts))

-- ---- a merge that goes on

pub record Going (parts lengths : List ℕ) (cursors : List Cursor) (step : ℕ) (text : List ℕ) : Type 0 where
  pub many : length cursors ≡ length lengths
  pub opens : (i : ℕ) → i < length lengths → (s : Sizes) × (opening (part_of parts lengths i) (start_of lengths i) ≡ Ok (record { sizes = s; next = open_at parts lengths i }))
  pub stops : (i : ℕ) → i < length lengths → (cursor_at cursors i).end ≡ end_of lengths i
  pub merging : Merging parts lengths step cursors text

-- the field of an event that is taken
pub record Took (step : ℕ) (field : List ℕ) : Type 0 where
  pub follows : step + 1 < 4294967296
  pub short : length field ≤ 13

module _ (parts lengths : List ℕ) (lent : Lent parts lengths) where
  pub going_start : {cursors : List Cursor} → Opened parts lengths cursors → Going parts lengths (take (length lengths) cursors) 0 []
  going_start {cursors} opened =
      record {
        many = length-take-le (length lengths) cursors (omega (arith, lent.few, opened.nine));
        opens = λ i h.
            let begin = opened.opens i h in
            (begin.0, begin.1 ∙ ap (λ (n : ℕ). Ok (record { sizes = begin.0; next = n })) (sym (ap next_at begin.1)));
        stops = λ i h. ap (λ (c : Cursor). c.end) (same i h) ∙ opened.stops i h;
        merging =
            merging_start parts lengths
            (λ i h. ap (λ (c : Cursor). c.place) (same i h) ∙ sym (ap next_at (opened.opens i h).1))
            (λ i h. ap (λ (c : Cursor). c.count) (same i h) ∙ opened.none i h);
      }
    where
      same : (i : ℕ) → i < length lengths → cursor_at (take (length lengths) cursors) i ≡ cursor_at cursors i
      same i h = get_or-take (length lengths) cursors i no_cursor h

  module _ {cursors : List Cursor} {text : List ℕ} {step : ℕ} (going : Going parts lengths cursors step text) where
    pub within : Within parts cursors step
    within =
        record {
          inside = λ i h. rw (going.stops i (omega (arith, going.many))) (omega (arith, sum_most lengths (suc i), lent.adds));
          counts = λ i h. omega (arith, going.merging.counted i (omega (arith, going.many)), going.merging.count, length-flatten going.merging.got i);
        }

    module _ {field : List ℕ} {after : List Cursor} {i : ℕ} (taken : Taken parts cursors step field after i) where
      inside : i < length lengths
      inside = omega (arith, taken.part, going.many)

      found : EventSized (part_of parts lengths i) (cursor_at cursors i).place step (Some (length field))
      found = subst (λ (e : ℕ). EventSized (take e parts) (cursor_at cursors i).place step (Some (length field))) (going.stops i inside) taken.here

      -- what the code's sums ask
      pub took : Took step field
      took =
          record {
            follows = found.follows;
            short = omega (arith, found.whole.0, tag_most (byte_at (part_of parts lengths i) (cursor_at cursors i).place));
          }

      pub going_takes : Going parts lengths after (step + 1) (text ++ field)
      going_takes =
          let place = (cursor_at cursors i).place in
          let bytes = field_in_part parts lengths i place (place + length field) (omega arith) found.whole.1 ∙ sym taken.bytes in
          let moved = sym taken.moved in
          subst (λ (cs : List Cursor). Going parts lengths cs (step + 1) (text ++ field)) moved
          (record {
            many = length-set cursors i (on (cursor_at cursors i) (length field)) ∙ going.many;
            opens = going.opens;
            stops = stops_on;
            merging = subst (λ (l : List ℕ). Merging parts lengths (step + 1) (set cursors i (on (cursor_at cursors i) (length field))) (text ++ l)) bytes
                (merging_takes parts lengths going.merging i inside taken.part found);
          })
        where
          stops_on : (j : ℕ) → j < length lengths → (cursor_at (set cursors i (on (cursor_at cursors i) (length field))) j).end ≡ end_of lengths j
          stops_on j h =
              ⊎_elim
              (λ same. ap (λ (c : Cursor). c.end) (ap (cursor_at (set cursors i (on (cursor_at cursors i) (length field)))) same.0 ∙ get_or-set_same cursors i (on (cursor_at cursors i) (length field)) no_cursor taken.part)
              ∙ going.stops i inside
              ∙ ap (end_of lengths) (sym same.0))
              (λ other. ap (λ (c : Cursor). c.end) (get_or-set_other cursors i j (on (cursor_at cursors i) (length field)) no_cursor other.0) ∙ going.stops j h)
              (eqb_cases j i)

    pub stuck : {after : List Cursor} → TakesNext parts cursors step None after → (i : ℕ) → i < length lengths
        → EventSized (part_of parts lengths i) (cursor_at cursors i).place step None
    stuck next i h =
        subst (λ (e : ℕ). EventSized (take e parts) (cursor_at cursors i).place step None) (going.stops i h) (next.none i (omega (arith, going.many)))

    -- what the merge without writing comes to
    module _ (none : (i : ℕ) → i < length lengths → EventSized (part_of parts lengths i) (cursor_at cursors i).place step None) {ended : Bool} (end : AllEnded parts cursors ended) where
      end_is : (i : ℕ) → i < length lengths
          → ends_with (take (cursor_at cursors i).end parts) (cursor_at cursors i).place (cursor_at cursors i).count
          ≡ ends_with (part_of parts lengths i) (cursor_at cursors i).place (length (get_or going.merging.got i []))
      end_is i h = λ j. ends_with (take (going.stops i h j) parts) (cursor_at cursors i).place (going.merging.counted i h j)

      pub merged : ended ≡ true → Merges parts lengths (length text)
      merged is = merges parts lengths going.merging going.opens (λ i h. sym (end_is i h) ∙ end.all is i (omega (arith, going.many)))

      -- where the parts are whole and their numbers are 1 to n, every part is at its end
      pub not_ended : ended ≡ false → (told : List Part) → parts_told parts 0 lengths ≡ Ok told → stand_to (length (all_events told)) (all_events told) ≡ false
      not_ended is told reads = by_numbers (stand_to (length (all_events told)) (all_events told)) refl
        where
          by_numbers : (b : Bool) → stand_to (length (all_events told)) (all_events told) ≡ b → stand_to (length (all_events told)) (all_events told) ≡ false
          by_numbers false numbers = numbers
          by_numbers true numbers =
              let bad = end.other is in
              let inside : bad.0 < length lengths = omega (arith, bad.1, going.many) in
              let through = comes_through parts lengths going.merging reads numbers none in
              absurd (never (sym bad.2 ∙ end_is bad.0 inside ∙ at_ends parts lengths going.merging reads through bad.0 inside))
