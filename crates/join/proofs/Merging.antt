-- How far a merge has come: for each part the events that were taken of it, their numbers from 1 to a step, and their fields in order.
--     open_at                           the place behind the sizes field of a part
--     Merging                           how far a merge has come
--     merging_start, merging_takes      before the first step, and one step further
-- Assumes nothing.
use Prim.Native.Nat.{ℕ, zero, suc, ◌+◌, ◌≤◌, ◌<◌}
use mathlib.Core.Path.{◌≡◌, refl, sym, ap, ◌∙◌, subst}
use mathlib.Core.Logic.{⊎_elim}
use mathlib.Core.List.{List, [], ◌∷◌, ◌++◌, flatten}
use native.Mathlib.Omega.{arith}
use native.Mathlib.Numerals.{add-one}
use lib.ListN.{length, get_or, set, replicate, length-append, length-set, length-replicate, get_or-replicate}
use lib.Seq.{get_or-set_same, get_or-set_other}
use Rattle.std.specs.Prelude.{Some}
use Rattle.laws.proofs.Tests.{eqb_cases}
use Rattle.fields.specs.Field.{EventSized}
use Rattle.join.specs.declared.Cursor.{Cursor}
use Rattle.join.specs.Part.{Numbered, between, opening}
use Rattle.join.specs.Joined.{in_order}
use Rattle.join.specs.Merge.{start_of, part_of, no_cursor, cursor_at, on}
use Rattle.join.proofs.Reading.{next_at}
use Rattle.join.proofs.Numbers.{times, Insert, put_inserts, times_inserted, hit_same, hit_other, length_inserted, order_inserted}
use Rattle.join.proofs.Told.{Came, came_start, came_later, came_takes}

abbrev pub open_at : List ℕ → List ℕ → ℕ → ℕ
open_at parts lengths i = next_at (opening (part_of parts lengths i) (start_of lengths i))

pub record Merging (parts lengths : List ℕ) (step : ℕ) (cursors : List Cursor) (text : List ℕ) : Type 0 where
  -- the events that were taken of each part
  pub got : List (List Numbered)
  pub many : length got ≡ length lengths
  pub came : (i : ℕ) → i < length lengths → Came (part_of parts lengths i) (open_at parts lengths i) step (cursor_at cursors i).place (get_or got i [])
  -- how many of each part
  pub counted : (i : ℕ) → i < length lengths → (cursor_at cursors i).count ≡ length (get_or got i [])
  -- each number up to the step was taken once, and no other
  pub once : (x : ℕ) → 1 ≤ x → x ≤ step → times x (flatten got) ≡ 1
  pub later : (x : ℕ) → step < x → times x (flatten got) ≡ 0
  pub count : length (flatten got) ≡ step
  pub fields : text ≡ in_order step (flatten got)

abbrev pub nothing : List Numbered
nothing = []

pub flatten-nothing : (n : ℕ) → flatten (replicate n nothing) ≡ nothing
unfolding flatten
flatten-nothing zero = refl
flatten-nothing (suc n) = flatten-nothing n

module _ (parts lengths : List ℕ) where
  pub merging_start : {cursors : List Cursor} → ((i : ℕ) → i < length lengths → (cursor_at cursors i).place ≡ open_at parts lengths i)
      → ((i : ℕ) → i < length lengths → (cursor_at cursors i).count ≡ 0) → Merging parts lengths 0 cursors []
  unfolding in_order times
  merging_start opens none =
      record {
        got = replicate (length lengths) nothing;
        many = length-replicate (length lengths) nothing;
        came = λ i h.
            rw (opens i h, get_or-replicate (length lengths) i nothing nothing h) (came_start (part_of parts lengths i) (open_at parts lengths i) 0);
        counted = λ i h. rw (get_or-replicate (length lengths) i nothing nothing h) (none i h);
        once = λ x low high. absurd (omega arith);
        later = λ x h. rw (flatten-nothing (length lengths));
        count = rw (flatten-nothing (length lengths));
        fields = refl;
      }

  module _ {step : ℕ} {cursors : List Cursor} {text : List ℕ} (m : Merging parts lengths step cursors text) (i : ℕ) (inside : i < length lengths) (room : i < length cursors)
      {size : ℕ} (sized : EventSized (part_of parts lengths i) (cursor_at cursors i).place step (Some size)) where
    abbrev place : ℕ
    place = (cursor_at cursors i).place

    abbrev pub taken : Numbered
    taken = record { number = step + 1; bytes = between (part_of parts lengths i) place (place + size) }

    abbrev pub moved : List Cursor
    moved = set cursors i (on (cursor_at cursors i) size)

    abbrev got : List (List Numbered)
    got = set m.got i (get_or m.got i [] ++ (taken ∷ []))

    inserted : Insert taken (flatten m.got) (flatten got)
    inserted = put_inserts taken m.got i (omega (arith, m.many))

    came_on : (j : ℕ) → j < length lengths → Came (part_of parts lengths j) (open_at parts lengths j) (step + 1) (cursor_at moved j).place (get_or got j [])
    came_on j h =
        ⊎_elim
        (λ same. subst (λ (k : ℕ). Came (part_of parts lengths k) (open_at parts lengths k) (step + 1) (cursor_at moved k).place (get_or got k [])) (sym same.0)
        (rw (get_or-set_same cursors i (on (cursor_at cursors i) size) no_cursor room, get_or-set_same m.got i (get_or m.got i [] ++ (taken ∷ [])) [] (omega (arith, m.many)))
        (came_takes (m.came i inside) sized)))
        (λ other. rw (get_or-set_other cursors i j (on (cursor_at cursors i) size) no_cursor other.0, get_or-set_other m.got i j (get_or m.got i [] ++ (taken ∷ [])) [] other.0)
        (came_later (m.came j h)))
        (eqb_cases j i)

    counted_on : (j : ℕ) → j < length lengths → (cursor_at moved j).count ≡ length (get_or got j [])
    counted_on j h =
        ⊎_elim
        (λ same. subst (λ (k : ℕ). (cursor_at moved k).count ≡ length (get_or got k [])) (sym same.0)
        (rw (get_or-set_same cursors i (on (cursor_at cursors i) size) no_cursor room, get_or-set_same m.got i (get_or m.got i [] ++ (taken ∷ [])) [] (omega (arith, m.many)))
        (omega (arith, m.counted i inside, length-append (get_or m.got i []) (taken ∷ [])))))
        (λ other. rw (get_or-set_other cursors i j (on (cursor_at cursors i) size) no_cursor other.0, get_or-set_other m.got i j (get_or m.got i [] ++ (taken ∷ [])) [] other.0)
        (m.counted j h))
        (eqb_cases j i)

    pub merging_takes : Merging parts lengths (step + 1) moved (text ++ taken.bytes)
    merging_takes =
        record {
          got = got;
          many = length-set m.got i (get_or m.got i [] ++ (taken ∷ [])) ∙ m.many;
          came = came_on;
          counted = counted_on;
          once = λ x low high.
              times_inserted x inserted
              ∙ ⊎_elim
              (λ same. let is = same.0 in omega (arith, hit_same x taken same.0, m.later x (omega arith)))
              (λ other. let is = other.0 in omega (arith, hit_other x taken other.0, m.once x low (omega arith)))
              (eqb_cases (step + 1) x);
          later = λ x h. times_inserted x inserted ∙ (let e = hit_other x taken (λ same. omega arith) in omega (arith, m.later x (omega arith)));
          count = omega (arith, length_inserted inserted, m.count);
          fields =
              ap (λ (l : List ℕ). l ++ taken.bytes) m.fields
              ∙ sym (order_inserted step inserted (add-one step) (m.later (suc step) (omega arith)))
              ∙ ap (λ (n : ℕ). in_order n (flatten got)) (sym (add-one step));
        }
