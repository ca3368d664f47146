-- The parts are laid out, one after another.
--     LaidAt, laid_next      a part is laid out, and one more
--     all_laid               all of them
--     equal_is               the derived test of two sizes
--     laid_none, laid_other, laid_here     what was read of a part
-- Assumes nothing.
use Prim.Native.Nat.{ℕ, ◌+◌, ◌<◌}
use mathlib.Core.Path.{◌≡◌, refl, sym, ap, ◌∙◌, subst}
use mathlib.Core.Bool.{Bool, true, false, ◌&&◌}
use mathlib.Core.List.{List}
use native.Mathlib.Omega.{arith}
use lib.Dec.{eqb}
use lib.ListN.{length, take, set}
use lib.Seq.{get_or-set_same, get_or-set_other}
use Rattle.std.specs.Prelude.{Result, Ok, Err, None, Some, is_ok}
use Rattle.std.specs.Result.{result_ok}
use Rattle.laws.proofs.Tests.{never}
use Rattle.rules.specs.declared.Sizes.{Sizes}
use Rattle.join.specs.declared.Cursor.{Cursor}
use Rattle.join.specs.declared.Opening.{Opening}
use Rattle.join.specs.Part.{Told, opening}
use Rattle.join.specs.Joined.{equal_sizes}
use Rattle.join.specs.Merge.{start_of, end_of, part_of, no_cursor, cursor_at, begins_with, LaidOut}
use Rattle.join.proofs.Lengths.{below_next}
use Rattle.join.proofs.Whole.{sized_as, sizes_begin}

pub record LaidAt (s : Sizes) (parts lengths : List ℕ) (cursor : Cursor) (i : ℕ) : Type 0 where
  pub opens : (t : Sizes) × (opening (part_of parts lengths i) (start_of lengths i) ≡ Ok (record { sizes = t; next = cursor.place }))
  pub alike : begins_with s (part_of parts lengths i) (start_of lengths i) ≡ true
  pub stops : cursor.end ≡ end_of lengths i
  pub none : cursor.count ≡ 0

-- the derived test of two sizes is the one of the fields
pub equal_is : (s t : Sizes) → (eqb s.n t.n && (eqb s.k t.k && (eqb s.w t.w && (eqb s.r t.r && eqb s.b t.b)))) ≡ equal_sizes s t
unfolding equal_sizes
equal_is s t = together (eqb s.n t.n) (eqb s.k t.k) (eqb s.w t.w) (eqb s.r t.r) (eqb s.b t.b)
  where
    together : (a b c d e : Bool) → (a && (b && (c && (d && e)))) ≡ (a && b && c && d && e)
    together false b c d e = refl
    together true false c d e = refl
    together true true false d e = refl
    together true true true d e = refl

ok_is : {A E : Type 0} (x : Result A E) {y : A} → Some y ≡ result_ok x → x ≡ Ok y
ok_is (Ok x) h = let same : ◌≡◌ x _ = cc in ap Ok same
ok_is (Err e) h = absurd (let z : ◌≡◌ {A = ℕ} 0 1 = cc in omega arith)

module _ (s : Sizes) (parts lengths : List ℕ) where
  pub laid_next : (cursors : List Cursor) (i : ℕ) (x : Cursor) → i < length cursors → LaidAt s parts lengths x i
      → ((j : ℕ) → j < i → LaidAt s parts lengths (cursor_at cursors j) j)
      → (j : ℕ) → j < i + 1 → LaidAt s parts lengths (cursor_at (set cursors i x) j) j
  laid_next cursors i x inside here below =
      below_next (λ j. LaidAt s parts lengths (cursor_at (set cursors i x) j) j) i
      (λ j h. subst (λ (c : Cursor). LaidAt s parts lengths c j) (sym (get_or-set_other cursors i j x no_cursor (λ e. omega arith))) (below j h))
      (subst (λ (c : Cursor). LaidAt s parts lengths c i) (sym (get_or-set_same cursors i x no_cursor inside)) here)

  pub all_laid : (cursors : List Cursor) → length cursors ≡ 9 → ((j : ℕ) → j < length lengths → LaidAt s parts lengths (cursor_at cursors j) j)
      → LaidOut s parts lengths (Some cursors)
  all_laid cursors nine laid =
      record {
        laid = record { nine = nine; opens = λ i h. (laid i h).opens; stops = λ i h. (laid i h).stops; none = λ i h. (laid i h).none };
        alike = λ i h. (laid i h).alike;
        other = tt;
      }

  -- what was read of the part at hand
  module _ {i start end : ℕ} (inside : i < length lengths) (is : end ≡ end_of lengths i) (from : start ≡ start_of lengths i) {x : Told Opening}
      (reads : x ≡ opening (take end parts) start) where
    here : opening (part_of parts lengths i) (start_of lengths i) ≡ x
    here = sym (reads ∙ (λ j. opening (take (is j) parts) (from j)))

    begins : begins_with s (part_of parts lengths i) (start_of lengths i) ≡ sized_as (part_of parts lengths i) (start_of lengths i) s x
    begins = sizes_begin (part_of parts lengths i) (start_of lengths i) s here

    pub laid_none : is_ok x ≡ false → LaidOut s parts lengths None
    laid_none none = record { laid = tt; alike = tt; other = (i, inside, begins ∙ refused x none) }
      where
        refused : (o : Told Opening) → is_ok o ≡ false → sized_as (part_of parts lengths i) (start_of lengths i) s o ≡ false
        refused (Err r) h = refl
        refused (Ok o) h = absurd (never (sym h))

    module _ {o : Opening} (found : Some o ≡ result_ok x) where
      sized : begins_with s (part_of parts lengths i) (start_of lengths i) ≡ equal_sizes s o.sizes
      sized = begins ∙ ap (sized_as (part_of parts lengths i) (start_of lengths i) s) (ok_is x found)

      pub laid_other : equal_sizes s o.sizes ≡ false → LaidOut s parts lengths None
      laid_other other = record { laid = tt; alike = tt; other = (i, inside, sized ∙ other) }

      pub laid_here : equal_sizes s o.sizes ≡ true → LaidAt s parts lengths (record { place = o.next; end = end; count = 0 }) i
      laid_here same = record { opens = (o.sizes, here ∙ ok_is x found); alike = sized ∙ same; stops = is; none = refl }
