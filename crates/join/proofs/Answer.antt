-- What the call answers, by what was found out.
--     not-lent                  the parts do not lie end to end
--     end_first, not_opened     the first part, and that it does not begin with a sizes field
--     not_alike, not_merged     the parts do not begin alike, or the merge did not come to the end of every part
--     joined_size, too_short, written_out     it did, and the output is too short, or it is not
-- Assumes nothing.
use Prim.Native.Nat.{ℕ, ◌+◌, ◌≤◌, ◌<◌}
use mathlib.Core.Path.{◌≡◌, refl, sym, ap, ◌∙◌}
use mathlib.Core.Bool.{Bool, true, false, cond}
use mathlib.Core.List.{List, [], ◌∷◌, ◌++◌}
use native.Mathlib.Omega.{arith}
use borrow.Author.Tests.{lt-ltb, le-ltb}
use lib.Dec.{ltb}
use lib.ListN.{length, get_or, take, drop}
use lib.Seq.{sets-eq, length-take-le}
use Rattle.std.specs.Prelude.{Ok, Err}
use Rattle.rules.specs.declared.Sizes.{Sizes}
use Rattle.rules.specs.declared.Refusal.TheVariants.{WrongSize, OutputShort}
use Rattle.laws.proofs.Tests.{never}
use Rattle.text.specs.Text.{Written}
use Rattle.fields.specs.declared.RefusedAt.{RefusedAt}
use Rattle.join.specs.declared.Opening.{Opening}
use Rattle.join.specs.Part.{Part, Told, opening, part_told, and_parts, parts_told}
use Rattle.join.specs.Joined.{sum, end_to_end, all_sized, same_sizes, all_events, stand_to, first_field, joined_trace, JoinedOn, refused_on, written_on, whole_on, joined_on}
use Rattle.join.specs.Merge.{seen_parts, refused_for, start_of, end_of, part_of, begins_with, Merges}
use Rattle.join.proofs.Lengths.{Lent, sum_next}
use Rattle.join.proofs.Reading.{next_at, part_by, told_next}
use Rattle.join.proofs.Whole.{parts_each, part_at, alike_sized, sized_alike}
use Rattle.join.proofs.Writing.{joined_length_lem, first_field_lem}

module _ (parts lengths out : List ℕ) where
  -- once the parts lie end to end, the call answers by what they tell
  answers : Told (List Part) → JoinedOn
  answers told = elim told [ Err r ↦ refused_on r.why r.place out | Ok ps ↦ whole_on ps out ]

  joined_on_lem : {b : Bool} → b ≡ end_to_end parts lengths → cond b (answers (parts_told parts 0 lengths)) (refused_on WrongSize 0 out) ≡ joined_on parts lengths out
  unfolding joined_on answers
  joined_on_lem is = ap (λ (b : Bool). cond b (answers (parts_told parts 0 lengths)) (refused_on WrongSize 0 out)) is

  pub not-lent : false ≡ end_to_end parts lengths → joined_on parts lengths out ≡ refused_on WrongSize 0 out
  not-lent is = sym (joined_on_lem is)

  module _ (is : true ≡ end_to_end parts lengths) (lent : Lent parts lengths) where
    pub end_first : get_or lengths 0 0 ≡ end_of lengths 0
    unfolding sum
    end_first = omega (arith, sum_next lengths 0 lent.some)

    pub not_opened : {r : RefusedAt} → opening (take (get_or lengths 0 0) parts) 0 ≡ Err r → joined_on parts lengths out ≡ refused_on r.why r.place out
    unfolding answers
    not_opened {r} refused =
        let told = told_next parts 0 lengths 0 lent.some in
        let first : part_told (take (0 + get_or lengths 0 0) parts) 0 ≡ Err r =
        ap (λ (n : ℕ). part_told (take n parts) 0) (let e : 0 + get_or lengths 0 0 ≡ get_or lengths 0 0 = omega arith in e)
        ∙ part_by (take (get_or lengths 0 0) parts) 0 refused in
        sym (joined_on_lem is) ∙ ap answers (told ∙ ap (λ (p : Told Part). and_parts p (parts_told parts (0 + get_or lengths 0 0) (drop (0 + 1) lengths))) first)

    module _ {first : Opening} (first_is : opening (take (get_or lengths 0 0) parts) 0 ≡ Ok first) where
      first_of : opening (part_of parts lengths 0) 0 ≡ Ok first
      first_of = ap (λ (n : ℕ). opening (take n parts) 0) (sym end_first) ∙ first_is

      -- "two parts differ in sizes": each has those of the first, or one does not
      same_sizes_lem : {told : List Part} → parts_told parts 0 lengths ≡ Ok told → same_sizes told ≡ all_sized first.sizes told
      unfolding same_sizes sum
      same_sizes_lem {told} reads = by_told told refl
        where
          by_told : (ps : List Part) → told ≡ ps → same_sizes ps ≡ all_sized first.sizes ps
          by_told [] none = absurd (omega (arith, (parts_each parts 0 lengths reads).0, ap length none, lent.some))
          by_told (p ∷ ps) is-told =
              let part = part_at parts lengths (reads ∙ ap Ok is-told) 0 lent.some in
              let same = sym part.opens ∙ first_of in
              let sizes : p.sizes ≡ first.sizes = cc in
              ap (λ (s : Sizes). all_sized s (p ∷ ps)) sizes

      not_joined : ((told : List Part) → parts_told parts 0 lengths ≡ Ok told → all_sized first.sizes told ≡ true → stand_to (length (all_events told)) (all_events told) ≡ false)
          → joined_on parts lengths out ≡ record { joined = Err (refused_for (seen_parts first.sizes true (parts_told parts 0 lengths))); out = out }
      unfolding answers whole_on
      not_joined other = sym (joined_on_lem is) ∙ by_told (parts_told parts 0 lengths) refl
        where
          by_sizes : (told : List Part) → parts_told parts 0 lengths ≡ Ok told → (b : Bool) → all_sized first.sizes told ≡ b
              → whole_on told out ≡ record { joined = Err (refused_for (seen_parts first.sizes true (Ok told))); out = out }
          by_sizes told reads true sized = rw (same_sizes_lem reads, sized, other told reads sized)
          by_sizes told reads false sized = rw (same_sizes_lem reads, sized)

          by_told : (told : Told (List Part)) → parts_told parts 0 lengths ≡ told → answers told ≡ record { joined = Err (refused_for (seen_parts first.sizes true told)); out = out }
          by_told (Err r) reads = refl
          by_told (Ok told) reads = by_sizes told reads (all_sized first.sizes told) refl

      pub not_alike : (i : ℕ) × (i < length lengths) × (begins_with first.sizes (part_of parts lengths i) (start_of lengths i) ≡ false)
          → joined_on parts lengths out ≡ record { joined = Err (refused_for (seen_parts first.sizes true (parts_told parts 0 lengths))); out = out }
      not_alike bad = not_joined (λ told reads sized. absurd (never (sym bad.2 ∙ sized_alike first.sizes parts lengths reads sized bad.0 bad.1)))

      pub not_merged : ((told : List Part) → parts_told parts 0 lengths ≡ Ok told → stand_to (length (all_events told)) (all_events told) ≡ false)
          → joined_on parts lengths out ≡ record { joined = Err (refused_for (seen_parts first.sizes true (parts_told parts 0 lengths))); out = out }
      not_merged other = not_joined (λ told reads sized. other told reads)

      module _ {size : ℕ} (merges : Merges parts lengths size) (alike : (i : ℕ) → i < length lengths → begins_with first.sizes (part_of parts lengths i) (start_of lengths i) ≡ true) where
        whole_on_lem : {b : Bool} → ltb (length out) (length (joined_trace merges.told)) ≡ b
            → joined_on parts lengths out ≡ cond b (refused_on OutputShort 0 out) (written_on (joined_trace merges.told) out)
        unfolding answers whole_on
        whole_on_lem test =
            sym (joined_on_lem is)
            ∙ ap answers merges.reads
            ∙ rw (same_sizes_lem merges.reads, alike_sized first.sizes parts lengths merges.reads alike, merges.numbers, test)

        -- how long the joined trace is, as the code sums it up
        pub joined_size : (length (joined_trace merges.told) ≡ first.next + size + 7) × (first.next ≤ length parts)
        unfolding sum
        joined_size =
            let field = first_field_lem parts lengths lent merges.reads first.next (sym (ap next_at first_of)) in
            let long : length (first_field merges.told) ≡ first.next = ap length field.0 ∙ length-take-le first.next parts field.1 in
            (omega (arith, joined_length_lem merges.told, merges.size_is), field.1)

        pub too_short : length out < length (joined_trace merges.told) → joined_on parts lengths out ≡ refused_on OutputShort 0 out
        too_short short = whole_on_lem (lt-ltb _ _ short)

        pub written_out : length (joined_trace merges.told) ≤ length out → {x : ℕ} {after : List ℕ} → Written out 0 (joined_trace merges.told) x after
            → joined_on parts lengths out ≡ record { joined = Ok x; out = after }
        written_out room {x} {after} written =
            let trace : List ℕ = joined_trace merges.told in
            let size : length trace ≡ x = omega (arith, written.place) in
            let bytes : trace ++ drop (length trace) out ≡ after =
            sym (written.bytes ∙ sets-eq trace out 0 (omega arith) ∙ ap (λ (n : ℕ). trace ++ drop n out) (let e : 0 + length trace ≡ length trace = omega arith in e)) in
            whole_on_lem (le-ltb _ _ room) ∙ (λ j. record { joined = Ok (size j); out = bytes j })
