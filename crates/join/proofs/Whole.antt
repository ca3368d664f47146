-- Parts that are whole, one and all.
--     PartWhole, part_whole, whole_part_lem     what is known of a part that is whole
--     opened_inside, sized_as, sizes_begin         its sizes field
--     parts_each, part_at, parts_from, all_sized_lem, sized_each, alike_sized, sized_alike     all parts, one by one
-- Assumes nothing.
use Prim.Native.Nat.{ℕ, zero, suc, ◌+◌, ◌<◌, zero-le, suc-le-suc}
use mathlib.Core.Path.{◌≡◌, refl, sym, ap, ◌∙◌, subst}
use mathlib.Core.Bool.{Bool, true, false}
use mathlib.Core.List.{List, [], ◌∷◌}
use native.Mathlib.Omega.{arith}
use native.Mathlib.Nat.{le_of_suc-le-suc, not-suc-le-zero}
use lib.ListN.{length, get_or, take}
use Rattle.std.specs.Prelude.{Ok, Err}
use Rattle.rules.specs.declared.Sizes.{Sizes}
use Rattle.laws.proofs.Tests.{and_both, and_left, and_right}
use Rattle.fields.proofs.Taken.{TakenAt, taken_at_lem}
use Rattle.fields.proofs.Comes.{sizes_read}
use Rattle.join.specs.declared.Opening.{Opening}
use Rattle.join.specs.Part.{Numbered, Part, Told, also, between, at_first, opening, events_told, part_told, and_parts, parts_told}
use Rattle.join.specs.Joined.{sum, equal_sizes, all_sized}
use Rattle.join.specs.Merge.{start_of, end_of, part_of, begins_with}
use Rattle.join.proofs.Reading.{next_at, opening_reads, tells_part, part_by}
use Rattle.join.proofs.Told.{also_whole}

abbrev pub open_in : List ℕ → ℕ → ℕ
open_in bytes start = next_at (opening bytes start)

-- ---- one part

pub record PartWhole (bytes : List ℕ) (start : ℕ) (p : Part) : Type 0 where
  pub opens : opening bytes start ≡ Ok (record { sizes = p.sizes; next = open_in bytes start })
  pub field_is : p.field ≡ between bytes start (open_in bytes start)
  pub events_are : events_told (length bytes) bytes (open_in bytes start) 0 0 ≡ Ok p.events

module _ (bytes : List ℕ) (start : ℕ) where
  pub part_whole : {p : Part} → part_told bytes start ≡ Ok p → PartWhole bytes start p
  part_whole {p} told = by_opening (opening bytes start) refl (sym (part_by bytes start refl) ∙ told)
    where
      by_opening : (x : Told Opening) → opening bytes start ≡ x → tells_part bytes start x ≡ Ok p → PartWhole bytes start p
      by_opening (Err r) is h = absurd (let z : ◌≡◌ {A = ℕ} 0 1 = cc in omega arith)
      by_opening (Ok x) is h =
          let next : open_in bytes start ≡ x.next = ap next_at is in
          let events = also_whole _ (events_told (length bytes) bytes x.next 0 0) h in
          record {
            opens =
                is
                ∙ (let a = ap (λ (q : Part). q.sizes) events.2 in
                let b = sym next in
                λ j. Ok (record { sizes = a j; next = b j }));
            field_is = sym (ap (λ (q : Part). q.field) events.2) ∙ ap (between bytes start) (sym next);
            events_are =
                ap (λ (n : ℕ). events_told (length bytes) bytes n 0 0) next
                ∙ events.1
                ∙ ap (λ (q : Part). Ok q.events) events.2;
          }

  pub whole_part_lem : {s : Sizes} {next : ℕ} {events : List Numbered} → opening bytes start ≡ Ok (record { sizes = s; next = next })
      → events_told (length bytes) bytes next 0 0 ≡ Ok events
      → part_told bytes start ≡ Ok (record { sizes = s; field = between bytes start next; events = events })
  whole_part_lem {s} {next} opens told =
      part_by bytes start opens ∙ ap (also (λ events. record { sizes = s; field = between bytes start next; events = events })) told

  -- a sizes field lies within the part
  pub opened_inside : {s : Sizes} {next : ℕ} → opening bytes start ≡ Ok (record { sizes = s; next = next }) → TakenAt bytes start (sizes_read s next)
  opened_inside opens = taken_at_lem bytes start at_first (opening_reads bytes start opens) refl

  abbrev pub sized_as : Sizes → Told Opening → Bool
  sized_as s x = elim x [ Err r ↦ false | Ok x ↦ equal_sizes s x.sizes ]

  pub sizes_begin : (s : Sizes) {x : Told Opening} → opening bytes start ≡ x → begins_with s bytes start ≡ sized_as s x
  unfolding begins_with
  sizes_begin s opens = ap (sized_as s) opens

-- ---- all parts

abbrev pub no_part : Part
no_part = record { sizes = record { n = 0; k = 0; w = 0; r = 0; b = 0 }; field = []; events = [] }

and_whole : (part : Told Part) (more : Told (List Part)) {told : List Part} → and_parts part more ≡ Ok told
    → (p : Part) × (part ≡ Ok p) × ((ps : List Part) × (more ≡ Ok ps) × ((p ∷ ps) ≡ told))
and_whole (Err r) more h = absurd (let z : ◌≡◌ {A = ℕ} 0 1 = cc in omega arith)
and_whole (Ok p) more h = (p, refl, also_whole (λ ps. p ∷ ps) more h)

pub parts_each : (bytes : List ℕ) (from : ℕ) (lengths : List ℕ) {told : List Part} → parts_told bytes from lengths ≡ Ok told
    → (length told ≡ length lengths)
    × ((i : ℕ) → i < length lengths → (start end : ℕ) → start ≡ from + start_of lengths i → end ≡ from + end_of lengths i
    → part_told (take end bytes) start ≡ Ok (get_or told i no_part))
unfolding parts_told sum
parts_each bytes from [] {told} h = (let none : [] ≡ told = cc in sym (ap length none), λ i k. absurd (not-suc-le-zero k))
parts_each bytes from (size ∷ lengths) {told} h =
    let here = and_whole (part_told (take (from + size) bytes) from) (parts_told bytes (from + size) lengths) h in
    let more = parts_each bytes (from + size) lengths here.2.1 in (
      sym (ap length here.2.2) ∙ ap suc more.0,
      subst (λ (ps : List Part). (i : ℕ) → i < suc (length lengths) → (start end : ℕ) → start ≡ from + start_of (size ∷ lengths) i → end ≡ from + end_of (size ∷ lengths) i
          → part_told (take end bytes) start ≡ Ok (get_or ps i no_part)) here.2.2
          (each here.0 here.2.0 here.1 more.1),
    )
  where
    each : (p : Part) (ps : List Part) → part_told (take (from + size) bytes) from ≡ Ok p
        → ((i : ℕ) → i < length lengths → (start end : ℕ) → start ≡ from + size + start_of lengths i → end ≡ from + size + end_of lengths i
        → part_told (take end bytes) start ≡ Ok (get_or ps i no_part))
        → (i : ℕ) → i < suc (length lengths) → (start end : ℕ) → start ≡ from + start_of (size ∷ lengths) i → end ≡ from + end_of (size ∷ lengths) i
        → part_told (take end bytes) start ≡ Ok (get_or (p ∷ ps) i no_part)
    each p ps first others zero k start end s e =
        (let a : start ≡ from = omega arith in
        let b : end ≡ from + size = omega arith in
        λ j. part_told (take (b j) bytes) (a j)) ∙ first
    each p ps first others (suc i) k start end s e = others i (le_of_suc-le-suc k) start end (omega arith) (omega arith)

-- each part is whole where it lies in the slice
pub part_at : (parts lengths : List ℕ) {told : List Part} → parts_told parts 0 lengths ≡ Ok told → (i : ℕ) → i < length lengths
    → PartWhole (part_of parts lengths i) (start_of lengths i) (get_or told i no_part)
part_at parts lengths reads i h =
    part_whole (part_of parts lengths i) (start_of lengths i) ((parts_each parts 0 lengths reads).1 i h (start_of lengths i) (end_of lengths i) (omega arith) (omega arith))

-- and back: parts that are whole one by one, with a property of each
pub parts_from : (P : ℕ → Part → Type 0) (bytes : List ℕ) (from : ℕ) (lengths : List ℕ)
    → ((i : ℕ) → i < length lengths → (start end : ℕ) → start ≡ from + start_of lengths i → end ≡ from + end_of lengths i
    → (p : Part) × (part_told (take end bytes) start ≡ Ok p) × P i p)
    → (told : List Part) × (parts_told bytes from lengths ≡ Ok told) × (length told ≡ length lengths) × ((i : ℕ) → i < length lengths → P i (get_or told i no_part))
unfolding parts_told sum
parts_from P bytes from [] h = ([], refl, refl, λ i k. absurd (not-suc-le-zero k))
parts_from P bytes from (size ∷ lengths) h =
    let here = h zero (suc-le-suc zero-le) from (from + size) (omega arith) (omega arith) in
    let more = parts_from (λ i. P (suc i)) bytes (from + size) lengths
    (λ i k start end s e. h (suc i) (suc-le-suc k) start end (omega arith) (omega arith)) in (
      here.0 ∷ more.0,
      (λ j. and_parts (here.1 j) (more.1 j)),
      ap suc more.2,
      each here.0 more.0 here.2 more.3,
    )
  where
    each : (p : Part) (ps : List Part) → P zero p → ((i : ℕ) → i < length lengths → P (suc i) (get_or ps i no_part))
        → (i : ℕ) → i < suc (length lengths) → P i (get_or (p ∷ ps) i no_part)
    each p ps first others zero k = first
    each p ps first others (suc i) k = others i (le_of_suc-le-suc k)

pub all_sized_lem : (s : Sizes) (told : List Part) → ((i : ℕ) → i < length told → equal_sizes s (get_or told i no_part).sizes ≡ true) → all_sized s told ≡ true
unfolding all_sized
all_sized_lem s [] h = refl
all_sized_lem s (p ∷ told) h =
    and_both (equal_sizes s p.sizes) (all_sized s told) (h zero (suc-le-suc zero-le)) (all_sized_lem s told (λ i k. h (suc i) (suc-le-suc k)))

pub sized_each : (s : Sizes) (told : List Part) → all_sized s told ≡ true → (i : ℕ) → i < length told → equal_sizes s (get_or told i no_part).sizes ≡ true
unfolding all_sized
sized_each s [] h i k = absurd (not-suc-le-zero k)
sized_each s (p ∷ told) h zero k = and_left (equal_sizes s p.sizes) (all_sized s told) h
sized_each s (p ∷ told) h (suc i) k = sized_each s told (and_right (equal_sizes s p.sizes) (all_sized s told) h) i (le_of_suc-le-suc k)

-- parts that begin with these sizes
pub alike_sized : (s : Sizes) (parts lengths : List ℕ) {told : List Part} → parts_told parts 0 lengths ≡ Ok told
    → ((i : ℕ) → i < length lengths → begins_with s (part_of parts lengths i) (start_of lengths i) ≡ true) → all_sized s told ≡ true
alike_sized s parts lengths {told} reads alike =
    all_sized_lem s told
    (λ i h.
    let inside : i < length lengths = omega (arith, (parts_each parts 0 lengths reads).0) in
    sym (sizes_begin (part_of parts lengths i) (start_of lengths i) s (part_at parts lengths reads i inside).opens) ∙ alike i inside)

pub sized_alike : (s : Sizes) (parts lengths : List ℕ) {told : List Part} → parts_told parts 0 lengths ≡ Ok told → all_sized s told ≡ true
    → (i : ℕ) → i < length lengths → begins_with s (part_of parts lengths i) (start_of lengths i) ≡ true
sized_alike s parts lengths {told} reads sized i h =
    sizes_begin (part_of parts lengths i) (start_of lengths i) s (part_at parts lengths reads i h).opens
    ∙ sized_each s told sized i (omega (arith, (parts_each parts 0 lengths reads).0))
