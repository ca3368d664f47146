-- Reading part by part.
--     number_there                          the number that a field begins with
--     expects_end, expects_above, expects_next, expects_last     what document 01's reader is given as the last step number
--     tells, turn_is                        what stands at a place of a part
--     turn_takes, told_event, rises, told_end      a turn of the check of a part's events
--     next_at, opens_by, opening_reads, reads_opening     the sizes field of a part
--     and_seen, tells_part, part_by, part_seen            a whole part
--     seen_refused, seen_whole, told_next, seen_all       part by part
-- Assumes nothing.
use Prim.Native.Nat.{ℕ, suc, ◌+◌, ◌-◌, ◌≤◌, ◌<◌}
use mathlib.Core.Path.{◌≡◌, refl, sym, ap, ◌∙◌}
use mathlib.Core.Bool.{Bool, true, false, cond, ◌&&◌}
use mathlib.Core.List.{List, [], ◌∷◌}
use native.Mathlib.Omega.{arith}
use native.Mathlib.Numerals.{add-one}
use borrow.Author.Tests.{ltb-true, lt-ltb, le-ltb, eq-eqb, ne_eqb}
use lib.Dec.{ltb}
use lib.ListN.{length, get_or, take, drop, drop_of_length-le}
use lib.Seq.{drop-cons}
use Rattle.std.specs.Prelude.{Result, Ok, Err, None, Some}
use Rattle.rules.specs.declared.Sizes.{Sizes}
use Rattle.rules.specs.declared.Event.{Event}
use Rattle.rules.specs.declared.Refusal.TheVariants.{StopsShort, ExtraByte}
use Rattle.fields.specs.declared.Stage.TheVariants.{First, Events}
use Rattle.fields.specs.declared.Field.{Field}
use Rattle.fields.specs.declared.Field.TheVariants as field
use Rattle.fields.specs.declared.Read.{Read}
use Rattle.fields.specs.declared.RefusedAt.{RefusedAt}
use Rattle.fields.specs.Field.{byte_at, four_at, end_tag, refused_at, read_at, EventSized}
use Rattle.fields.proofs.Event.{event_says}
use Rattle.fields.proofs.Comes.{Comes, a_refusal, the_sizes, read_comes, sizes_read}
use Rattle.join.specs.declared.Opening.{Opening}
use Rattle.join.specs.Part.{Numbered, Part, Told, also, number_at, expected, between, at_first, opening, events_told, part_told, and_parts, parts_told}
use Rattle.join.specs.Joined.{equal_sizes, all_sized}
use Rattle.join.specs.Merge.{seen, seen_part, seen_parts, end_seen}

module _ (bytes : List ℕ) (place : ℕ) where
  pub number_there : place + 7 ≤ length bytes → four_at bytes (place + 3) ≡ number_at bytes place
  unfolding number_at
  number_there there = rw (le-ltb (length bytes) (place + 7) there)

  module _ (last events : ℕ) where
    pub expects_end : byte_at bytes place ≡ end_tag → events ≡ expected bytes place last events
    unfolding expected
    expects_end tag = rw (eq-eqb (byte_at bytes place) end_tag tag)

    -- before an event it is not below the previous number
    pub expects_above : (byte_at bytes place ≡ end_tag → ⊥) → last ≤ expected bytes place last events
    unfolding expected
    expects_above more = rw (ne_eqb (byte_at bytes place) end_tag more) (above (ltb last (number_at bytes place)) refl)
      where
        above : (b : Bool) → ltb last (number_at bytes place) ≡ b → last ≤ cond b (number_at bytes place - 1) last
        above true h = omega (arith, ltb-true last (number_at bytes place) h)
        above false h = omega arith

    pub expects_next : {number : ℕ} → (byte_at bytes place ≡ end_tag → ⊥) → number ≡ number_at bytes place → last < number
        → number - 1 ≡ expected bytes place last events
    unfolding expected
    expects_next {number} more is above = rw (ne_eqb (byte_at bytes place) end_tag more, ← is, lt-ltb last number above)

    pub expects_last : {number : ℕ} → (byte_at bytes place ≡ end_tag → ⊥) → number ≡ number_at bytes place → number ≤ last
        → last ≡ expected bytes place last events
    unfolding expected
    expects_last {number} more is below = rw (ne_eqb (byte_at bytes place) end_tag more, ← is, le-ltb last number below)

-- one event more
seen_also : {A B : Type 0} (f : A → B) (told : Result A RefusedAt) → seen (also f told) ≡ seen told
seen_also f (Err r) = refl
seen_also f (Ok x) = refl

-- ---- a turn: what stands at a place of a part, by what document 01's reader reads there

module _ (bytes : List ℕ) (place events turns : ℕ) where
  abbrev pub field_tells : Field → ℕ → Told (List Numbered)
  field_tells f next =
      elim f [
        | field.Event number e ↦
            also (λ more. record { number = number; bytes = between bytes place next } ∷ more) (events_told turns bytes next number (events + 1))
        | field.End ↦ cond (ltb next (length bytes)) (refused_at ExtraByte next) (Ok [])
        | field.Sizes s ↦ refused_at StopsShort place
        | field.Nothing ↦ refused_at StopsShort place
      ]

  abbrev pub tells : Result Read RefusedAt → Told (List Numbered)
  tells x = elim x [ Err r ↦ Err r | Ok x ↦ field_tells x.field x.next ]

  pub turn_is : {step : ℕ} (last : ℕ) → step ≡ expected bytes place last events
      → tells (read_at bytes place (record { stage = Events; step = step })) ≡ events_told (suc turns) bytes place last events
  unfolding events_told
  turn_is last is = ap (λ (step : ℕ). tells (read_at bytes place (record { stage = Events; step = step }))) is

module _ (bytes : List ℕ) (place : ℕ) where
  abbrev pub field_ends : Field → ℕ → Result (Unit {0}) RefusedAt
  field_ends f next =
      elim f [
        | field.Event number e ↦ refused_at StopsShort place
        | field.End ↦ cond (ltb next (length bytes)) (refused_at ExtraByte next) (Ok tt)
        | field.Sizes s ↦ refused_at StopsShort place
        | field.Nothing ↦ refused_at StopsShort place
      ]

  abbrev pub ends : Result Read RefusedAt → Result (Unit {0}) RefusedAt
  ends x = elim x [ Err r ↦ Err r | Ok x ↦ field_ends x.field x.next ]

module _ (bytes : List ℕ) (place last events turns : ℕ) {step : ℕ} (is : step ≡ expected bytes place last events) where
  module _ {size : ℕ} (sized : EventSized bytes place step (Some size)) where
    -- an event is taken
    pub turn_takes : also (λ more. record { number = step + 1; bytes = between bytes place (place + size) } ∷ more) (events_told turns bytes (place + size) (step + 1) (events + 1))
        ≡ events_told (suc turns) bytes place last events
    turn_takes = ap (tells bytes place events turns) (sym sized.reads) ∙ turn_is bytes place events turns last is

    pub told_event : seen (events_told (suc turns) bytes place last events) ≡ seen (events_told turns bytes (place + size) (step + 1) (events + 1))
    told_event = ap seen (sym turn_takes) ∙ seen_also _ (events_told turns bytes (place + size) (step + 1) (events + 1))

    -- an event that is taken in a part has a number above the previous one
    pub rises : last ≤ step
    rises = rw is (expects_above bytes place last events (event_says bytes place step _ _ _ sized.reads refl).no_end)

  pub told_end : EventSized bytes place step None → end_seen bytes place step ≡ seen (events_told (suc turns) bytes place last events)
  unfolding end_seen
  told_end sized = by_read (read_at bytes place (record { stage = Events; step = step })) sized.none ∙ ap seen (turn_is bytes place events turns last is)
    where
      by_more : (b : Bool) (next : ℕ) → cond b (refused_at ExtraByte next) (Ok tt) ≡ seen (cond b (refused_at {A = List Numbered} ExtraByte next) (Ok []))
      by_more true next = refl
      by_more false next = refl

      by_field : (f : Field) (next : ℕ) → ((n : ℕ) (e : Event) → f ≡ field.Event n e → ⊥) → field_ends bytes place f next ≡ seen (field_tells bytes place events turns f next)
      by_field (field.Event n e) next other = absurd (other n e refl)
      by_field field.End next other = by_more (ltb next (length bytes)) next
      by_field (field.Sizes s) next other = refl
      by_field field.Nothing next other = refl

      by_read : (x : Result Read RefusedAt) → ((y : Read) (n : ℕ) (e : Event) → x ≡ Ok y → y.field ≡ field.Event n e → ⊥) → ends bytes place x ≡ seen (tells bytes place events turns x)
      by_read (Err r) other = refl
      by_read (Ok y) other = by_field y.field y.next (λ n e is. other y n e refl is)

-- ---- the sizes field of a part

-- the place behind it
abbrev pub next_at : Told Opening → ℕ
next_at (Err r) = 0
next_at (Ok x) = x.next

module _ (bytes : List ℕ) (start : ℕ) where
  abbrev pub opens_by : Result Read RefusedAt → Told Opening
  opens_by x =
      elim x [
        | Err r ↦ Err r
        | Ok x ↦ elim x.field [
          | field.Sizes s ↦ Ok (record { sizes = s; next = x.next })
          | field.Event number e ↦ refused_at StopsShort start
          | field.End ↦ refused_at StopsShort start
          | field.Nothing ↦ refused_at StopsShort start
        ]
      ]

  pub reads_opening : {s : Sizes} {next : ℕ} → read_at bytes start at_first ≡ Ok (sizes_read s next) → opening bytes start ≡ Ok (record { sizes = s; next = next })
  unfolding opening
  reads_opening read = ap opens_by read

  pub opening_reads : {s : Sizes} {next : ℕ} → opening bytes start ≡ Ok (record { sizes = s; next = next }) → read_at bytes start at_first ≡ Ok (sizes_read s next)
  unfolding opening
  opening_reads {s} {next} opened = by_read (read_at bytes start at_first) (read_comes bytes start 0 First) opened
    where
      by_read : (x : Result Read RefusedAt) → Comes bytes start 0 First x → opens_by x ≡ Ok (record { sizes = s; next = next }) → x ≡ Ok (sizes_read s next)
      by_read x (a_refusal why) h = absurd (let z : ◌≡◌ {A = ℕ} 0 1 = cc in omega arith)
      by_read x (the_sizes t behind range lies) h =
          let same : ◌≡◌ {A = Opening} (record { sizes = t; next = behind }) (record { sizes = s; next = next }) = cc in
          ap (λ (o : Opening). Ok (sizes_read o.sizes o.next)) same

-- ---- a whole part

-- what is seen of a part, by what is seen of its events and whether its sizes are those of the first
abbrev pub and_seen : Result (Unit {0}) RefusedAt → Bool → Result Bool RefusedAt
and_seen (Err r) same = Err r
and_seen (Ok u) same = Ok same

module _ (bytes : List ℕ) (start : ℕ) where
  -- what a part tells behind its sizes field
  abbrev pub tells_part : Told Opening → Told Part
  tells_part x =
      elim x [
        | Err r ↦ Err r
        | Ok x ↦ also (λ events. record { sizes = x.sizes; field = between bytes start x.next; events = events }) (events_told (length bytes) bytes x.next 0 0)
      ]

  pub part_by : {x : Told Opening} → opening bytes start ≡ x → part_told bytes start ≡ tells_part x
  unfolding part_told
  part_by opened = ap tells_part opened

  pub part_seen : (first : Sizes) {x : Opening} → opening bytes start ≡ Ok x
      → seen_part first (part_told bytes start) ≡ and_seen (seen (events_told (length bytes) bytes x.next 0 0)) (equal_sizes first x.sizes)
  part_seen first {x} opened = ap (seen_part first) (part_by opened) ∙ by_told (events_told (length bytes) bytes x.next 0 0)
    where
      by_told : (told : Told (List Numbered))
          → seen_part first (also (λ events. record { sizes = x.sizes; field = between bytes start x.next; events = events }) told) ≡ and_seen (seen told) (equal_sizes first x.sizes)
      by_told (Err r) = refl
      by_told (Ok events) = refl

-- ---- part by part

module _ (first : Sizes) (same : Bool) (more : Told (List Part)) where
  pub seen_refused : (part : Told Part) {r : RefusedAt} → Err r ≡ seen_part first part → Err r ≡ seen_parts first same (and_parts part more)
  seen_refused (Err r) is = is
  seen_refused (Ok p) is = absurd (let z : ◌≡◌ {A = ℕ} 0 1 = cc in omega arith)

  pub seen_whole : (part : Told Part) {b : Bool} → Ok b ≡ seen_part first part → seen_parts first same (and_parts part more) ≡ seen_parts first (same && b) more
  unfolding all_sized
  seen_whole (Err r) is = absurd (let z : ◌≡◌ {A = ℕ} 0 1 = cc in omega arith)
  seen_whole (Ok p) {b} is =
      let equal : equal_sizes first p.sizes ≡ b = cc in
      by_more more ∙ ap (λ (c : Bool). seen_parts first (same && c) more) equal
    where
      by_same : (a c d : Bool) → (a && (c && d)) ≡ ((a && c) && d)
      by_same true c d = refl
      by_same false c d = refl

      by_more : (told : Told (List Part)) → seen_parts first same (also (λ parts. p ∷ parts) told) ≡ seen_parts first (same && equal_sizes first p.sizes) told
      by_more (Err r) = refl
      by_more (Ok parts) = ap Ok (by_same same (equal_sizes first p.sizes) (all_sized first parts))

pub told_next : (parts : List ℕ) (start : ℕ) (lengths : List ℕ) (i : ℕ) → i < length lengths
    → parts_told parts start (drop i lengths)
    ≡ and_parts (part_told (take (start + get_or lengths i 0) parts) start) (parts_told parts (start + get_or lengths i 0) (drop (i + 1) lengths))
unfolding parts_told
told_next parts start lengths i h = rw (add-one i, drop-cons lengths i 0)

pub seen_all : (first : Sizes) (same : Bool) (parts : List ℕ) (start : ℕ) (lengths : List ℕ) (i : ℕ) → length lengths ≤ i
    → Ok same ≡ seen_parts first same (parts_told parts start (drop i lengths))
unfolding parts_told all_sized
seen_all first same parts start lengths i h = rw (drop_of_length-le lengths h) (ap Ok (by_same same))
  where
    by_same : (b : Bool) → b ≡ (b && true)
    by_same true = refl
    by_same false = refl
