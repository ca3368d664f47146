-- What comes at a place of a trace, by what may come there: the sizes first, then events and the end, then nothing.
--     Comes, read_comes     what is read is one of these
-- Assumes nothing.
use Prim.Native.Nat.{ℕ, suc, ◌+◌}
use mathlib.Core.Path.{◌≡◌, refl}
use mathlib.Core.Bool.{Bool, true, false, cond, ◌||◌}
use mathlib.Core.List.{List}
use native.Mathlib.Omega.{arith}
use native.Mathlib.Numerals.{add-one}
use borrow.Author.Tests.{eqb-true, not-false}
use lib.Dec.{eqb, ltb}
use lib.ListN.{length}
use Rattle.std.specs.Prelude.{Result, Ok, Err}
use Rattle.rules.specs.declared.Sizes.{Sizes}
use Rattle.rules.specs.declared.Event.{Event}
use Rattle.rules.specs.declared.Refusal.{Refusal}
use Rattle.rules.specs.declared.Refusal.TheVariants.{ExtraByte}
use Rattle.rules.specs.Size.{in_range}
use Rattle.laws.proofs.Refusals.{Unrefused}
use Rattle.fields.specs.declared.Stage.{Stage}
use Rattle.fields.specs.declared.Stage.TheVariants.{First, Events, Ended}
use Rattle.fields.specs.declared.Reader.{Reader}
use Rattle.fields.specs.declared.Field.TheVariants as field
use Rattle.fields.specs.declared.Read.{Read}
use Rattle.fields.specs.declared.RefusedAt.{RefusedAt}
use Rattle.fields.specs.Field.{byte_at, four_at, sizes_tag, end_tag, payload_of, payload_at, sizes_at, event_at, refusals, taken, behind_end, field_at, refused_at, placed, read_at}
use Rattle.fields.specs.Part.{is_taken}
use Rattle.fields.proofs.Taken.{TakenAt, taken_at_lem, decided}

abbrev pub reader_at : Stage → ℕ → Reader
reader_at stage step = record { stage = stage; step = step }

-- a field that is taken, and the reader behind it
abbrev pub sizes_read : Sizes → ℕ → Read
sizes_read s next = record { field = field.Sizes s; next = next; reader = reader_at Events 0 }

abbrev pub event_read : ℕ → Event → ℕ → Read
event_read step e next = record { field = field.Event step e; next = next; reader = reader_at Events step }

abbrev pub end_read : ℕ → ℕ → Read
end_read step next = record { field = field.End; next = next; reader = reader_at Ended step }

abbrev pub nothing_read : ℕ → Reader → Read
nothing_read place reader = record { field = field.Nothing; next = place; reader = reader }

pub data Comes (bytes : List ℕ) (place step : ℕ) : Stage → Result Read RefusedAt → Type 0 where
  a_refusal : {stage : Stage} (why : Refusal) → Comes bytes place step stage (refused_at why place)
  the_sizes : (s : Sizes) (next : ℕ) → in_range s ≡ true → TakenAt bytes place (sizes_read s next) → Comes bytes place step First (Ok (sizes_read s next))
  an_event : (e : Event) (next : ℕ) → TakenAt bytes place (event_read (suc step) e next) → Comes bytes place step Events (Ok (event_read (suc step) e next))
  the_end : (next : ℕ) → TakenAt bytes place (end_read step next) → Comes bytes place step Events (Ok (end_read step next))
  nothing : Comes bytes place step Ended (Ok (nothing_read place (reader_at Ended step)))

or_right : (a b : Bool) → (a || b) ≡ false → b ≡ false
or_right true b h = absurd (let z : ◌≡◌ {A = ℕ} 0 1 = cc in omega arith)
or_right false b h = h

module _ (bytes : List ℕ) (place step : ℕ) where
  -- what comes, once it is known where a taken field lies
  abbrev Shown : Stage → Result Read RefusedAt → Type 0
  Shown stage x = ((y : Read) → x ≡ Ok y → is_taken y.field ≡ true → TakenAt bytes place y) → Comes bytes place step stage x

  tag : ℕ
  tag = byte_at bytes place

  i : ℕ
  i = place + 3

  at_first_lem : Unrefused (refusals bytes place (reader_at First step)) → Shown First (Ok (taken bytes place (reader_at First step)))
  unfolding taken refusals tag i
  at_first_lem passed =
      let sizes : eqb tag sizes_tag ≡ true = not-false _ (or_right (eqb (payload_of tag) 0) _ passed.1.0) in
      let range = not-false _ (rw sizes at passed.1.1.1.1.0) in
      rw sizes (λ lies. the_sizes (sizes_at bytes i (payload_at bytes place)) (i + payload_at bytes place) range (lies _ refl refl))

  at_events : Unrefused (refusals bytes place (reader_at Events step)) → Shown Events (Ok (taken bytes place (reader_at Events step)))
  unfolding taken refusals tag i
  at_events passed = by_end (eqb tag end_tag) refl
    where
      other : eqb tag sizes_tag ≡ false
      other = or_right (eqb (payload_of tag) 0) _ passed.1.0

      by_end : (b : Bool) → eqb tag end_tag ≡ b → Shown Events (Ok (taken bytes place (reader_at Events step)))
      by_end true e = rw (other, e) (λ lies. the_end (i + payload_at bytes place) (lies _ refl refl))
      by_end false e =
          let follows = eqb-true (four_at bytes i) (step + 1) (not-false _ (rw (other, e) at passed.1.1.1.1.0)) in
          rw (other, e, follows, add-one) (λ lies. an_event (event_at tag bytes (i + 4)) (i + payload_at bytes place) (lies _ refl refl))

  by_stage : (stage : Stage) → Shown stage (read_at bytes place (reader_at stage step))
  unfolding read_at field_at behind_end
  by_stage First = decided (λ x. Shown First (placed place x)) (λ why lies. a_refusal why) (refusals bytes place (reader_at First step)) (taken bytes place (reader_at First step)) at_first_lem
  by_stage Events = decided (λ x. Shown Events (placed place x)) (λ why lies. a_refusal why) (refusals bytes place (reader_at Events step)) (taken bytes place (reader_at Events step)) at_events
  by_stage Ended = by_more (ltb place (length bytes))
    where
      by_more : (b : Bool) → Shown Ended (placed place (cond b (Err ExtraByte) (Ok (nothing_read place (reader_at Ended step)))))
      by_more true = λ lies. a_refusal ExtraByte
      by_more false = λ lies. nothing

  pub read_comes : (stage : Stage) → Comes bytes place step stage (read_at bytes place (reader_at stage step))
  read_comes stage = by_stage stage (λ y. taken_at_lem bytes place (reader_at stage step))
