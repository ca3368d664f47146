-- A field that is taken: the sizes, an event or the end.
--     decided                   what holds of every refusal, and of a field that no test refuses, holds of what the tests decide
--     read_holds                the same of what is read, where it holds of nothing too
--     OfRead                    a property of what is read, where it is not refused
--     TakenAt, taken_at_lem     where a field lies that is taken
--     event_step                the step number of an event
-- Assumes nothing.
use Prim.Native.Nat.{ℕ, ◌+◌, ◌≤◌, ◌<◌}
use mathlib.Core.Path.{◌≡◌, refl, ap, subst}
use mathlib.Core.Bool.{Bool, true, false, cond}
use mathlib.Core.List.{List, [], ◌∷◌}
use native.Mathlib.Omega.{arith}
use borrow.Author.Tests.{ltb-false, eqb-true, eqb-false, not-false}
use lib.Dec.{eqb, ltb}
use lib.ListN.{length}
use Rattle.std.specs.Prelude.{Result, Ok, Err}
use Rattle.rules.specs.declared.Event.{Event}
use Rattle.rules.specs.declared.Refusal.{Refusal}
use Rattle.rules.specs.declared.Refusal.TheVariants.{ExtraByte}
use Rattle.rules.specs.Outcome.{Test}
use Rattle.laws.proofs.Tests.{never, or_left}
use Rattle.laws.proofs.Refusals.{Unrefused}
use Rattle.fields.specs.declared.Stage.{Stage}
use Rattle.fields.specs.declared.Stage.TheVariants.{First, Events, Ended}
use Rattle.fields.specs.declared.Reader.{Reader}
use Rattle.fields.specs.declared.Field.TheVariants as field
use Rattle.fields.specs.declared.Read.{Read}
use Rattle.fields.specs.declared.RefusedAt.{RefusedAt}
use Rattle.fields.specs.Field.{byte_at, two_at, four_at, sizes_tag, end_tag, payload_of, payload_at, misplaced, refusals, decide, taken, behind_end, field_at, refused_at, placed, read_at}
use Rattle.fields.specs.Part.{longest, is_taken}
use Rattle.fields.proofs.Tags.{either, payload_least, payload_most}
use Rattle.fields.proofs.Order.{at_stage}

pub record TakenAt (bytes : List ℕ) (place : ℕ) (x : Read) : Type 0 where
  pub least : place + 7 ≤ x.next
  pub most : x.next ≤ place + longest
  pub inside : x.next ≤ length bytes

-- P of what is read, where it is not refused
abbrev pub OfRead : (Read → Type 0) → Result Read RefusedAt → Type 0
OfRead P (Ok x) = P x
OfRead P (Err r) = Unit {0}

module _ (P : Result Read Refusal → Type 0) (refused : (why : Refusal) → P (Err why)) where
  pub decided : (tests : List Test) (x : Read) → (Unrefused tests → P (Ok x)) → P (decide tests x)
  unfolding decide
  decided [] x done = done tt
  decided (t ∷ tests) x done = by_test t.when (λ e. decided tests x (λ rest. done (e, rest)))
    where
      by_test : (b : Bool) → (b ≡ false → P (decide tests x)) → P (cond b (Err t.why) (decide tests x))
      by_test true next = refused t.why
      by_test false next = next refl

module _ (place : ℕ) (reader : Reader) (P : Result Read RefusedAt → Type 0) (refused : (why : Refusal) → P (refused_at why place)) where
  pub read_holds : (bytes : List ℕ) → P (Ok (record { field = field.Nothing; next = place; reader = reader }))
      → (Unrefused (refusals bytes place reader) → P (Ok (taken bytes place reader))) → P (read_at bytes place reader)
  unfolding read_at field_at behind_end
  read_holds bytes nothing done = by_stage reader.stage
    where
      at_field : P (placed place (field_at bytes place reader))
      at_field = decided (λ x. P (placed place x)) refused (refusals bytes place reader) (taken bytes place reader) done

      by_stage : (stage : Stage) → P (placed place (at_stage bytes place reader stage))
      by_stage First = at_field
      by_stage Events = at_field
      by_stage Ended = either (λ x. P (placed place x)) (ltb place (length bytes)) (refused ExtraByte) nothing

module _ (bytes : List ℕ) (place : ℕ) (reader : Reader) where
  tag : ℕ
  tag = byte_at bytes place

  pub taken_at_lem : {x : Read} → read_at bytes place reader ≡ Ok x → is_taken x.field ≡ true → TakenAt bytes place x
  unfolding taken refusals tag
  taken_at_lem e =
      subst (OfRead (λ x. is_taken x.field ≡ true → TakenAt bytes place x)) e
      (read_holds place reader (OfRead (λ x. is_taken x.field ≡ true → TakenAt bytes place x)) (λ why. tt) bytes (λ h. absurd (never h)) (λ passed h. lies passed))
    where
      next : (taken bytes place reader).next ≡ place + 3 + payload_at bytes place
      next = let P : Read → Type 0 = (λ x. x.next ≡ place + 3 + payload_at bytes place) in either P (eqb tag sizes_tag) refl (either P (eqb tag end_tag) refl refl)

      lies : Unrefused (refusals bytes place reader) → TakenAt bytes place (taken bytes place reader)
      lies passed =
          let known = eqb-false (payload_of tag) 0 (or_left _ (misplaced reader.stage tag) passed.1.0) in
          let whole = ltb-false (length bytes) (place + 3 + payload_at bytes place) passed.1.1.1.0 in
          record {
            least = omega (arith, next, payload_least tag (two_at bytes (place + 1)) known);
            most = omega (arith, next, payload_most tag (two_at bytes (place + 1)));
            inside = omega (arith, next);
          }

  -- the step number of an event: "the previous plus one", in four bytes
  abbrev Follows : ℕ → Type 0
  Follows step = (step ≡ reader.step + 1) × (step < 4294967296)

  abbrev AnEvent : Read → Type 0
  AnEvent x = (step : ℕ) (e : Event) → x.field ≡ field.Event step e → Follows step

  pub event_step : ((i : ℕ) → byte_at bytes i < 256) → {x : Read} (step : ℕ) (e : Event) → read_at bytes place reader ≡ Ok x → x.field ≡ field.Event step e
      → Follows step
  unfolding taken refusals tag
  event_step small step e read event =
      subst (OfRead AnEvent) read
      (read_holds place reader (OfRead AnEvent) (λ why. tt) bytes (λ step e h. absurd (never (ap is_taken h))) (by_tag (eqb tag sizes_tag) refl (eqb tag end_tag) refl))
      step
      e
      event
    where
      i : ℕ
      i = place + 3

      by_tag : (x : Bool) → eqb tag sizes_tag ≡ x → (y : Bool) → eqb tag end_tag ≡ y → Unrefused (refusals bytes place reader) → AnEvent (taken bytes place reader)
      by_tag true is_sizes y is_end passed step e h =
          let other = rw is_sizes at h in
          absurd (let z : ◌≡◌ {A = ℕ} 0 1 = cc in omega arith)
      by_tag false is_sizes true is_end passed step e h =
          let other = rw (is_sizes, is_end) at h in
          absurd (let z : ◌≡◌ {A = ℕ} 0 1 = cc in omega arith)
      by_tag false is_sizes false is_end passed step e h =
          let event = rw (is_sizes, is_end) at h in
          let same : four_at bytes i ≡ step = cc in
          let test = rw (is_sizes, is_end) at passed.1.1.1.1.0 in
          let after = eqb-true (four_at bytes i) (reader.step + 1) (not-false _ test) in
          (omega arith, omega (arith, small i, small (i + 1), small (i + 2), small (i + 2 + 1)))
