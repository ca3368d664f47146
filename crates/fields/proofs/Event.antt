-- An event field: what its bytes say where one is read, and what is read where they say so.
--     Says, event_says     what the bytes of an event field say
--     no_event_lem             where they do not, no event field stands
--     event_there, event_stands     where they do, one does
-- Assumes nothing.
use Prim.Native.Nat.{ℕ, ◌+◌, ◌≤◌, ◌<◌}
use mathlib.Core.Path.{◌≡◌, refl, sym, ap, subst, ◌∙◌}
use mathlib.Core.Bool.{Bool, true, false, not}
use mathlib.Core.List.{List}
use native.Mathlib.Omega.{arith}
use borrow.Author.Tests.{ltb-false, eqb-true, eqb-false, eq-eqb, ne_eqb, not-false}
use lib.Dec.{eqb}
use lib.ListN.{length}
use Rattle.std.specs.Prelude.{Result, Ok, None, Some}
use Rattle.rules.specs.declared.Event.{Event}
use Rattle.laws.proofs.Refusals.{Unrefused}
use Rattle.fields.specs.declared.Stage.TheVariants.{Events}
use Rattle.fields.specs.declared.Reader.{Reader}
use Rattle.fields.specs.declared.Field.TheVariants as field
use Rattle.fields.specs.declared.Read.{Read}
use Rattle.fields.specs.declared.RefusedAt.{RefusedAt}
use Rattle.fields.specs.Field.{byte_at, two_at, four_at, sizes_tag, end_tag, payload_of, payload_at, event_at, refusals, taken, placed, read_at, EventSized}
use Rattle.fields.specs.Part.{is_taken}
use Rattle.fields.proofs.Tags.{other_payload}
use Rattle.fields.proofs.Order.{Headed, payload_whole, read_stage}
use Rattle.fields.proofs.Payload.{event_read_lem}
use Rattle.laws.proofs.Tests.{never, or_left}
use Rattle.fields.proofs.Taken.{OfRead, read_holds}

pub record Says (bytes : List ℕ) (place step : ℕ) : Type 0 where
  pub begins : place + 3 ≤ length bytes
  pub known : payload_of (byte_at bytes place) ≡ 0 → ⊥
  pub no_sizes : byte_at bytes place ≡ sizes_tag → ⊥
  pub no_end : byte_at bytes place ≡ end_tag → ⊥
  pub long : two_at bytes (place + 1) ≡ payload_of (byte_at bytes place)
  pub whole : place + 3 + payload_of (byte_at bytes place) ≤ length bytes
  pub next : four_at bytes (place + 3) ≡ step + 1

module _ (bytes : List ℕ) (place step : ℕ) where
  tag : ℕ
  tag = byte_at bytes place

  abbrev reader : Reader
  reader = record { stage = Events; step = step }

  abbrev AnEvent : Read → Type 0
  AnEvent x = (n : ℕ) (e : Event) → x.field ≡ field.Event n e → Says bytes place step

  pub event_says : (x : Read) (n : ℕ) (e : Event) → read_at bytes place reader ≡ Ok x → x.field ≡ field.Event n e → Says bytes place step
  unfolding taken refusals tag
  event_says x n e read event =
      subst (OfRead AnEvent) read
      (read_holds place reader (OfRead AnEvent) (λ why. tt) bytes (λ n e h. absurd (never (ap is_taken h))) (by_tag (eqb tag sizes_tag) refl (eqb tag end_tag) refl))
      n
      e
      event
    where
      by_tag : (x : Bool) → eqb tag sizes_tag ≡ x → (y : Bool) → eqb tag end_tag ≡ y → Unrefused (refusals bytes place reader) → AnEvent (taken bytes place reader)
      by_tag true is_sizes y is_end passed n e h =
          let other = rw is_sizes at h in
          absurd (let z : ◌≡◌ {A = ℕ} 0 1 = cc in omega arith)
      by_tag false is_sizes true is_end passed n e h =
          let other = rw (is_sizes, is_end) at h in
          absurd (let z : ◌≡◌ {A = ℕ} 0 1 = cc in omega arith)
      by_tag false is_sizes false is_end passed n e h =
          let test = rw (is_sizes, is_end) at passed.1.1.1.1.0 in
          let same = other_payload tag (two_at bytes (place + 1)) (eqb-false tag sizes_tag is_sizes) in
          record {
            begins = ltb-false (length bytes) (place + 3) passed.0;
            known = eqb-false (payload_of tag) 0 (or_left _ (eqb tag sizes_tag) passed.1.0);
            no_sizes = eqb-false tag sizes_tag is_sizes;
            no_end = eqb-false tag end_tag is_end;
            long = eqb-true (two_at bytes (place + 1)) (payload_at bytes place) (not-false _ passed.1.1.0) ∙ same;
            whole = omega (arith, ltb-false (length bytes) (place + 3 + payload_at bytes place) passed.1.1.1.0, same);
            next = eqb-true (four_at bytes (place + 3)) (step + 1) (not-false _ test);
          }

  pub no_event_lem : (Says bytes place step → ⊥) → EventSized bytes place step None
  no_event_lem other = record { none = λ x n e read event. other (event_says x n e read event); reads = tt; whole = tt; follows = tt }

  -- the event that is read, with the place behind it
  abbrev pub behind : ℕ → Read
  behind next =
      record { field = field.Event (step + 1) (event_at (byte_at bytes place) bytes (place + 7)); next = next; reader = record { stage = Events; step = step + 1 } }

  pub event_there : {payload : ℕ} → payload ≡ payload_of (byte_at bytes place) → Says bytes place step
      → ◌≡◌ {A = Result Read RefusedAt} (read_at bytes place reader) (Ok (behind (place + (3 + payload))))
  unfolding tag
  event_there {payload} length-is says =
      let on : place + (3 + payload) ≡ place + 3 + payload = omega arith in
      let from : place + 7 ≡ place + 3 + 4 = omega arith in
      sym
      (ap (λ n. Ok (behind n)) on
      ∙ ap (placed place) (event_read_lem bytes place reader false says_so says.no_sizes (sym says.next) says.no_end (ap (event_at tag bytes) from) (ap not (eq-eqb (step + 1) (step + 1) refl))
      ∙ payload_whole head (omega (arith, length-is, says.whole)))
      ∙ read_stage bytes place reader Events refl)
    where
      says_so : payload ≡ payload_at bytes place
      says_so = length-is ∙ sym (other_payload tag (two_at bytes (place + 1)) says.no_sizes)

      head : Headed bytes place reader payload
      head =
          record {
            begins = says.begins;
            says = says_so;
            known = says.known;
            placed = ne_eqb tag sizes_tag says.no_sizes;
            long = says.long ∙ sym length-is;
          }

  pub event_stands : {payload : ℕ} → payload ≡ payload_of (byte_at bytes place) → Says bytes place step → step + 1 < 4294967296
      → EventSized bytes place step (Some (3 + payload))
  unfolding tag
  event_stands {payload} length-is says fits =
      record { none = tt; reads = event_there length-is says; whole = (omega (arith, length-is), omega (arith, length-is, says.whole)); follows = fits }
