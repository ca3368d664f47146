-- What a part tells, event by event.
--     also_whole, also-none         what was read, taken apart
--     expects                       before the next event of a part document 01's reader is given the number below it
--     Came, came_start, came_later, came_takes     how far a part has been taken
--     EndSays, end_says             the bytes of an end field
--     Turned, told_turn             what is known of a part that is whole, at its next field
--     told_ends                     a part that stands at its end is whole
--     rising                        its numbers rise
-- Assumes nothing.
use Prim.Native.Nat.{ℕ, zero, suc, ◌+◌, ◌-◌, ◌≤◌, ◌<◌}
use mathlib.Core.Path.{◌≡◌, refl, sym, ap, ◌∙◌, subst}
use mathlib.Core.Logic.{⊎_elim}
use mathlib.Core.Bool.{Bool, true, false, cond}
use mathlib.Core.List.{List, [], ◌∷◌, ◌++◌}
use native.Mathlib.Omega.{arith}
use native.Mathlib.Nat.{add-zero}
use lib.Dec.{eqb, ltb}
use lib.ListN.{length, length-append}
use lib.Seq.{append_snoc}
use Rattle.std.specs.Prelude.{Result, Ok, Err, Some, is_ok}
use Rattle.rules.specs.declared.Event.{Event}
use Rattle.rules.specs.declared.Refusal.TheVariants.{ExtraByte}
use Rattle.rules.specs.View.{bit}
use Rattle.laws.proofs.Tests.{never, eqb_cases}
use Rattle.laws.proofs.Refusals.{Unrefused}
use Rattle.fields.specs.declared.Stage.TheVariants.{Events}
use Rattle.fields.specs.declared.Field.{Field}
use Rattle.fields.specs.declared.Field.TheVariants as field
use Rattle.fields.specs.declared.Reader.{Reader}
use Rattle.fields.specs.declared.Read.{Read}
use Rattle.fields.specs.declared.RefusedAt.{RefusedAt}
use Rattle.fields.specs.Field.{byte_at, two_at, four_at, sizes_tag, end_tag, payload_of, payload_at, refusals, taken, refused_at, read_at, EventSized}
use Rattle.fields.specs.Part.{is_taken}
use Rattle.fields.proofs.Tags.{tag_least, other_payload}
use Rattle.fields.proofs.Taken.{OfRead, read_holds}
use Rattle.fields.proofs.Event.{Says, event_says, event_there}
use borrow.Author.Tests.{eqb-true, eqb-false, not-false}
use Rattle.join.specs.Part.{Numbered, Told, also, expected, between, events_told}
use Rattle.join.specs.Merge.{end_seen, ends_with}
use Rattle.join.proofs.Numbers.{times}
use Rattle.join.proofs.Reading.{number_there, expects_end, expects_above, expects_next, field_tells, tells, turn_is, turn_takes, field_ends, ends}

-- ---- what was read, taken apart

pub also_whole : {A B : Type 0} (f : A → B) (told : Told A) {x : B} → also f told ≡ Ok x → (y : A) × (told ≡ Ok y) × (f y ≡ x)
also_whole f (Err r) h = absurd (let z : ◌≡◌ {A = ℕ} 0 1 = cc in omega arith)
also_whole f (Ok y) {x} h = (y, refl, let same : f y ≡ x = cc in same)

-- one event behind the others
also-behind : (before : List Numbered) (e : Numbered) (told : Told (List Numbered))
    → also (λ more. before ++ more) (also (λ more. e ∷ more) told) ≡ also (λ more. (before ++ (e ∷ [])) ++ more) told
also-behind before e (Err r) = refl
also-behind before e (Ok more) = ap Ok (sym (append_snoc before e more))

pub also-none : (told : Told (List Numbered)) → told ≡ also (λ more. [] ++ more) told
also-none (Err r) = refl
also-none (Ok more) = refl

-- ---- how far a part has been taken

module _ {bytes : List ℕ} {place step size : ℕ} (sized : EventSized bytes place step (Some size)) where
  pub says_here : Says bytes place step
  says_here = event_says bytes place step _ _ _ sized.reads refl

  pub expects : (last events : ℕ) → last ≤ step → step ≡ expected bytes place last events
  expects last events h =
      let says = says_here in
      let long = tag_least (byte_at bytes place) says.known in
      let number : step + 1 ≡ _ = sym says.next ∙ number_there bytes place (omega (arith, says.whole)) in
      (let one : step ≡ step + 1 - 1 = omega arith in one) ∙ expects_next bytes place last events says.no_end number (omega arith)

-- the events that were taken of a part from a place on, up to another place and no further than a step: the rest is read from there
pub record Came (bytes : List ℕ) (from step place : ℕ) (got : List Numbered) : Type 0 where
  pub last : ℕ
  pub most : last ≤ step
  pub room : from + length got ≤ place
  pub inside : from ≤ length bytes → place ≤ length bytes
  pub reads : (turns : ℕ) → events_told (turns + length got) bytes from 0 0 ≡ also (λ more. got ++ more) (events_told turns bytes place last (length got))

pub came_start : (bytes : List ℕ) (from step : ℕ) → Came bytes from step from []
came_start bytes from step =
    record {
      last = 0;
      most = omega arith;
      room = omega arith;
      inside = λ h. h;
      reads = λ turns. ap (λ (n : ℕ). events_told n bytes from 0 0) (add-zero turns) ∙ also-none (events_told turns bytes from 0 0);
    }

module _ {bytes : List ℕ} {from step place : ℕ} {got : List Numbered} (came : Came bytes from step place got) where
  pub came_later : Came bytes from (step + 1) place got
  came_later = record { last = came.last; most = omega (arith, came.most); room = came.room; inside = came.inside; reads = came.reads }

  pub came_takes : {size : ℕ} → EventSized bytes place step (Some size)
      → Came bytes from (step + 1) (place + size) (got ++ (record { number = step + 1; bytes = between bytes place (place + size) } ∷ []))
  came_takes {size} sized =
      record {
        last = step + 1;
        most = omega arith;
        room = omega (arith, came.room, long);
        inside = λ h. sized.whole.1;
        reads = λ turns.
            (let e : turns + length (got ++ (event ∷ [])) ≡ suc turns + length got = omega (arith, long) in ap (λ (n : ℕ). events_told n bytes from 0 0) e)
            ∙ came.reads (suc turns)
            ∙ ap (also (λ more. got ++ more))
            (sym (turn_takes bytes place came.last (length got) turns (expects sized came.last (length got) came.most) sized))
            ∙ also-behind got event (events_told turns bytes (place + size) (step + 1) (length got + 1))
            ∙ ap (λ (n : ℕ). also (λ more. (got ++ (event ∷ [])) ++ more) (events_told turns bytes (place + size) (step + 1) n)) (sym long);
      }
    where
      event : Numbered
      event = record { number = step + 1; bytes = between bytes place (place + size) }

      long : length (got ++ (event ∷ [])) ≡ length got + 1
      long = length-append got (event ∷ [])

-- ---- a part that is whole

end_payload : payload_of end_tag ≡ 4
unfolding payload_of
end_payload = refl

-- the bytes of an end field
pub record EndSays (bytes : List ℕ) (place step : ℕ) (x : Read) : Type 0 where
  pub tag : byte_at bytes place ≡ end_tag
  pub long : two_at bytes (place + 1) ≡ 4
  pub count : four_at bytes (place + 3) ≡ step
  pub next_is : x.next ≡ place + 7

module _ (bytes : List ℕ) (place step : ℕ) where
  tag : ℕ
  tag = byte_at bytes place

  abbrev reader : Reader
  reader = record { stage = Events; step = step }

  -- an end field
  pub end_says : {x : Read} → read_at bytes place reader ≡ Ok x → x.field ≡ field.End → EndSays bytes place step x
  unfolding taken refusals tag
  end_says read =
      subst (OfRead (λ x. x.field ≡ field.End → EndSays bytes place step x)) read
      (read_holds place reader (OfRead (λ x. x.field ≡ field.End → EndSays bytes place step x)) (λ why. tt)
      bytes
      (λ h. absurd (never (ap is_taken h)))
      (by_tag (eqb tag sizes_tag) refl (eqb tag end_tag) refl))
    where
      by_tag : (x : Bool) → eqb tag sizes_tag ≡ x → (y : Bool) → eqb tag end_tag ≡ y → Unrefused (refusals bytes place reader)
          → (taken bytes place reader).field ≡ field.End → EndSays bytes place step (taken bytes place reader)
      by_tag true is_sizes y is_end passed h =
          let other = rw is_sizes at h in
          absurd (let z : ◌≡◌ {A = ℕ} 0 1 = cc in omega arith)
      by_tag false is_sizes true is_end passed h =
          let is = eqb-true tag end_tag is_end in
          let payload : payload_at bytes place ≡ 4 = other_payload tag (two_at bytes (place + 1)) (eqb-false tag sizes_tag is_sizes) ∙ ap payload_of is ∙ end_payload in
          let test = rw (is_sizes, is_end) at passed.1.1.1.1.0 in
          record {
            tag = is;
            long = eqb-true (two_at bytes (place + 1)) (payload_at bytes place) (not-false _ passed.1.1.0) ∙ payload;
            count = eqb-true (four_at bytes (place + 3)) step (not-false _ test);
            next_is = rw (is_sizes, is_end) (omega (arith, payload));
          }
      by_tag false is_sizes false is_end passed h =
          let other = rw (is_sizes, is_end) at h in
          absurd (let z : ◌≡◌ {A = ℕ} 0 1 = cc in omega arith)

-- the next field of a part that is whole: its end, or an event above the previous one
pub data Turned (bytes : List ℕ) (place last events turns : ℕ) : List Numbered → Type 0 where
  at_end : ends_with bytes place events ≡ true → Turned bytes place last events turns []
  an_event : (step next : ℕ) (more : List Numbered) → last ≤ step → Says bytes place step → next ≡ place + (3 + payload_of (byte_at bytes place)) → events_told turns bytes next (step + 1) (events + 1) ≡ Ok more
      → Turned bytes place last events turns (record { number = step + 1; bytes = between bytes place next } ∷ more)

pub told_turn : (bytes : List ℕ) (place last events turns : ℕ) {rest : List Numbered} → events_told (suc turns) bytes place last events ≡ Ok rest
    → Turned bytes place last events turns rest
unfolding ends_with end_seen
told_turn bytes place last events turns {rest} told = by_read (read_at bytes place reader) refl (turn_is bytes place events turns last refl ∙ told)
  where
    step : ℕ
    step = expected bytes place last events

    reader : Reader
    reader = record { stage = Events; step = step }

    event : {x : Read} (n : ℕ) (e : Event) → read_at bytes place reader ≡ Ok x → x.field ≡ field.Event n e → tells bytes place events turns (read_at bytes place reader) ≡ Ok rest
        → Turned bytes place last events turns rest
    event n e read is h =
        let says = event_says bytes place step _ n e read is in
        let next : ℕ = place + (3 + payload_of (byte_at bytes place)) in
        let more = also_whole _ (events_told turns bytes next (step + 1) (events + 1)) (sym (ap (tells bytes place events turns) (event_there bytes place step refl says)) ∙ h) in
        subst (Turned bytes place last events turns) more.2 (an_event step next more.0 (expects_above bytes place last events says.no_end) says refl more.1)

    end : {x : Read} (b : Bool) → ltb x.next (length bytes) ≡ b → read_at bytes place reader ≡ Ok x → x.field ≡ field.End → cond b (refused_at ExtraByte x.next) (Ok []) ≡ Ok rest
        → Turned bytes place last events turns rest
    end true test read is h = absurd (let z : ◌≡◌ {A = ℕ} 0 1 = cc in omega arith)
    end {x} false test read is h =
        let none : [] ≡ rest = cc in
        let count : events ≡ step = expects_end bytes place last events (end_says bytes place step read is).tag in
        subst (Turned bytes place last events turns) none
        (at_end
        (ap (λ (s : ℕ). is_ok (ends bytes place (read_at bytes place (record { stage = Events; step = s })))) count
        ∙ ap (λ (y : Result Read RefusedAt). is_ok (ends bytes place y)) read
        ∙ ap (λ (f : Field). is_ok (field_ends bytes place f x.next)) is
        ∙ ap (λ (b : Bool). is_ok (cond b (refused_at ExtraByte x.next) (Ok tt))) test))

    by_field : {x : Read} (f : Field) → read_at bytes place reader ≡ Ok x → x.field ≡ f → tells bytes place events turns (read_at bytes place reader) ≡ Ok rest
        → field_tells bytes place events turns f x.next ≡ Ok rest → Turned bytes place last events turns rest
    by_field (field.Event n e) read is h k = event n e read is h
    by_field {x} field.End read is h k = end (ltb x.next (length bytes)) refl read is k
    by_field (field.Sizes s) read is h k = absurd (let z : ◌≡◌ {A = ℕ} 0 1 = cc in omega arith)
    by_field field.Nothing read is h k = absurd (let z : ◌≡◌ {A = ℕ} 0 1 = cc in omega arith)

    by_read : (x : Result Read RefusedAt) → read_at bytes place reader ≡ x → tells bytes place events turns (read_at bytes place reader) ≡ Ok rest → Turned bytes place last events turns rest
    by_read (Err r) read h = let other = sym (ap (tells bytes place events turns) read) ∙ h in absurd (let z : ◌≡◌ {A = ℕ} 0 1 = cc in omega arith)
    by_read (Ok x) read h = by_field x.field read refl h (sym (ap (tells bytes place events turns) read) ∙ h)

pub told_ends : (bytes : List ℕ) (place last events turns : ℕ) → ends_with bytes place events ≡ true → events_told (suc turns) bytes place last events ≡ Ok []
unfolding ends_with end_seen
told_ends bytes place last events turns h = by_read (read_at bytes place reader) refl h
  where
    reader : Reader
    reader = record { stage = Events; step = events }

    by_more : (next : ℕ) (b : Bool) → ltb next (length bytes) ≡ b → is_ok (cond b (refused_at {A = Unit {0}} ExtraByte next) (Ok tt)) ≡ true
        → field_tells bytes place events turns field.End next ≡ Ok []
    by_more next true test k = absurd (never k)
    by_more next false test k = ap (λ (b : Bool). cond b (refused_at {A = List Numbered} ExtraByte next) (Ok [])) test

    by_field : {x : Read} (f : Field) → read_at bytes place reader ≡ Ok x → x.field ≡ f → is_ok (field_ends bytes place f x.next) ≡ true
        → events_told (suc turns) bytes place last events ≡ Ok []
    by_field (field.Event n e) read is k = absurd (never k)
    by_field {x} field.End read is k =
        sym (turn_is bytes place events turns last (expects_end bytes place last events (end_says bytes place events read is).tag))
        ∙ ap (tells bytes place events turns) read
        ∙ ap (λ (f : Field). field_tells bytes place events turns f x.next) is
        ∙ by_more x.next (ltb x.next (length bytes)) refl k
    by_field (field.Sizes s) read is k = absurd (never k)
    by_field field.Nothing read is k = absurd (never k)

    by_read : (x : Result Read RefusedAt) → read_at bytes place reader ≡ x → is_ok (ends bytes place x) ≡ true → events_told (suc turns) bytes place last events ≡ Ok []
    by_read (Err r) read k = absurd (never k)
    by_read (Ok x) read k = by_field x.field read refl k

pub rising : (turns : ℕ) (bytes : List ℕ) (place last events : ℕ) {rest : List Numbered} → events_told turns bytes place last events ≡ Ok rest
    → (x : ℕ) → 1 ≤ times x rest → last < x
unfolding events_told times
rising zero bytes place last events told x h = absurd (let z : ◌≡◌ {A = ℕ} 0 1 = cc in omega arith)
rising (suc turns) bytes place last events told x h =
    by_turn (told_turn bytes place last events turns told) h (λ step next more rest k. rising turns bytes next (step + 1) (events + 1) rest x k)
  where
    by_turn : {rest : List Numbered} → Turned bytes place last events turns rest → 1 ≤ times x rest
        → ((step next : ℕ) (more : List Numbered) → events_told turns bytes next (step + 1) (events + 1) ≡ Ok more → 1 ≤ times x more → step + 1 < x)
        → last < x
    by_turn (at_end e) k rest = absurd (omega arith)
    by_turn (an_event step next more above says behind told) k rest =
        ⊎_elim
        (λ same. let is = same.0 in omega arith)
        (λ other. omega (arith, rest step next more told (omega (arith, ap bit other.1))))
        (eqb_cases (step + 1) x)
