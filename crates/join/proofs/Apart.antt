-- A whole trace, taken apart: its sizes field, its events, and its end field.
--     end_bytes         the bytes of an end field
--     events_apart      the events from a place on, and the end
--     trace_apart       a whole trace
-- Assumes nothing.
use Prim.Native.Nat.{ℕ, zero, suc, ◌+◌, ◌-◌, ◌≤◌, ◌<◌}
use mathlib.Core.Path.{◌≡◌, refl, sym, ap, ◌∙◌, subst}
use mathlib.Core.Bool.{Bool, true, false, cond}
use mathlib.Core.List.{List, [], ◌++◌, append_assoc}
use native.Mathlib.Omega.{arith}
use native.Mathlib.Numerals.{add-one}
use borrow.Author.Tests.{ltb-false}
use lib.Dec.{ltb}
use lib.ListN.{length, get_or, take, drop, take-append-drop, length-drop}
use lib.Seq.{ext_get_or, get_or-drop, drop-drop}
use Rattle.std.specs.Prelude.{Result, Ok, Err}
use Rattle.rules.specs.declared.Sizes.{Sizes}
use Rattle.rules.specs.declared.Refusal.TheVariants.{ExtraByte}
use Rattle.fields.specs.declared.Stage.TheVariants.{First, Events, Ended}
use Rattle.fields.specs.declared.Read.{Read}
use Rattle.fields.specs.declared.RefusedAt.{RefusedAt}
use Rattle.fields.specs.Field.{byte_at, payload_of, behind_end, placed, read_at}
use Rattle.fields.proofs.Event.{event_says, event_there}
use Rattle.fields.proofs.Comes.{reader_at, event_read, nothing_read, Comes, a_refusal, the_sizes, an_event, the_end, read_comes}
use Rattle.join.specs.declared.Opening.{Opening}
use Rattle.join.specs.Part.{Numbered, Told, between, at_first}
use Rattle.join.specs.Joined.{end_field}
use Rattle.join.specs.Promise.{read_told, trace_told, event_bytes, sizes_field, trace_of}
use Rattle.join.proofs.Reading.{reads_opening}
use Rattle.join.proofs.Told.{also_whole, EndSays, end_says}
use Rattle.join.proofs.Formed.{Formed, formed_here, Opens, opens_here}
use Rattle.join.proofs.Trace.{Run, takes, bytes_next, bytes_none}

-- ---- an end field

module _ (bytes : List ℕ) (place step : ℕ) where
  -- its seven bytes, where each is a byte
  end_bytes : ((i : ℕ) → byte_at bytes i < 256) → {x : Read} → EndSays bytes place step x → length bytes ≡ place + 7 → drop place bytes ≡ end_field step
  unfolding end_field
  end_bytes small says all =
      ext_get_or 0 (drop place bytes) (end_field step) (length-drop place bytes ∙ (let e : length bytes - place ≡ 7 = omega arith in e))
      (λ i h. get_or-drop place bytes i 0 ∙ each i (let k : i < 7 = omega (arith, length-drop place bytes) in k))
    where
      a3 : byte_at bytes (place + 3) < 256
      a3 = small (place + 3)

      a4 : byte_at bytes (place + 3 + 1) < 256
      a4 = small (place + 3 + 1)

      a5 : byte_at bytes (place + 3 + 2) < 256
      a5 = small (place + 3 + 2)

      a6 : byte_at bytes (place + 3 + 2 + 1) < 256
      a6 = small (place + 3 + 2 + 1)

      at : (i j : ℕ) → i ≡ j → byte_at bytes i ≡ byte_at bytes j
      at i j e = ap (byte_at bytes) e

      each : (i : ℕ) → i < 7 → get_or bytes (place + i) 0 ≡ get_or (end_field step) i 0
      each zero h = at (place + 0) place (omega arith) ∙ says.tag
      each (suc zero) h = at (place + 1) (place + 1) refl ∙ (let two = says.long in omega arith)
      each (suc (suc zero)) h = at (place + 2) (place + 1 + 1) (omega arith) ∙ (let two = says.long in omega arith)
      each (suc (suc (suc zero))) h = let four = says.count in omega (arith, a3, a4, a5, a6)
      each (suc (suc (suc (suc zero)))) h = at (place + 4) (place + 3 + 1) (omega arith) ∙ (let four = says.count in omega (arith, a3, a4, a5, a6))
      each (suc (suc (suc (suc (suc zero))))) h = at (place + 5) (place + 3 + 2) (omega arith) ∙ (let four = says.count in omega (arith, a3, a4, a5, a6))
      each (suc (suc (suc (suc (suc (suc zero)))))) h = at (place + 6) (place + 3 + 2 + 1) (omega arith) ∙ (let four = says.count in omega (arith, a3, a4, a5, a6))
      each (suc (suc (suc (suc (suc (suc (suc i))))))) h = absurd (omega arith)

-- ---- a whole trace

-- the place behind what is read
abbrev next_read : Result Read RefusedAt → ℕ
next_read (Err r) = 0
next_read (Ok x) = x.next

module _ (all : List ℕ) (small : (i : ℕ) → byte_at all i < 256) where
  -- what is left from a place on is a field and what is left behind it
  drop_field : (place next : ℕ) → place ≤ next → drop place all ≡ between all place next ++ drop next all
  drop_field place next h =
      sym (take-append-drop (next - place) (drop place all))
      ∙ ap (λ (l : List ℕ). take (next - place) (drop place all) ++ l)
      (drop-drop (next - place) place all ∙ ap (λ (n : ℕ). drop n all) (let e : place + (next - place) ≡ next = omega arith in e))

  -- the events from a place on, and the end field
  Apart : ℕ → ℕ → List Numbered → Type 0
  Apart place step events = Run step events × (drop place all ≡ event_bytes events ++ end_field (step + length events))

  -- behind the end field nothing is left
  nothing-behind : (turns place step : ℕ) {events : List Numbered} → read_told turns all place (reader_at Ended step) ≡ Ok events → (events ≡ []) × (length all ≤ place)
  unfolding read_told read_at behind_end
  nothing-behind zero place step told = absurd (let z : ◌≡◌ {A = ℕ} 0 1 = cc in omega arith)
  nothing-behind (suc turns) place step {events} told = by_more (ltb place (length all)) refl
    where
      by_more : (b : Bool) → ltb place (length all) ≡ b → (events ≡ []) × (length all ≤ place)
      by_more true test =
          let read = ap (λ (b : Bool). placed place (cond b (Err ExtraByte) (Ok (nothing_read place (reader_at Ended step))))) (sym test) in
          let other = ap (takes all turns place) read ∙ told in
          absurd (let z : ◌≡◌ {A = ℕ} 0 1 = cc in omega arith)
      by_more false test =
          let read = ap (λ (b : Bool). placed place (cond b (Err ExtraByte) (Ok (nothing_read place (reader_at Ended step))))) (sym test) in
          let none = ap (takes all turns place) read ∙ told in
          ((let e : events ≡ [] = cc in e), ltb-false place (length all) test)

  events_apart : (turns place step : ℕ) {events : List Numbered} → read_told turns all place (reader_at Events step) ≡ Ok events → Apart place step events
  unfolding read_told Apart
  events_apart zero place step told = absurd (let z : ◌≡◌ {A = ℕ} 0 1 = cc in omega arith)
  events_apart (suc turns) place step {events} told =
      by_read (read_at all place (reader_at Events step)) refl (read_comes all place step Events) told (λ next n more rest. events_apart turns next n rest)
    where
      by_read : (x : Result Read RefusedAt) → read_at all place (reader_at Events step) ≡ x → Comes all place step Events x → takes all turns place x ≡ Ok events
          → ((next n : ℕ) (more : List Numbered) → read_told turns all next (reader_at Events n) ≡ Ok more → Apart next n more) → Apart place step events
      by_read x read (a_refusal why) h rest = absurd (let z : ◌≡◌ {A = ℕ} 0 1 = cc in omega arith)
      by_read x read (an_event e next lies) h rest =
          let more = also_whole _ (read_told turns all next (reader_at Events (suc step))) h in
          let apart = rest next (suc step) more.0 more.1 in
          let says = event_says all place step (event_read (suc step) e next) (suc step) e read refl in
          let behind : next ≡ place + (3 + payload_of (byte_at all place)) = ap next_read (sym read ∙ event_there all place step refl says) in
          let event : Numbered = record { number = suc step; bytes = between all place next } in
          let formed : Formed event =
          subst (λ (n : ℕ). Formed (record { number = n; bytes = between all place next })) (add-one step) (formed_here all place step says behind) in
          subst (Apart place step) more.2 (
            (formed, sym (add-one step), subst (λ (n : ℕ). Run n more.0) (sym (add-one step)) apart.0),
            drop_field place next (omega (arith, lies.least))
                ∙ ap (λ (l : List ℕ). between all place next ++ l) apart.1
                ∙ sym (append_assoc (between all place next) (event_bytes more.0) (end_field (suc step + length more.0)))
                ∙ (let bytes = sym (bytes_next event more.0) in
                let count : suc step + length more.0 ≡ step + suc (length more.0) = omega arith in
                λ j. bytes j ++ end_field (count j)),
          )
      by_read x read (the_end next lies) h rest =
          let none = nothing-behind turns next step h in
          let says = end_says all place step read refl in
          let behind : next ≡ place + 7 = says.next_is in
          subst (Apart place step) (sym none.0) (
            tt,
            end_bytes all place step small says (omega (arith, none.1, lies.inside))
                ∙ (let bytes = sym bytes_none in
                let count : step ≡ step + 0 = omega arith in
                λ j. bytes j ++ end_field (count j)),
          )

  pub record TraceApart (events : List Numbered) : Type 0 where
    pub sizes : Sizes
    pub opens : Opens (sizes_field all) sizes
    pub run : Run 0 events
    pub bytes : all ≡ trace_of (sizes_field all) events

  pub trace_apart : {events : List Numbered} → trace_told all ≡ Ok events → TraceApart events
  unfolding trace_told read_told trace_of Apart
  trace_apart {events} told = by_read (read_at all 0 at_first) refl (read_comes all 0 0 First) told
    where
      by_read : (x : Result Read RefusedAt) → read_at all 0 at_first ≡ x → Comes all 0 0 First x → takes all (length all) 0 x ≡ Ok events → TraceApart events
      by_read x read (a_refusal why) h = absurd (let z : ◌≡◌ {A = ℕ} 0 1 = cc in omega arith)
      by_read x read (the_sizes s next range lies) h =
          let apart = events_apart (length all) next 0 h in
          let open_is = reads_opening all 0 read in
          let field : sizes_field all ≡ between all 0 next = ap (λ (o : Told Opening). elim o [ Err r ↦ [] | Ok x ↦ between all 0 x.next ]) open_is in
          record {
            sizes = s;
            opens = subst (λ (l : List ℕ). Opens l s) (sym field) (opens_here all 0 open_is);
            run = apart.0;
            bytes =
                drop_field 0 next (omega arith)
                ∙ (let first = sym field in
                let rest = apart.1 ∙ ap (λ (n : ℕ). event_bytes events ++ end_field n) (let e : 0 + length events ≡ length events = omega arith in e) in
                λ j. first j ++ rest j);
          }
