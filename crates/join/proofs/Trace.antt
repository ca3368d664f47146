-- A trace that is put together of fields is read by document 01's reader, and a part by the part's.
--     Run, Rises              events whose numbers follow one another, or rise
--     between_in              a field among other bytes
--     end_there               an end field among other bytes
--     events_read, nothing_there, trace_read     document 01's reader
--     events_told_lem, part_told_lem      the part's reader
-- Assumes nothing.
use Prim.Native.Nat.{ℕ, suc, ◌+◌, ◌-◌, ◌≤◌, ◌<◌}
use mathlib.Core.Path.{◌≡◌, refl, sym, ap, ◌∙◌, subst}
use mathlib.Core.Bool.{Bool, false, cond, not}
use mathlib.Core.List.{List, [], ◌∷◌, ◌++◌, flatten, append_assoc, append-nil}
use native.Mathlib.Omega.{arith}
use borrow.Author.Tests.{le-ltb, eq-eqb}
use lib.Dec.{eqb}
use lib.ListN.{length, take, length-append}
use lib.Seq.{take-append_seam, drop-append_seam}
use Rattle.std.specs.Prelude.{Result, Ok, Err}
use Rattle.rules.specs.declared.Sizes.{Sizes}
use Rattle.rules.specs.declared.Refusal.TheVariants.{ExtraByte}
use Rattle.fields.specs.declared.Stage.TheVariants.{Events, Ended}
use Rattle.fields.specs.declared.Field.TheVariants as field
use Rattle.fields.specs.declared.Reader.{Reader}
use Rattle.fields.specs.declared.Read.{Read}
use Rattle.fields.specs.declared.RefusedAt.{RefusedAt}
use Rattle.fields.specs.Field.{byte_at, two_at, four_at, sizes_tag, end_tag, payload_of, payload_at, behind_end, refused_at, placed, read_at}
use Rattle.fields.proofs.Order.{Headed, payload_whole, read_stage}
use Rattle.fields.proofs.Payload.{end_read_lem}
use Rattle.fields.proofs.Tags.{tag_least, other_payload}
use Rattle.fields.proofs.Event.{Says, event_there}
use Rattle.fields.proofs.Comes.{end_read, nothing_read}
use Rattle.join.specs.Part.{Numbered, Told, also, between, at_first, number_at, expected, events_told, part_told}
use Rattle.join.specs.Joined.{end_field}
use Rattle.join.specs.Promise.{read_told, trace_told, event_bytes, trace_of}
use Rattle.join.proofs.Reading.{expects_end, expects_next, number_there, turn_is, tells, reads_opening}
use Rattle.join.proofs.Told.{also-none}
use Rattle.join.proofs.Whole.{whole_part_lem}
use Rattle.join.proofs.Formed.{Alike, alike_in, Formed, formed_there, Opens, opens_there}

-- ---- fields among other bytes

pub between_in : (before field behind : List ℕ) → between (before ++ (field ++ behind)) (length before) (length before + length field) ≡ field
between_in before field behind =
    ap (λ (l : List ℕ). take (length before + length field - length before) l) (drop-append_seam before (field ++ behind))
    ∙ ap (λ (n : ℕ). take n (field ++ behind)) (let e : length before + length field - length before ≡ length field = omega arith in e)
    ∙ take-append_seam field behind

module _ (before behind : List ℕ) (n : ℕ) where
  abbrev bytes : List ℕ
  bytes = before ++ (end_field n ++ behind)

  abbrev place : ℕ
  place = length before

  pub end_tag_there : byte_at bytes place ≡ end_tag
  unfolding end_field
  end_tag_there = (alike_in before (end_field n) behind).byte 0 place 0 (omega arith) (omega arith) (omega arith)

  pub end_there : read_at bytes place (record { stage = Events; step = n }) ≡ Ok (end_read n (place + 7))
  unfolding end_field payload_of
  end_there =
      sym
      (ap (λ (m : ℕ). Ok (end_read n m)) (let e : place + 7 ≡ place + 3 + 4 = omega arith in e)
      ∙ ap (placed place) (end_read_lem bytes place (record { stage = Events; step = n }) false long (λ e. omega (arith, end_tag_there, e)) (sym number) end_tag_there (ap not (eq-eqb n n refl))
      ∙ payload_whole head (omega (arith, alike.inside)))
      ∙ read_stage bytes place (record { stage = Events; step = n }) Events refl)
    where
      alike : Alike (end_field n) 0 bytes place 7
      alike = alike_in before (end_field n) behind

      at : (i k : ℕ) → i ≡ place + k → k < 7 → byte_at bytes i ≡ byte_at (end_field n) k
      at i k e h = alike.byte k i k (omega arith) e h

      long : 4 ≡ payload_at bytes place
      long = ap payload_of (sym end_tag_there) ∙ sym (other_payload (byte_at bytes place) (two_at bytes (place + 1)) (λ e. omega (arith, end_tag_there)))

      number : four_at bytes (place + 3) ≡ n
      number =
          omega (
            arith,
            at (place + 3) 3 refl (omega arith),
            at (place + 3 + 1) 4 (omega arith) (omega arith),
            at (place + 3 + 2) 5 (omega arith) (omega arith),
            at (place + 3 + 2 + 1) 6 (omega arith) (omega arith),
          )

      head : Headed bytes place (record { stage = Events; step = n }) 4
      head =
          record {
            begins = omega (arith, alike.inside);
            says = long;
            known = λ none. omega (arith, ap payload_of end_tag_there);
            placed = ap (λ (t : ℕ). eqb t sizes_tag) end_tag_there;
            long = omega (arith, at (place + 1) 1 refl (omega arith), at (place + 1 + 1) 2 (omega arith) (omega arith));
          }

-- ---- document 01's reader

-- events whose numbers follow a step, one after another
abbrev pub Run : ℕ → List Numbered → Type 0
Run step [] = Unit {0}
Run step (e ∷ events) = Formed e × (e.number ≡ step + 1) × Run (step + 1) events

abbrev behind_step : ℕ → Reader
behind_step step = record { stage = Events; step = step }

pub bytes_next : (e : Numbered) (events : List Numbered) → event_bytes (e ∷ events) ≡ e.bytes ++ event_bytes events
unfolding event_bytes flatten
bytes_next e events = refl

pub bytes_none : event_bytes [] ≡ []
unfolding event_bytes flatten
bytes_none = refl

-- the event at a place, read by either reader
module _ (e : Numbered) (events : List Numbered) (before behind all : List ℕ) (is : all ≡ before ++ (event_bytes (e ∷ events) ++ behind)) (formed : Formed e) where
  pub split_here : all ≡ before ++ (e.bytes ++ (event_bytes events ++ behind))
  split_here = is ∙ ap (λ (l : List ℕ). before ++ (l ++ behind)) (bytes_next e events) ∙ ap (λ (l : List ℕ). before ++ l) (append_assoc e.bytes (event_bytes events) behind)

  pub split_on : all ≡ (before ++ e.bytes) ++ (event_bytes events ++ behind)
  split_on = split_here ∙ sym (append_assoc before e.bytes (event_bytes events ++ behind))

  pub says_here : Says all (length before) formed.step
  says_here = subst (λ (l : List ℕ). Says l (length before) formed.step) (sym split_here) (formed_there before (event_bytes events ++ behind) formed).0

  pub next_here : length before + length e.bytes ≡ length before + (3 + payload_of (byte_at all (length before)))
  next_here =
      (formed_there before (event_bytes events ++ behind) formed).1
      ∙ ap (λ (l : List ℕ). length before + (3 + payload_of (byte_at l (length before)))) (sym split_here)

  pub event_is : ◌≡◌ {A = Numbered} (record { number = formed.step + 1; bytes = between all (length before) (length before + (3 + payload_of (byte_at all (length before)))) }) e
  event_is =
      let number = sym formed.number_is in
      let bytes =
      ap (between all (length before)) (sym next_here)
      ∙ ap (λ (l : List ℕ). between l (length before) (length before + length e.bytes)) split_here
      ∙ between_in before e.bytes (event_bytes events ++ behind) in
      λ j. record { number = number j; bytes = bytes j }

also_append : (e : Numbered) (events : List Numbered) (told : Told (List Numbered))
    → also (λ more. e ∷ more) (also (λ more. events ++ more) told) ≡ also (λ more. (e ∷ events) ++ more) told
also_append e events (Err r) = refl
also_append e events (Ok more) = refl

-- a turn of document 01's reader
abbrev pub takes : List ℕ → ℕ → ℕ → Result Read RefusedAt → Told (List Numbered)
takes all turns place x =
    elim x [
      | Err r ↦ Err r
      | Ok x ↦ elim x.field [
        | field.Sizes s ↦ read_told turns all x.next x.reader
        | field.Event number e ↦ also (λ more. record { number = number; bytes = between all place x.next } ∷ more) (read_told turns all x.next x.reader)
        | field.End ↦ read_told turns all x.next x.reader
        | field.Nothing ↦ Ok []
      ]
    ]

pub read_turn : (all : List ℕ) (turns from : ℕ) (reader : Reader) → read_told (suc turns) all from reader ≡ takes all turns from (read_at all from reader)
unfolding read_told
read_turn all turns from reader = refl

event_read_lem : (behind all : List ℕ) (e : Numbered) (events : List Numbered) (step : ℕ) (before : List ℕ) (turns : ℕ) → all ≡ before ++ (event_bytes (e ∷ events) ++ behind)
    → Formed e → e.number ≡ step + 1
    → read_told (suc turns) all (length before) (behind_step step)
    ≡ also (λ more. e ∷ more) (read_told turns all (length before + length e.bytes) (behind_step (step + 1)))
event_read_lem behind all e events step before turns is formed number =
    let same : step ≡ formed.step = omega (arith, formed.number_is) in
    let on : formed.step + 1 ≡ step + 1 = omega arith in
    let event = event_is e events before behind all is formed in
    let next = sym (next_here e events before behind all is formed) in
    ap (λ (s : ℕ). read_told (suc turns) all (length before) (behind_step s)) same
    ∙ read_turn all turns (length before) (behind_step formed.step)
    ∙ ap (takes all turns (length before)) (event_there all (length before) formed.step refl (says_here e events before behind all is formed))
    ∙ (λ j. also (λ more. event j ∷ more) (read_told turns all (next j) (behind_step (on j))))

module _ (behind all : List ℕ) where
  pub events_read : (events : List Numbered) (step : ℕ) (before : List ℕ) (turns : ℕ) → all ≡ before ++ (event_bytes events ++ behind) → Run step events
      → read_told (turns + length events) all (length before) (behind_step step)
      ≡ also (λ more. events ++ more) (read_told turns all (length before + length (event_bytes events)) (behind_step (step + length events)))
  events_read [] step before turns is run =
      (let a : turns + 0 ≡ turns = omega arith in
      let b : length before ≡ length before + length (event_bytes []) = omega (arith, ap length bytes_none) in
      let c : step ≡ step + 0 = omega arith in
      λ j. read_told (a j) all (b j) (behind_step (c j)))
      ∙ also-none (read_told turns all (length before + length (event_bytes [])) (behind_step (step + 0)))
  events_read (e ∷ events) step before turns is run =
      let n : ℕ = length events in
      (let a : turns + suc n ≡ suc (turns + n) = omega arith in ap (λ (m : ℕ). read_told m all (length before) (behind_step step)) a)
      ∙ event_read_lem behind all e events step before (turns + n) is run.0 run.1
      ∙ ap (also (λ more. e ∷ more))
      ((let a : length before + length e.bytes ≡ length (before ++ e.bytes) = omega (arith, length-append before e.bytes) in
      ap (λ (m : ℕ). read_told (turns + n) all m (behind_step (step + 1))) a)
      ∙ events_read events (step + 1) (before ++ e.bytes) turns (split_on e events before behind all is run.0) run.2)
      ∙ also_append e events (read_told turns all (length (before ++ e.bytes) + length (event_bytes events)) (behind_step (step + 1 + n)))
      ∙ (let a : length (before ++ e.bytes) + length (event_bytes events) ≡ length before + length (event_bytes (e ∷ events)) =
      omega (arith, length-append before e.bytes, ap length (bytes_next e events), length-append e.bytes (event_bytes events)) in
      let b : step + 1 + n ≡ step + suc n = omega arith in
      λ j. also (λ more. (e ∷ events) ++ more) (read_told turns all (a j) (behind_step (b j))))

-- behind the end field nothing is left, and the trace is whole
pub nothing_there : (all : List ℕ) (place n : ℕ) → length all ≤ place → read_at all place (record { stage = Ended; step = n }) ≡ Ok (nothing_read place (record { stage = Ended; step = n }))
unfolding read_at behind_end
nothing_there all place n none = rw (le-ltb place (length all) none)

end_read_whole : (before : List ℕ) (n turns : ℕ) → read_told (suc (suc turns)) (before ++ end_field n) (length before) (behind_step n) ≡ Ok []
unfolding end_field
end_read_whole before n turns =
    let all : List ℕ = before ++ end_field n in
    let tail : all ≡ before ++ (end_field n ++ []) = ap (λ (l : List ℕ). before ++ l) (sym (append-nil (end_field n))) in
    let ended : Reader = record { stage = Ended; step = n } in
    read_turn all (suc turns) (length before) (behind_step n)
    ∙ ap (takes all (suc turns) (length before)) (ap (λ (l : List ℕ). read_at l (length before) (behind_step n)) tail ∙ end_there before [] n)
    ∙ read_turn all turns (length before + 7) ended
    ∙ ap (takes all turns (length before + 7)) (nothing_there all (length before + 7) n (omega (arith, length-append before (end_field n))))

length_end : (n : ℕ) → length (end_field n) ≡ 7
unfolding end_field
length_end n = refl

length_events : (step : ℕ) (events : List Numbered) → Run step events → length events ≤ length (event_bytes events)
length_events step [] run = omega arith
length_events step (e ∷ events) run =
    omega (
      arith,
      ap length (bytes_next e events),
      length-append e.bytes (event_bytes events),
      run.0.long,
      length_events (step + 1) events run.2,
    )

-- a trace of a sizes field and of events whose numbers are 1, 2, ..: document 01's reader takes it, with these events
pub trace_read : {sizes : List ℕ} {s : Sizes} → Opens sizes s → (events : List Numbered) → Run 0 events → trace_told (trace_of sizes events) ≡ Ok events
unfolding trace_told trace_of
trace_read {sizes} {s} opens events run =
    let n : ℕ = length events in
    let fields : List ℕ = event_bytes events in
    let all : List ℕ = trace_of sizes events in
    let turns : ℕ = length all - n - 2 in
    let long : length all ≡ length sizes + (length fields + 7) =
    omega (arith, length-append sizes (fields ++ end_field n), length-append fields (end_field n), length_end n) in
    let enough : length all ≡ suc (suc turns) + n = omega (arith, opens.long, length_events 0 events run) in
    let place : length (sizes ++ fields) ≡ length sizes + length fields = length-append sizes fields in
    read_turn all (length all) 0 at_first
    ∙ ap (takes all (length all) 0) (opens_there [] (fields ++ end_field n) opens)
    ∙ (let a : 0 + length sizes ≡ length sizes = omega arith in λ j. read_told (enough j) all (a j) (behind_step 0))
    ∙ events_read (end_field n) all events 0 sizes (suc (suc turns)) refl run
    ∙ ap (also (λ more. events ++ more))
    ((let a = sym place in
    let b : 0 + n ≡ n = omega arith in
    let c = sym (append_assoc sizes fields (end_field n)) in
    λ j. read_told (suc (suc turns)) (c j) (a j) (behind_step (b j)))
    ∙ end_read_whole (sizes ++ fields) n turns)
    ∙ ap Ok (append-nil events)

-- ---- the part's reader

-- events whose numbers rise behind a number
abbrev pub Rises : ℕ → List Numbered → Type 0
Rises last [] = Unit {0}
Rises last (e ∷ events) = Formed e × (last < e.number) × Rises e.number events

abbrev pub last_of : ℕ → List Numbered → ℕ
last_of last [] = last
last_of last (e ∷ events) = last_of e.number events

event_told : (behind all : List ℕ) (e : Numbered) (events : List Numbered) (last count : ℕ) (before : List ℕ) (turns : ℕ)
    → all ≡ before ++ (event_bytes (e ∷ events) ++ behind) → Formed e → last < e.number
    → events_told (suc turns) all (length before) last count
    ≡ also (λ more. e ∷ more) (events_told turns all (length before + length e.bytes) e.number (count + 1))
event_told behind all e events last count before turns is formed above =
    let says = says_here e events before behind all is formed in
    let long = tag_least (byte_at all (length before)) says.known in
    let number : formed.step + 1 ≡ number_at all (length before) = sym says.next ∙ number_there all (length before) (omega (arith, says.whole)) in
    let expects : formed.step ≡ expected all (length before) last count =
    (let one : formed.step ≡ formed.step + 1 - 1 = omega arith in one)
    ∙ expects_next all (length before) last count says.no_end number (omega (arith, formed.number_is)) in
    let event = event_is e events before behind all is formed in
    let next = sym (next_here e events before behind all is formed) in
    let on = sym formed.number_is in
    sym (turn_is all (length before) count turns last expects)
    ∙ ap (tells all (length before) count turns) (event_there all (length before) formed.step refl says)
    ∙ (λ j. also (λ more. event j ∷ more) (events_told turns all (next j) (on j) (count + 1)))

module _ (behind all : List ℕ) where
  pub events_told_lem : (events : List Numbered) (last count : ℕ) (before : List ℕ) (turns : ℕ) → all ≡ before ++ (event_bytes events ++ behind) → Rises last events
      → events_told (turns + length events) all (length before) last count
      ≡ also (λ more. events ++ more) (events_told turns all (length before + length (event_bytes events)) (last_of last events) (count + length events))
  events_told_lem [] last count before turns is run =
      (let a : turns + 0 ≡ turns = omega arith in
      let b : length before ≡ length before + length (event_bytes []) = omega (arith, ap length bytes_none) in
      let c : count ≡ count + 0 = omega arith in
      λ j. events_told (a j) all (b j) last (c j))
      ∙ also-none (events_told turns all (length before + length (event_bytes [])) last (count + 0))
  events_told_lem (e ∷ events) last count before turns is run =
      let n : ℕ = length events in
      (let a : turns + suc n ≡ suc (turns + n) = omega arith in ap (λ (m : ℕ). events_told m all (length before) last count) a)
      ∙ event_told behind all e events last count before (turns + n) is run.0 run.1
      ∙ ap (also (λ more. e ∷ more))
      ((let a : length before + length e.bytes ≡ length (before ++ e.bytes) = omega (arith, length-append before e.bytes) in
      ap (λ (m : ℕ). events_told (turns + n) all m e.number (count + 1)) a)
      ∙ events_told_lem events e.number (count + 1) (before ++ e.bytes) turns (split_on e events before behind all is run.0) run.2)
      ∙ also_append e events (events_told turns all (length (before ++ e.bytes) + length (event_bytes events)) (last_of e.number events) (count + 1 + n))
      ∙ (let a : length (before ++ e.bytes) + length (event_bytes events) ≡ length before + length (event_bytes (e ∷ events)) =
      omega (arith, length-append before e.bytes, ap length (bytes_next e events), length-append e.bytes (event_bytes events)) in
      let b : count + 1 + n ≡ count + suc n = omega arith in
      λ j. also (λ more. (e ∷ events) ++ more) (events_told turns all (a j) (last_of e.number events) (b j)))

-- behind the end field of a part no byte is left
end_told_whole : (before : List ℕ) (last n turns : ℕ) → events_told (suc turns) (before ++ end_field n) (length before) last n ≡ Ok []
unfolding end_field
end_told_whole before last n turns =
    let all : List ℕ = before ++ end_field n in
    let tail : all ≡ before ++ (end_field n ++ []) = ap (λ (l : List ℕ). before ++ l) (sym (append-nil (end_field n))) in
    let tag = ap (λ (l : List ℕ). byte_at l (length before)) tail ∙ end_tag_there before [] n in
    sym (turn_is all (length before) n turns last (expects_end all (length before) last n tag))
    ∙ ap (tells all (length before) n turns)
    (ap (λ (l : List ℕ). read_at l (length before) (behind_step n)) tail ∙ end_there before [] n)
    ∙ ap (λ (b : Bool). cond b (refused_at {A = List Numbered} ExtraByte (length before + 7)) (Ok []))
    (le-ltb (length before + 7) (length all) (omega (arith, length-append before (end_field n))))

length_risen : (last : ℕ) (events : List Numbered) → Rises last events → length events ≤ length (event_bytes events)
length_risen last [] run = omega arith
length_risen last (e ∷ events) run =
    omega (
      arith,
      ap length (bytes_next e events),
      length-append e.bytes (event_bytes events),
      run.0.long,
      length_risen e.number events run.2,
    )

-- a part behind other bytes, of a sizes field and of events whose numbers rise
pub part_told_lem : (before : List ℕ) {sizes : List ℕ} {s : Sizes} → Opens sizes s → (events : List Numbered) → Rises 0 events
    → part_told (before ++ trace_of sizes events) (length before) ≡ Ok (record { sizes = s; field = sizes; events = events })
unfolding trace_of
part_told_lem before {sizes} {s} opens events run =
    let n : ℕ = length events in
    let fields : List ℕ = event_bytes events in
    let all : List ℕ = before ++ (sizes ++ (fields ++ end_field n)) in
    let turns : ℕ = length all - n - 1 in
    let opened = opens_there before (fields ++ end_field n) opens in
    let place : length (before ++ sizes) ≡ length before + length sizes = length-append before sizes in
    let long : length all ≡ length before + (length sizes + (length fields + 7)) =
    omega (
      arith,
      length-append before (sizes ++ (fields ++ end_field n)),
      length-append sizes (fields ++ end_field n),
      length-append fields (end_field n),
      length_end n,
    ) in
    let enough : length all ≡ suc turns + n = omega (arith, opens.long, length_risen 0 events run) in
    let told : events_told (length all) all (length before + length sizes) 0 0 ≡ Ok events =
    (let a = sym place in λ j. events_told (enough j) all (a j) 0 0)
    ∙ events_told_lem (end_field n) all events 0 0 (before ++ sizes) (suc turns) (sym (append_assoc before sizes (fields ++ end_field n))) run
    ∙ ap (also (λ more. events ++ more))
    ((let a : length (before ++ sizes) + length fields ≡ length ((before ++ sizes) ++ fields) = sym (length-append (before ++ sizes) fields) in
    let b : 0 + n ≡ n = omega arith in
    let c = sym (append_assoc before sizes (fields ++ end_field n)) ∙ sym (append_assoc (before ++ sizes) fields (end_field n)) in
    λ j. events_told (suc turns) (c j) (a j) (last_of 0 events) (b j))
    ∙ end_told_whole ((before ++ sizes) ++ fields) (last_of 0 events) n turns)
    ∙ ap Ok (append-nil events) in
    whole_part_lem all (length before) (reads_opening all (length before) opened) told
    ∙ ap (λ (l : List ℕ). Ok (record { sizes = s; field = l; events = events })) (between_in before sizes (fields ++ end_field n))
