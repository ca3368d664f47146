-- The promises on joined traces (request 3 of document 02).
--     part_asks             "10 now means not above the part's previous number (0 before the first) and 12 a wrong count of its events"
--     join_one_result       two results of the call that satisfy its contract are equal
--     reader_takes_it       "01's reader takes it": the joined trace is a whole trace, and its events are exactly those of the parts, each once
--     joining_gives_back    a trace whose events are dealt out to one to nine parts, joined again, is that trace
-- Assumes nothing.
use Prim.Native.Nat.{ℕ, ◌+◌, ◌≤◌, ◌<◌}
use mathlib.Core.Path.{◌≡◌, refl, sym, ap, ◌∙◌}
use mathlib.Core.Bool.{Bool, true, false, not}
use mathlib.Core.List.{List, [], ◌∷◌, ◌++◌, flatten, map, Perm}
use native.Mathlib.Omega.{arith}
use borrow.Author.Tests.{ltb-true, ltb-false, eqb-true, eqb-false, eq-eqb, ne_eqb}
use lib.Dec.{eqb, ltb}
use lib.ListN.{length, get_or, take, drop, length-map, get_or-map}
use lib.Seq.{take-append_seam}
use Rattle.std.specs.Prelude.{Result, Ok}
use Rattle.laws.proofs.Lists.{Each-all}
use Rattle.rules.specs.declared.Refusal.TheVariants.{WrongStep}
use Rattle.rules.specs.Sound.{Each}
use Rattle.fields.specs.declared.RefusedAt.{RefusedAt}
use Rattle.join.specs.Part.{Numbered, Part, number_at, expected, parts_told}
use Rattle.join.specs.Joined.{all_events, stand_to, first_field, joined_trace, end_field, JoinedOn, written_on, joined_on}
use Rattle.join.specs.Merge.{start_of, part_of}
use Rattle.fields.specs.declared.Stage.TheVariants.{Events}
use Rattle.fields.specs.Field.{byte_at, two_at, four_at, sizes_tag, end_tag, payload_at, payload_test, WholeAt}
use Rattle.fields.proofs.Tags.{payload_least}
use Rattle.join.specs.Promise.{part_test, trace_told, sizes_field, trace_of, Dealt}
use Rattle.join.proofs.Lengths.{Lent, all_lent}
use Rattle.join.proofs.Numbers.{each_once}
use Rattle.join.proofs.Reading.{number_there, expects_end, expects_next, expects_last}
use Rattle.join.proofs.Merging.{open_at}
use Rattle.join.proofs.Whole.{no_part, parts_each, part_at}
use Rattle.join.proofs.Formed.{Formed, events_formed, Opens, opens_here}
use Rattle.join.proofs.Trace.{trace_read}
use Rattle.join.proofs.Sorted.{sorted, sorted_bytes, sorted_run, sorted_perm}
use Rattle.join.proofs.Apart.{trace_apart}
use Rattle.join.proofs.Dealing.{joined_back, gives_back}
use Rattle.join.proofs.Inverse.{joined_whole, whole_joined}

-- ---- the fields of a part

-- A field of a part whose payload is whole is asked what the request says, and the tests before are document 01's own: a part is read by `read_at` with `expected` as the
-- last step number.
pub part_asks : (bytes : List ℕ) (place last events : ℕ) → WholeAt bytes place
    → payload_test (byte_at bytes place) (payload_at bytes place) bytes (place + 3) (record { stage = Events; step = expected bytes place last events })
    ≡ part_test (byte_at bytes place) (payload_at bytes place) bytes (place + 3) last events
part_asks bytes place last events field = by_tag (eqb tag sizes_tag) refl (eqb tag end_tag) refl
  where
    tag : ℕ
    tag = byte_at bytes place

    payload : ℕ
    payload = payload_at bytes place

    number : ℕ
    number = four_at bytes (place + 3)

    is_number : number ≡ number_at bytes place
    is_number = number_there bytes place (omega (arith, field.whole, payload_least tag (two_at bytes (place + 1)) field.tag))

    -- the number is the one expected plus one exactly if it is above the previous one
    by_number : (eqb tag end_tag ≡ false) → (b : Bool) → ltb last number ≡ b → not (eqb number (expected bytes place last events + 1)) ≡ not b
    by_number other true above =
        let low = ltb-true last number above in
        let is = expects_next bytes place last events (eqb-false tag end_tag other) is_number low in
        ap not (eq-eqb number (expected bytes place last events + 1) (omega arith))
    by_number other false above =
        let high = ltb-false last number above in
        let is = expects_last bytes place last events (eqb-false tag end_tag other) is_number high in
        ap not (ne_eqb number (expected bytes place last events + 1) (λ e. omega arith))

    by_tag : (x : Bool) → eqb tag sizes_tag ≡ x → (y : Bool) → eqb tag end_tag ≡ y
        → payload_test tag payload bytes (place + 3) (record { stage = Events; step = expected bytes place last events }) ≡ part_test tag payload bytes (place + 3) last events
    by_tag true is_sizes y is_end = rw is_sizes
    by_tag false is_sizes true is_end =
        let count = sym (expects_end bytes place last events (eqb-true tag end_tag is_end)) in
        rw (is_sizes, is_end, count)
    by_tag false is_sizes false is_end =
        let test = by_number is_end (ltb last number) refl in
        rw (is_sizes, is_end) (λ j. record { when = test j; why = WrongStep })

-- ---- one result

pub join_one_result : (parts lengths out : List ℕ) (x y : Result ℕ RefusedAt) (first second : List ℕ)
    → joined_on parts lengths out ≡ record { joined = x; out = first } → joined_on parts lengths out ≡ record { joined = y; out = second } → (x ≡ y) × (first ≡ second)
join_one_result parts lengths out x y first second one other =
    let same : ◌≡◌ {A = JoinedOn} (record { joined = x; out = first }) (record { joined = y; out = second }) = sym one ∙ other in
    (ap (λ (r : JoinedOn). r.joined) same, ap (λ (r : JoinedOn). r.out) same)

-- ---- document 01's reader takes the joined trace

module _ {parts lengths : List ℕ} (lent : Lent parts lengths) {told : List Part} (reads : parts_told parts 0 lengths ≡ Ok told) where
  all_formed : Each Formed (all_events told)
  unfolding all_events
  all_formed =
      Each-all Formed (map (λ (p : Part). p.events) told)
      (λ i h.
      let inside : i < length lengths = omega (arith, length-map told (λ (p : Part). p.events), (parts_each parts 0 lengths reads).0) in
      rw (get_or-map (λ (p : Part). p.events) told i no_part)
      (events_formed (length (part_of parts lengths i)) (part_of parts lengths i) (open_at parts lengths i) 0 0 (part_at parts lengths reads i inside).events_are))

  first_opens : Opens (first_field told) (get_or told 0 no_part).sizes
  unfolding first_field
  first_opens =
      let part = part_at parts lengths reads 0 lent.some in
      by_told told (omega (arith, (parts_each parts 0 lengths reads).0, lent.some))
      (rw part.field_is (opens_here (part_of parts lengths 0) (start_of lengths 0) part.opens))
    where
      by_told : (ps : List Part) → 1 ≤ length ps → Opens (get_or ps 0 no_part).field (get_or told 0 no_part).sizes → Opens (first_field ps) (get_or told 0 no_part).sizes
      by_told [] some h = absurd (omega arith)
      by_told (p ∷ ps) some h = h

  module _ (numbers : stand_to (length (all_events told)) (all_events told) ≡ true) where
    joined_read : trace_told (joined_trace told) ≡ Ok (sorted (length (all_events told)) (all_events told))
    unfolding joined_trace trace_of
    joined_read =
        let n : ℕ = length (all_events told) in
        let events : List Numbered = sorted n (all_events told) in
        let run = sorted_run (all_events told) all_formed n (λ x low high. omega (arith, each_once (all_events told) numbers x low high)) in
        (let bytes = sym (sorted_bytes n (all_events told)) in
        let count = sym run.1 in
        λ j. trace_told (first_field told ++ (bytes j ++ end_field (count j))))
        ∙ trace_read first_opens events run.0

-- "The joined trace has .. every event of every part once, byte for byte .., and 01's reader takes it": from what is written at the start of the output, as long as
-- is answered, document 01's reader takes the events of the parts, each once
pub record TakesIt (parts lengths : List ℕ) (size : ℕ) (after : List ℕ) : Type 0 where
  pub told : List Part
  pub reads : parts_told parts 0 lengths ≡ Ok told
  pub events : List Numbered
  pub takes : trace_told (take size after) ≡ Ok events
  pub same_events : Perm events (all_events told)

pub reader_takes_it : (parts lengths out : List ℕ) (size : ℕ) (after : List ℕ) → joined_on parts lengths out ≡ record { joined = Ok size; out = after }
    → TakesIt parts lengths size after
reader_takes_it parts lengths out size after is =
    let found = joined_whole parts lengths out size (ap (λ (r : JoinedOn). r.joined) is) in
    let told = found.0 in
    let w = found.1 in
    let all = all_events told in
    let trace : List ℕ = joined_trace told in
    let same : ◌≡◌ {A = JoinedOn} (written_on trace out) (record { joined = Ok size; out = after }) = sym (whole_joined parts lengths out w) ∙ is in
    let answered = ap (λ (r : JoinedOn). r.joined) same in
    let long : length trace ≡ size = cc in
    let written : trace ++ drop (length trace) out ≡ after = ap (λ (r : JoinedOn). r.out) same in
    record {
      told = told;
      reads = w.reads;
      events = sorted (length all) all;
      takes =
          ap trace_told ((λ j. take (sym long j) (sym written j)) ∙ take-append_seam trace (drop (length trace) out))
          ∙ joined_read (all_lent parts lengths w.lent) w.reads w.numbers;
      same_events = sorted_perm (length all) all refl (λ x low high. each_once all w.numbers x low high);
    }

-- ---- a trace that was dealt out, joined again

-- Each part has the trace's sizes field, the events that were dealt to it, and an end field with their count.
pub joining_gives_back : (trace : List ℕ) → ((i : ℕ) → byte_at trace i < 256) → {events : List Numbered} → trace_told trace ≡ Ok events
    → (dealt : List (List Numbered)) → Dealt events dealt → 1 ≤ length dealt → length dealt ≤ 9
    → (out : List ℕ) → length trace ≤ length out
    → let parts : List (List ℕ) = map (trace_of (sizes_field trace)) dealt in
    joined_on (flatten parts) (map length parts) out ≡ record { joined = Ok (length trace); out = trace ++ drop (length trace) out }
joining_gives_back trace small {events} whole-trace dealt d some few out room =
    let apart = trace_apart trace small whole-trace in
    let back = sym (joined_back apart.opens d apart.run some few) in
    let bytes = apart.bytes in
    whole_joined _ _ out (gives_back apart.opens d apart.run some few out (rw (← bytes) room))
    ∙ ap (λ (l : List ℕ). written_on l out) (sym (bytes ∙ back))
