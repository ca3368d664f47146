-- A trace whose events are dealt out to parts.
--     run_split, run-times          events whose numbers follow one another
--     dealt_times, dealt_length, dealt_order, dealt_rises     what is dealt out
--     parts_told_lem                    the parts are whole, with the events that were dealt to each
--     gives_back                    joined, they are the trace
-- Assumes nothing.
use Prim.Native.Nat.{ℕ, zero, suc, ◌+◌, ◌≤◌, ◌<◌}
use mathlib.Core.Path.{◌≡◌, refl, sym, ap, ◌∙◌}
use mathlib.Core.Logic.{⊎_elim}
use mathlib.Core.Bool.{true, ◌&&◌}
use mathlib.Core.List.{List, [], ◌∷◌, ◌++◌, flatten, map, append_assoc, append-nil}
use native.Mathlib.Omega.{arith}
use borrow.Author.Tests.{le-leb, eq-eqb}
use lib.Dec.{eqb, leb}
use lib.ListN.{length, get_or, take, set, replicate, length-append, length-map}
use lib.Seq.{take-append-add, take-append_seam}
use Rattle.std.specs.Prelude.{Ok}
use Rattle.rules.specs.declared.Sizes.{Sizes}
use Rattle.rules.specs.View.{bit}
use Rattle.rules.specs.Sound.{Each}
use Rattle.laws.proofs.Tests.{eqb_cases, and_both}
use Rattle.laws.proofs.Lists.{Each-at, Each-map, Each-set}
use Rattle.join.specs.Part.{Numbered, Part, part_told, and_parts, parts_told}
use Rattle.join.specs.Joined.{sum, end_to_end, equal_sizes, all_sized, same_sizes, all_events, in_order, end_field, first_field, joined_trace}
use Rattle.join.specs.Promise.{event_bytes, trace_of, Dealt, none, goes}
use Rattle.join.proofs.Numbers.{times, times_append, hit_other, put_inserts, times_inserted, length_inserted, order_inserted, all_stand}
use Rattle.join.proofs.Merging.{flatten-nothing}
use Rattle.join.proofs.Formed.{Formed, Opens}
use Rattle.join.proofs.Trace.{Run, Rises, last_of, bytes_next, bytes_none, part_told_lem}
use Rattle.join.proofs.Sorted.{bytes_append}
use Rattle.join.proofs.Inverse.{JoinedWhole}

-- ---- events whose numbers follow one another

run_split : (step : ℕ) (events : List Numbered) (e : Numbered) → Run step (events ++ (e ∷ [])) → Run step events × Formed e × (e.number ≡ step + length events + 1)
run_split step [] e run = (tt, run.0, omega (arith, run.1))
run_split step (x ∷ events) e run = let rest = run_split (step + 1) events e run.2 in ((run.0, run.1, rest.0), rest.1, omega (arith, rest.2))

run_below : (step : ℕ) (events : List Numbered) → Run step events → (x : ℕ) → x ≤ step → times x events ≡ 0
unfolding times
run_below step [] run x h = refl
run_below step (e ∷ events) run x h = omega (arith, hit_other x e (λ is. omega (arith, run.1)), run_below (step + 1) events run.2 x (omega arith))

run_above : (step : ℕ) (events : List Numbered) → Run step events → (x : ℕ) → step + length events < x → times x events ≡ 0
unfolding times
run_above step [] run x h = refl
run_above step (e ∷ events) run x h = omega (arith, hit_other x e (λ is. omega (arith, run.1)), run_above (step + 1) events run.2 x (omega arith))

run_within : (step : ℕ) (events : List Numbered) → Run step events → (x : ℕ) → step < x → x ≤ step + length events → times x events ≡ 1
unfolding times
run_within step [] run x low high = absurd (omega arith)
run_within step (e ∷ events) run x low high =
    ⊎_elim
    (λ same. let is = same.0 in omega (arith, ap bit same.1, run_below (step + 1) events run.2 x (omega (arith, run.1))))
    (λ other. let ne = other.0 in omega (arith, ap bit other.1, run_within (step + 1) events run.2 x (omega (arith, run.1)) (omega arith)))
    (eqb_cases e.number x)

-- ---- what is dealt out

pub dealt_times : {events : List Numbered} {dealt : List (List Numbered)} → Dealt events dealt → (x : ℕ) → times x (flatten dealt) ≡ times x events
unfolding times
dealt_times (none parts) x = ap (times x) (flatten-nothing parts)
dealt_times (goes e {events} {dealt} i inside d) x =
    omega (arith, times_inserted x (put_inserts e dealt i inside), dealt_times d x, times_append x events (e ∷ []))

pub dealt_length : {events : List Numbered} {dealt : List (List Numbered)} → Dealt events dealt → length (flatten dealt) ≡ length events
dealt_length (none parts) = ap length (flatten-nothing parts)
dealt_length (goes e {events} {dealt} i inside d) =
    omega (arith, length_inserted (put_inserts e dealt i inside), dealt_length d, length-append events (e ∷ []))

pub dealt_order : {events : List Numbered} {dealt : List (List Numbered)} → Dealt events dealt → Run 0 events → in_order (length events) (flatten dealt) ≡ event_bytes events
unfolding in_order
dealt_order (none parts) run = sym bytes_none
dealt_order (goes e {events} {dealt} i inside d) run =
    let split = run_split 0 events e run in
    ap (λ (n : ℕ). in_order n (flatten (set dealt i (get_or dealt i [] ++ (e ∷ [])))))
    (let n : length (events ++ (e ∷ [])) ≡ suc (length events) = omega (arith, length-append events (e ∷ [])) in n)
    ∙ order_inserted (length events) (put_inserts e dealt i inside) (omega (arith, split.2))
    (dealt_times d (suc (length events)) ∙ run_above 0 events split.0 (suc (length events)) (omega arith))
    ∙ ap (λ (l : List ℕ). l ++ e.bytes) (dealt_order d split.0)
    ∙ ap (λ (l : List ℕ). event_bytes events ++ l) (sym (bytes_next e [] ∙ ap (λ (l : List ℕ). e.bytes ++ l) bytes_none ∙ append-nil e.bytes))
    ∙ sym (bytes_append events (e ∷ []))

rises-behind : (last : ℕ) (events : List Numbered) (e : Numbered) → Rises last events → Formed e → last_of last events < e.number → Rises last (events ++ (e ∷ []))
rises-behind last [] e rises formed above = (formed, above, tt)
rises-behind last (x ∷ events) e rises formed above = (rises.0, rises.1, rises-behind x.number events e rises.2 formed above)

last_behind : (last : ℕ) (events : List Numbered) (e : Numbered) → last_of last (events ++ (e ∷ [])) ≡ e.number
last_behind last [] e = refl
last_behind last (x ∷ events) e = last_behind x.number events e

-- the numbers of a part rise, up to how many were dealt
abbrev Upto : ℕ → List Numbered → Type 0
Upto n events = Rises 0 events × (last_of 0 events ≤ n)

each_nothing : (n parts : ℕ) → Each (Upto n) (replicate parts [])
each_nothing n zero = tt
each_nothing n (suc parts) = ((tt, omega arith), each_nothing n parts)

pub dealt_rises : {events : List Numbered} {dealt : List (List Numbered)} → Dealt events dealt → Run 0 events → Each (Upto (length events)) dealt
dealt_rises (none parts) run = each_nothing 0 parts
dealt_rises (goes e {events} {dealt} i inside d) run =
    let split = run_split 0 events e run in
    let before = dealt_rises d split.0 in
    let part = Each-at (Upto (length events)) dealt i [] inside before in
    let n : length (events ++ (e ∷ [])) ≡ length events + 1 = length-append events (e ∷ []) in
    Each-set (Upto (length (events ++ (e ∷ [])))) dealt i (get_or dealt i [] ++ (e ∷ []))
    (Each-map dealt (λ l up. (up.0, omega (arith, up.1, n))) before)
    (rises-behind 0 (get_or dealt i []) e part.0 split.1 (omega (arith, part.1, split.2)), omega (arith, last_behind 0 (get_or dealt i []) e, split.2, n))

-- ---- the parts

module _ {sizes : List ℕ} {s : Sizes} (opens : Opens sizes s) where
  abbrev pub part_with : List Numbered → Part
  part_with events = record { sizes = s; field = sizes; events = events }

  parts_told_lem : (n : ℕ) (dealt : List (List Numbered)) → Each (Upto n) dealt → (before all : List ℕ) → all ≡ before ++ flatten (map (trace_of sizes) dealt)
      → parts_told all (length before) (map length (map (trace_of sizes) dealt)) ≡ Ok (map part_with dealt)
  unfolding parts_told flatten
  parts_told_lem n [] up before all is = refl
  parts_told_lem n (events ∷ dealt) up before all is =
      let part : List ℕ = trace_of sizes events in
      let rest : List ℕ = flatten (map (trace_of sizes) dealt) in
      let here : take (length before + length part) all ≡ before ++ part =
      ap (take (length before + length part)) is
      ∙ take-append-add before (part ++ rest) (length part)
      ∙ ap (λ (l : List ℕ). before ++ l) (take-append_seam part rest) in
      let first = ap (λ (l : List ℕ). part_told l (length before)) here ∙ part_told_lem before opens events up.0.0 in
      let place : length before + length part ≡ length (before ++ part) = sym (length-append before part) in
      let others =
      ap (λ (m : ℕ). parts_told all m (map length (map (trace_of sizes) dealt))) place
      ∙ parts_told_lem n dealt up.1 (before ++ part) all (is ∙ sym (append_assoc before part rest)) in
      λ j. and_parts (first j) (others j)

  sum_lengths : (parts : List (List ℕ)) → sum (map length parts) ≡ length (flatten parts)
  unfolding sum flatten
  sum_lengths [] = refl
  sum_lengths (p ∷ parts) = omega (arith, length-append p (flatten parts), sum_lengths parts)

  events_of_lem : (dealt : List (List Numbered)) → map (λ (p : Part). p.events) (map part_with dealt) ≡ dealt
  events_of_lem [] = refl
  events_of_lem (events ∷ dealt) = ap (λ (l : List (List Numbered)). events ∷ l) (events_of_lem dealt)

  equal_same : equal_sizes s s ≡ true
  unfolding equal_sizes
  equal_same =
      and_both (eqb s.n s.n && eqb s.k s.k && eqb s.w s.w && eqb s.r s.r) (eqb s.b s.b)
      (and_both (eqb s.n s.n && eqb s.k s.k && eqb s.w s.w) (eqb s.r s.r)
      (and_both (eqb s.n s.n && eqb s.k s.k) (eqb s.w s.w)
      (and_both (eqb s.n s.n) (eqb s.k s.k) (eq-eqb s.n s.n refl) (eq-eqb s.k s.k refl))
      (eq-eqb s.w s.w refl))
      (eq-eqb s.r s.r refl))
      (eq-eqb s.b s.b refl)

  all_same : (dealt : List (List Numbered)) → all_sized s (map part_with dealt) ≡ true
  unfolding all_sized
  all_same [] = refl
  all_same (events ∷ dealt) = and_both (equal_sizes s s) (all_sized s (map part_with dealt)) equal_same (all_same dealt)

  module _ {events : List Numbered} {dealt : List (List Numbered)} (d : Dealt events dealt) (run : Run 0 events) (some : 1 ≤ length dealt) (few : length dealt ≤ 9) where
    abbrev told : List Part
    told = map part_with dealt

    abbrev parts : List (List ℕ)
    parts = map (trace_of sizes) dealt

    all_are : all_events told ≡ flatten dealt
    unfolding all_events
    all_are = ap flatten (events_of_lem dealt)

    count : length (all_events told) ≡ length events
    count = ap length all_are ∙ dealt_length d

    pub joined_back : joined_trace told ≡ trace_of sizes events
    unfolding joined_trace trace_of first_field
    joined_back =
        let order : in_order (length (all_events told)) (all_events told) ≡ event_bytes events =
        (λ j. in_order (count j) (all_are j)) ∙ dealt_order d run in
        let first = by_first dealt some in
        λ j. first j ++ (order j ++ end_field (count j))
      where
        by_first : (l : List (List Numbered)) → 1 ≤ length l → first_field (map part_with l) ≡ sizes
        by_first [] h = absurd (omega arith)
        by_first (x ∷ l) h = refl

    pub gives_back : (out : List ℕ) → length (trace_of sizes events) ≤ length out → JoinedWhole (flatten parts) (map length parts) out told
    unfolding end_to_end same_sizes
    gives_back out room =
        let long : length (map length parts) ≡ length dealt = length-map parts length ∙ length-map dealt (trace_of sizes) in
        let n : ℕ = length (map length parts) in
        record {
          lent =
              and_both (leb 1 n && leb n 9) (eqb (sum (map length parts)) (length (flatten parts)))
              (and_both (leb 1 n) (leb n 9) (le-leb 1 n (omega (arith, long))) (le-leb n 9 (omega (arith, long))))
              (eq-eqb (sum (map length parts)) (length (flatten parts)) (sum_lengths parts));
          reads = parts_told_lem (length events) dealt (dealt_rises d run) [] (flatten parts) refl;
          sized = by_sizes dealt;
          numbers =
              all_stand (length (all_events told)) (all_events told)
              (λ x low high.
              omega (
                arith,
                ap (times x) all_are,
                dealt_times d x,
                run_within 0 events run x (omega arith) (omega (arith, count)),
              ));
          room = rw joined_back room;
        }
      where
        by_sizes : (l : List (List Numbered)) → same_sizes (map part_with l) ≡ true
        by_sizes [] = refl
        by_sizes (x ∷ l) = all_same (x ∷ l)
