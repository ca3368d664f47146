-- Where a merge ends. Where the parts are whole and their numbers are 1 to n it comes to the end of every part: the next number stands in one of the parts, and the
-- events before it there have smaller numbers, which were taken from elsewhere; so that they would stand twice. Where it comes to the end of every part, the parts
-- are whole, and what was taken of them is all that there is.
--     comes_through     where the numbers are 1 to n, a merge that finds no next event has taken all
--     at_ends           then every part stands at its end
--     same_order        what was taken so far is the beginning of the joined trace
--     merges            where every part stands at its end, the parts are whole and their numbers are 1 to n
-- Assumes nothing.
use Prim.Native.Nat.{ℕ, suc, ◌+◌, ◌-◌, ◌≤◌, ◌<◌}
use mathlib.Core.Path.{◌≡◌, refl, sym, ap, ◌∙◌, subst}
use mathlib.Core.Logic.{⊎_elim}
use mathlib.Core.Bool.{true}
use mathlib.Core.List.{List, [], ◌++◌, flatten, map, append-nil}
use native.Mathlib.Omega.{arith}
use lib.ListN.{length, get_or, take, length-map, get_or-map}
use lib.Seq.{ext_get_or}
use Rattle.std.specs.Prelude.{Ok, None}
use Rattle.rules.specs.declared.Sizes.{Sizes}
use Rattle.laws.proofs.Tests.{below_or_not, eqb_cases}
use Rattle.laws.proofs.Lists.{length-flatten}
use Rattle.fields.specs.Field.{EventSized}
use Rattle.fields.proofs.Event.{Says, event_there}
use Rattle.join.specs.declared.Cursor.{Cursor}
use Rattle.join.specs.Part.{Numbered, Part, also, between, opening, events_told, part_told, parts_told}
use Rattle.join.specs.Joined.{all_events, stand_to, in_order}
use Rattle.join.specs.Merge.{start_of, end_of, part_of, cursor_at, ends_with, Merges}
use Rattle.join.proofs.Numbers.{times, hit_same, hit_other, all_stand, each_once}
use Rattle.join.proofs.Told.{Turned, at_end, an_event, told_turn, told_ends, rising, also_whole}
use Rattle.join.proofs.Split.{Split, split_from, split_many, split-times, split-length, flatten_has, flatten-times, order_split}
use Rattle.join.proofs.Merging.{open_at, Merging}
use Rattle.join.proofs.Whole.{no_part, whole_part_lem, opened_inside, parts_each, part_at, parts_from}

module _ (parts lengths : List ℕ) {step : ℕ} {cursors : List Cursor} {text : List ℕ} (m : Merging parts lengths step cursors text) where
  -- what is left of a part is read from its place on
  abbrev Left : ℕ → List Numbered → Type 0
  Left i rest =
      (turns : ℕ) × (last : ℕ)
      × (events_told (suc turns) (part_of parts lengths i) (cursor_at cursors i).place last (length (get_or m.got i [])) ≡ Ok rest)

  module _ {told : List Part} (reads : parts_told parts 0 lengths ≡ Ok told) where
    abbrev lists : List (List Numbered)
    lists = map (λ (p : Part). p.events) told

    listed : length lists ≡ length lengths
    listed = length-map told (λ (p : Part). p.events) ∙ (parts_each parts 0 lengths reads).0

    left : (i : ℕ) → i < length lists → (rest : List Numbered) × (get_or m.got i [] ++ rest ≡ get_or lists i []) × Left i rest
    left i h =
        let inside : i < length lengths = omega (arith, listed) in
        let came = m.came i inside in
        let part = part_at parts lengths reads i inside in
        let opened = opened_inside (part_of parts lengths i) (start_of lengths i) part.opens in
        let got = get_or m.got i [] in
        let bytes = part_of parts lengths i in
        let turns = length bytes - length got - 1 in
        let all : suc turns + length got ≡ length bytes = omega (arith, came.room, came.inside opened.inside, opened.least) in
        let here = also_whole (λ more. got ++ more) (events_told (suc turns) bytes (cursor_at cursors i).place came.last (length got))
        (sym (came.reads (suc turns)) ∙ ap (λ (n : ℕ). events_told n bytes (open_at parts lengths i) 0 0) all ∙ part.events_are) in
        (here.0, here.2 ∙ sym (get_or-map (λ (p : Part). p.events) told i no_part), (turns, came.last, here.1))

    split : (rests : List (List Numbered)) × Split m.got rests lists × ((i : ℕ) → i < length lists → Left i (get_or rests i []))
    split = split_from Left m.got lists (m.many ∙ sym listed) left

    pub step_most : step ≤ length (all_events told)
    unfolding all_events
    step_most = omega (arith, split-length split.1, m.count)

    module _ (numbers : stand_to (length (all_events told)) (all_events told) ≡ true) where
      pub same_order : text ≡ in_order step (all_events told)
      unfolding all_events
      same_order =
          m.fields
          ∙ order_split step split.1
          (λ x low high. omega (arith, m.once x low high))
          (λ x low high. omega (arith, each_once (all_events told) numbers x low (omega (arith, step_most))))

      -- the next number stands at the beginning of what is left of a part
      module _ (less : step < length (all_events told)) (i : ℕ) (inside : i < length lengths) where
        next_here : {rest : List Numbered} (turns last : ℕ)
            → Turned (part_of parts lengths i) (cursor_at cursors i).place last (length (get_or m.got i [])) turns rest
            → 1 ≤ times (step + 1) rest
            → ((x : ℕ) → times x rest + times x (flatten m.got) ≤ times x (all_events told))
            → Says (part_of parts lengths i) (cursor_at cursors i).place step
        unfolding times
        next_here turns last (at_end e) has most = absurd (omega arith)
        next_here turns last (an_event s next more above says behind rest_told) has most =
            let event : Numbered = record { number = s + 1; bytes = between (part_of parts lengths i) (cursor_at cursors i).place next } in
            ⊎_elim
            -- it was taken from elsewhere, and would stand twice
            (λ (earlier : s < step).
            absurd
            (omega (
              arith,
              most (s + 1),
              hit_same (s + 1) event refl,
              m.once (s + 1) (omega arith) (omega arith),
              each_once (all_events told) numbers (s + 1) (omega arith) (omega arith),
            )))
            (λ (late : step ≤ s).
            ⊎_elim
            (λ same. subst (Says (part_of parts lengths i) (cursor_at cursors i).place) same.0 says)
            -- the numbers of a part rise, and the next one would be behind a greater one
            (λ other.
            let ne = other.0 in
            absurd
            (omega (
              arith,
              rising turns (part_of parts lengths i) next (s + 1) (length (get_or m.got i []) + 1) rest_told (step + 1)
                  (omega (arith, hit_other (step + 1) event (λ e. other.0 (omega arith)))),
            )))
            (eqb_cases s step))
            (below_or_not s step)

      pub comes_through : ((i : ℕ) → i < length lengths → EventSized (part_of parts lengths i) (cursor_at cursors i).place step None) → length (all_events told) ≤ step
      unfolding all_events
      comes_through stuck =
          ⊎_elim
          (λ (less : step < length (all_events told)).
          let next = each_once (all_events told) numbers (step + 1) (omega arith) (omega arith) in
          let found = flatten_has (step + 1) split.0 (omega (arith, split-times (step + 1) split.1, m.later (step + 1) (omega arith))) in
          let i = found.0 in
          let inside : i < length lengths = omega (arith, found.1, split_many split.1, listed) in
          let rest = split.2 i (omega (arith, listed)) in
          let says =
          next_here less i inside rest.0 rest.1
          (told_turn (part_of parts lengths i) (cursor_at cursors i).place rest.1 (length (get_or m.got i [])) rest.0 rest.2)
          found.2
          (λ x. omega (arith, split-times x split.1, flatten-times x split.0 i)) in
          absurd
          ((stuck i inside).none _ _ _ (event_there (part_of parts lengths i) (cursor_at cursors i).place step refl says) refl))
          (λ (h : length (all_events told) ≤ step). h)
          (below_or_not step (length (all_events told)))

    pub at_ends : length (all_events told) ≤ step → (i : ℕ) → i < length lengths → ends_with (part_of parts lengths i) (cursor_at cursors i).place (length (get_or m.got i [])) ≡ true
    unfolding all_events
    at_ends all i h =
        let k : i < length lists = omega (arith, listed) in
        let rest = split.2 i k in
        by_turn (told_turn (part_of parts lengths i) (cursor_at cursors i).place rest.1 (length (get_or m.got i [])) rest.0 rest.2) (omega (arith, split-length split.1, m.count, length-flatten split.0 i))
      where
        by_turn : {turns last : ℕ} {rest : List Numbered} → Turned (part_of parts lengths i) (cursor_at cursors i).place last (length (get_or m.got i [])) turns rest → length rest ≡ 0
            → ends_with (part_of parts lengths i) (cursor_at cursors i).place (length (get_or m.got i [])) ≡ true
        by_turn (at_end e) none = e
        by_turn (an_event s next more above says behind told) none = absurd (omega arith)

  -- and back
  pub merges : ((i : ℕ) → i < length lengths → (s : Sizes) × (opening (part_of parts lengths i) (start_of lengths i) ≡ Ok (record { sizes = s; next = open_at parts lengths i })))
      → ((i : ℕ) → i < length lengths → ends_with (part_of parts lengths i) (cursor_at cursors i).place (length (get_or m.got i [])) ≡ true)
      → Merges parts lengths (length text)
  unfolding all_events
  merges opens ends =
      let parts_are = parts_from Is parts 0 lengths part in
      let told = parts_are.0 in
      let lists : map (λ (p : Part). p.events) told ≡ m.got =
      ext_get_or [] (map (λ (p : Part). p.events) told) m.got
      (length-map told (λ (p : Part). p.events) ∙ parts_are.2 ∙ sym m.many)
      (λ i h. get_or-map (λ (p : Part). p.events) told i no_part
      ∙ parts_are.3 i (omega (arith, length-map told (λ (p : Part). p.events), parts_are.2))) in
      let all : all_events told ≡ flatten m.got = ap flatten lists in
      let count : length (all_events told) ≡ step = ap length all ∙ m.count in
      record {
        told = told;
        reads = parts_are.1;
        numbers = rw (count, all) (all_stand step (flatten m.got) (λ x low high. omega (arith, m.once x low high)));
        size_is = ap length m.fields ∙ (let same = sym all in let last = sym count in λ j. length (in_order (last j) (same j)));
      }
    where
      Is : ℕ → Part → Type 0
      Is i p = p.events ≡ get_or m.got i []

      here : (i : ℕ) → i < length lengths → (p : Part) × (part_told (part_of parts lengths i) (start_of lengths i) ≡ Ok p) × Is i p
      here i h =
          let bytes = part_of parts lengths i in
          let got = get_or m.got i [] in
          let came = m.came i h in
          let opens = opens i h in
          let opened = opened_inside bytes (start_of lengths i) opens.1 in
          let turns = length bytes - length got - 1 in
          let all : length bytes ≡ suc turns + length got = omega (arith, came.room, came.inside opened.inside, opened.least) in (
            record { sizes = opens.0; field = between bytes (start_of lengths i) (open_at parts lengths i); events = got },
            whole_part_lem bytes (start_of lengths i) opens.1
                (ap (λ (n : ℕ). events_told n bytes (open_at parts lengths i) 0 0) all
                ∙ came.reads (suc turns)
                ∙ ap (also (λ more. got ++ more)) (told_ends bytes (cursor_at cursors i).place came.last (length got) turns (ends i h))
                ∙ ap Ok (append-nil got)),
            refl,
          )

      part : (i : ℕ) → i < length lengths → (start end : ℕ) → start ≡ 0 + start_of lengths i → end ≡ 0 + end_of lengths i
          → (p : Part) × (part_told (take end parts) start ≡ Ok p) × Is i p
      part i h start end from to =
          let x = here i h in
          let a : start ≡ start_of lengths i = omega arith in
          let b : end ≡ end_of lengths i = omega arith in
          (x.0, (λ j. part_told (take (b j) parts) (a j)) ∙ x.1, x.2)
