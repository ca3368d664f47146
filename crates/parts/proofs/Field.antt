-- A field of a part is a field of the trace.
--     taken_in_part     what is taken in a part is taken in the trace, whatever comes behind the part
--     read_in_front     where the part has the bytes of any field, or nothing comes behind it, the same is read
--     read_behind       what is read behind so many bytes, with the places moved
-- Assumes nothing.
use Prim.Native.Nat.{ℕ, ◌+◌, ◌*◌, ◌≤◌, ◌<◌, min}
use mathlib.Core.Path.{◌≡◌, refl, sym, ap, ◌∙◌}
use mathlib.Core.Logic.{◌⊎◌, inr}
use mathlib.Core.Bool.{Bool, true, false, cond, not, ◌||◌}
use mathlib.Core.List.{List, [], ◌∷◌, ◌++◌, append-nil}
use native.Mathlib.Omega.{arith}
use native.Mathlib.Nat.{zero-add}
use borrow.Author.Tests.{ltb-false, le-ltb, eqb-true, eqb-false}
use lib.Dec.{eqb, ltb}
use lib.ListN.{length, take, drop, length-append, length-take, take-append-drop, get_or-append}
use Rattle.std.specs.Prelude.{Result, Ok, Err}
use Rattle.rules.specs.declared.Event.TheVariants.{Make, Move, Drop, Load, Store, Look, Post}
use Rattle.rules.specs.declared.Refusal.{Refusal}
use Rattle.rules.specs.declared.Refusal.TheVariants.{WrongSize, WrongStep, WrongCount, ExtraByte}
use Rattle.rules.specs.Size.{in_range}
use Rattle.rules.specs.Outcome.{Test}
use Rattle.laws.proofs.Tests.{never, or_left}
use Rattle.laws.proofs.Refusals.{Unrefused}
use Rattle.fields.specs.declared.Stage.{Stage}
use Rattle.fields.specs.declared.Stage.TheVariants.{First, Events, Ended}
use Rattle.fields.specs.declared.Reader.{Reader}
use Rattle.fields.specs.declared.Field.TheVariants as field
use Rattle.fields.specs.declared.Read.{Read}
use Rattle.fields.specs.declared.RefusedAt.{RefusedAt}
use Rattle.fields.specs.Field.{byte_at, two_at, four_at, sizes_tag, end_tag, payload_of, payload_for, payload_at, board_at, sizes_at, event_at, misplaced, payload_test, refusals, refused_at, decide, taken, behind_end, WholeAt, field_at, placed, read_at}
use Rattle.fields.specs.Part.{longest, moved, is_taken}
use Rattle.fields.proofs.Tags.{payload_least, sizes_payload, other_payload}
use Rattle.fields.proofs.Order.{at_stage}
use Rattle.fields.proofs.Part.{read_in_part}

-- two choices are one where both sides are
same_choice : {A : Type 0} (b : Bool) {x y u v : A} → (b ≡ true → x ≡ u) → (b ≡ false → y ≡ v) → cond b x y ≡ cond b u v
same_choice true left right = left refl
same_choice false left right = right refl

-- ---- the tests of a field that is taken

module _ (x : Read) where
  none_refuses : (tests : List Test) {y : Read} → decide tests x ≡ Ok y → Unrefused tests × (x ≡ y)
  unfolding decide
  none_refuses [] h = (tt, let same : x ≡ _ = cc in same)
  none_refuses (t ∷ tests) {y} h = by_test t.when (none_refuses tests) h
    where
      by_test : (b : Bool) → (decide tests x ≡ Ok y → Unrefused tests × (x ≡ y))
          → cond b (Err t.why) (decide tests x) ≡ Ok y → ((b ≡ false) × Unrefused tests) × (x ≡ y)
      by_test true more h = absurd (let z : ◌≡◌ {A = ℕ} 0 1 = cc in omega arith)
      by_test false more h = let rest = more h in ((refl, rest.0), rest.1)

  all_pass : (tests : List Test) → Unrefused tests → decide tests x ≡ Ok x
  unfolding decide
  all_pass [] h = refl
  all_pass (t ∷ tests) h = ap (λ (b : Bool). cond b (Err t.why) (decide tests x)) h.0 ∙ all_pass tests h.1

-- ---- how long the payload of an event is

module _ (tag : ℕ) (other : eqb tag sizes_tag ≡ false) where
  make_long : eqb tag 0x10 ≡ true → payload_of tag ≡ 6
  unfolding payload_of
  make_long make = rw (other, make)

  module _ (make : eqb tag 0x10 ≡ false) where
    move_long : eqb tag 0x11 ≡ true → payload_of tag ≡ 7
    unfolding payload_of
    move_long move = rw (other, make, move)

    module _ (move : eqb tag 0x11 ≡ false) where
      drop_long : eqb tag 0x12 ≡ true → payload_of tag ≡ 6
      unfolding payload_of
      drop_long drops = rw (other, make, move, drops)

      module _ (drops : eqb tag 0x12 ≡ false) where
        load_long : eqb tag 0x13 ≡ true → payload_of tag ≡ 8
        unfolding payload_of
        load_long load = rw (other, make, move, drops, load)

        module _ (load : eqb tag 0x13 ≡ false) where
          store_long : eqb tag 0x14 ≡ true → payload_of tag ≡ 8
          unfolding payload_of
          store_long store = rw (other, make, move, drops, load, store)

          module _ (store : eqb tag 0x14 ≡ false) where
            look_long : eqb tag 0x15 ≡ true → payload_of tag ≡ 7
            unfolding payload_of
            look_long look = rw (other, make, move, drops, load, store, look)

            post_long : eqb tag 0x15 ≡ false → eqb tag 0x16 ≡ true → payload_of tag ≡ 7
            unfolding payload_of
            post_long look post = rw (other, make, move, drops, load, store, look, post)

-- ---- a field that is whole in the part

module _ (part more : List ℕ) (i : ℕ) (lies : WholeAt part i) where
  abbrev tag : ℕ
  tag = byte_at part i

  abbrev payload : ℕ
  payload = payload_at part i

  whole : i + 3 + payload ≤ length part
  whole = lies.whole

  some : 4 ≤ payload
  some = payload_least tag (two_at part (i + 1)) lies.tag

  byte_same : (j : ℕ) → j < i + 3 + payload → byte_at (part ++ more) j ≡ byte_at part j
  byte_same j inside = get_or-append part more 0 j (omega (arith, whole))

  two_same : (j : ℕ) → j + 2 ≤ i + 3 + payload → two_at (part ++ more) j ≡ two_at part j
  two_same j inside = λ k. byte_same j (omega arith) k * 256 + byte_same (j + 1) (omega arith) k

  four_same : four_at (part ++ more) (i + 3) ≡ four_at part (i + 3)
  four_same = λ k. two_same (i + 3) (omega (arith, some)) k * 65536 + two_same (i + 3 + 2) (omega (arith, some)) k

  tag_same : byte_at (part ++ more) i ≡ tag
  tag_same = byte_same i (omega arith)

  long_same : two_at (part ++ more) (i + 1) ≡ two_at part (i + 1)
  long_same = two_same (i + 1) (omega (arith, some))

  payload_same : payload_at (part ++ more) i ≡ payload
  payload_same = λ k. payload_for (tag_same k) (long_same k)

  board_same : board_at (part ++ more) (i + 3) payload ≡ board_at part (i + 3) payload
  board_same = same_choice (eqb payload 10) (λ ten. let long = eqb-true payload 10 ten in two_same (i + 3 + 8) (omega arith)) (λ none. refl)

  sizes_same : eqb tag sizes_tag ≡ true → sizes_at (part ++ more) (i + 3) payload ≡ sizes_at part (i + 3) payload
  sizes_same is_sizes =
      let long = sizes_payload tag (two_at part (i + 1)) (eqb-true tag sizes_tag is_sizes) in
      λ k. record {
        n = two_same (i + 3) (omega arith) k;
        k = two_same (i + 3 + 2) (omega arith) k;
        w = two_same (i + 3 + 4) (omega arith) k;
        r = two_same (i + 3 + 6) (omega arith) k;
        b = board_same k;
      }

  event_same : eqb tag sizes_tag ≡ false → event_at tag (part ++ more) (i + 3 + 4) ≡ event_at tag part (i + 3 + 4)
  unfolding event_at
  event_same other =
      let same : payload ≡ payload_of tag = other_payload tag (two_at part (i + 1)) (eqb-false tag sizes_tag other) in
      let argument-same : (j : ℕ) → 4 + j < payload_of tag → byte_at (part ++ more) (i + 3 + 4 + j) ≡ byte_at part (i + 3 + 4 + j) =
      (λ j inside. byte_same (i + 3 + 4 + j) (omega arith)) in
      same_choice (eqb tag 0x10)
      (λ make. let long = make_long tag other make in λ k. Make (argument-same 0 (omega arith) k) (argument-same 1 (omega arith) k))
      (λ make. same_choice (eqb tag 0x11)
      (λ move.
      let long = move_long tag other make move in
      λ k. Move (argument-same 0 (omega arith) k) (argument-same 1 (omega arith) k) (argument-same 2 (omega arith) k))
      (λ move. same_choice (eqb tag 0x12)
      (λ drops. let long = drop_long tag other make move drops in λ k. Drop (argument-same 0 (omega arith) k) (argument-same 1 (omega arith) k))
      (λ drops. same_choice (eqb tag 0x13)
      (λ load.
      let long = load_long tag other make move drops load in
      λ k. Load (argument-same 0 (omega arith) k) (argument-same 1 (omega arith) k) (argument-same 2 (omega arith) k) (argument-same 3 (omega arith) k))
      (λ load. same_choice (eqb tag 0x14)
      (λ store.
      let long = store_long tag other make move drops load store in
      λ k. Store (argument-same 0 (omega arith) k) (argument-same 1 (omega arith) k) (argument-same 2 (omega arith) k) (argument-same 3 (omega arith) k))
      (λ store. same_choice (eqb tag 0x15)
      (λ look.
      let long = look_long tag other make move drops load store look in
      λ k. Look (argument-same 0 (omega arith) k) (argument-same 1 (omega arith) k) (argument-same 2 (omega arith) k))
      (λ look. same_choice (eqb tag 0x16)
      (λ post.
      let long = post_long tag other make move drops load store look post in
      λ k. Post (argument-same 0 (omega arith) k) (argument-same 1 (omega arith) k) (argument-same 2 (omega arith) k))
      (λ post. refl)))))))

  test_same : (reader : Reader)
      → payload_test (byte_at (part ++ more) i) (payload_at (part ++ more) i) (part ++ more) (i + 3) reader ≡ payload_test tag payload part (i + 3) reader
  test_same reader =
      (λ k. payload_test (tag_same k) (payload_same k) (part ++ more) (i + 3) reader)
      ∙ same_choice (eqb tag sizes_tag)
      (λ is_sizes. λ k. record { when = not (in_range (sizes_same is_sizes k)); why = WrongSize })
      (λ other. same_choice (eqb tag end_tag)
      (λ is_end. λ k. record { when = not (eqb (four_same k) reader.step); why = WrongCount })
      (λ event. λ k. record { when = not (eqb (four_same k) (reader.step + 1)); why = WrongStep }))

  taken_same : (reader : Reader) → taken (part ++ more) i reader ≡ taken part i reader
  unfolding taken
  taken_same reader =
      rw (tag_same, long_same)
      (same_choice (eqb tag sizes_tag)
      (λ is_sizes. λ k. record { field = field.Sizes (sizes_same is_sizes k); next = i + 3 + payload; reader = record { stage = Events; step = 0 } })
      (λ other. same_choice (eqb tag end_tag)
      (λ is_end. refl)
      (λ event. λ k.
      record {
        field = field.Event (four_same k) (event_same other k);
        next = i + 3 + payload;
        reader = record { stage = Events; step = four_same k };
      })))

  pass_same : (reader : Reader) → Unrefused (refusals part i reader) → Unrefused (refusals (part ++ more) i reader)
  unfolding refusals
  pass_same reader passed =
      let long : length (part ++ more) ≡ length part + length more = length-append part more in (
        le-ltb (length (part ++ more)) (i + 3) (omega (arith, whole)),
        (
          (λ k. eqb (payload_of (tag_same k)) 0 || misplaced reader.stage (tag_same k)) ∙ passed.1.0,
          (
            (λ k. not (eqb (long_same k) (payload_same k))) ∙ passed.1.1.0,
            (
              ap (λ (n : ℕ). ltb (length (part ++ more)) (i + 3 + n)) payload_same
                  ∙ le-ltb (length (part ++ more)) (i + 3 + payload) (omega (arith, whole)),
              (
                ap (λ (t : Test). t.when) (test_same reader) ∙ passed.1.1.1.1.0,
                tt,
              ),
            ),
          ),
        ),
      )

-- ---- the part that is at hand

module _ (part more : List ℕ) (i : ℕ) (reader : Reader) where
  -- no test refuses it, so that its payload is whole
  lies_whole : Unrefused (refusals part i reader) → WholeAt part i
  unfolding refusals
  lies_whole passed =
      record {
        tag = eqb-false (payload_of (byte_at part i)) 0 (or_left _ (misplaced reader.stage (byte_at part i)) passed.1.0);
        whole = ltb-false (length part) (i + 3 + payload_at part i) passed.1.1.1.0;
      }

  field_same : {x : Read} → field_at part i reader ≡ Ok x → field_at (part ++ more) i reader ≡ Ok x
  unfolding field_at
  field_same h =
      let passed = none_refuses (taken part i reader) (refusals part i reader) h in
      let lies = lies_whole passed.0 in
      all_pass (taken (part ++ more) i reader) (refusals (part ++ more) i reader) (pass_same part more i lies reader passed.0)
      ∙ ap Ok (taken_same part more i lies reader ∙ passed.1)

  -- what is read there is not refused
  read_there : {r : Result Read Refusal} {x : Read} → placed i r ≡ Ok x → r ≡ Ok x
  read_there {r} {x} = by_result r
    where
      by_result : (r : Result Read Refusal) → placed i r ≡ Ok x → r ≡ Ok x
      by_result (Ok y) h = let same : y ≡ x = cc in ap Ok same
      by_result (Err why) h = absurd (let z : ◌≡◌ {A = ℕ} 0 1 = cc in omega arith)

  pub taken_in_part : (x : Read) → read_at part i reader ≡ Ok x → is_taken x.field ≡ true → read_at (part ++ more) i reader ≡ Ok x
  unfolding read_at behind_end
  taken_in_part x read takes = by_stage reader.stage read
    where
      by_stage : (stage : Stage) → placed i (at_stage part i reader stage) ≡ Ok x → placed i (at_stage (part ++ more) i reader stage) ≡ Ok x
      by_stage First h = ap (placed i) (field_same (read_there h))
      by_stage Events h = ap (placed i) (field_same (read_there h))
      by_stage Ended h = absurd (by_more (ltb i (length part)) h)
        where
          by_more : (b : Bool) → placed i (cond b (Err ExtraByte) (Ok (record { field = field.Nothing; next = i; reader = reader }))) ≡ Ok x → ⊥
          by_more true h = let z : ◌≡◌ {A = ℕ} 0 1 = cc in omega arith
          by_more false h =
              let same : record { field = field.Nothing; next = i; reader = reader } ≡ x = cc in
              never (ap (λ (y : Read). is_taken y.field) same ∙ takes)

  -- nothing is moved
  unmoved : (r : Result Read RefusedAt) → moved 0 r ≡ r
  unfolding moved
  unmoved (Ok x) = λ k. Ok (record { field = x.field; next = zero-add x.next k; reader = x.reader })
  unmoved (Err e) = λ k. refused_at e.why (zero-add e.place k)

  pub read_in_front : (i + longest ≤ length part) ⊎ (more ≡ []) → read_at (part ++ more) i reader ≡ read_at part i reader
  read_in_front enough =
      ap (λ (j : ℕ). read_at (part ++ more) j reader) (sym (zero-add i))
      ∙ read_in_part [] part more i enough reader
      ∙ unmoved (read_at part i reader)

-- the bytes behind the first n
pub read_behind : (bytes : List ℕ) (n : ℕ) → n ≤ length bytes → (i : ℕ) (reader : Reader)
    → read_at bytes (n + i) reader ≡ moved n (read_at (drop n bytes) i reader)
read_behind bytes n inside i reader =
    let joined : take n bytes ++ drop n bytes ++ [] ≡ bytes = append-nil (take n bytes ++ drop n bytes) ∙ take-append-drop n bytes in
    let few : min n (length bytes) ≡ n = omega arith in
    let long : length (take n bytes) ≡ n = length-take n bytes ∙ few in
    (λ k. read_at (sym joined k) (sym long k + i) reader)
    ∙ read_in_part (take n bytes) (drop n bytes) [] i (inr refl) reader
    ∙ ap (λ (m : ℕ). moved m (read_at (drop n bytes) i reader)) long
