-- Reading a part of a trace first and the rest later changes nothing: where the part has the bytes of a field, or the trace ends with the part, what is read in
-- the part is what is read in the trace, with the places moved.
--     Alike, read_alike     two places at which the same is read
--     read_in_part          what is read in a part of a trace
-- Assumes nothing.
use Prim.Native.Nat.{ℕ, ◌+◌, ◌-◌, ◌*◌, ◌≤◌, ◌<◌, min}
use mathlib.Core.Path.{◌≡◌, refl, sym, ap, ◌∙◌}
use mathlib.Core.Logic.{◌⊎◌, ⊎_elim}
use mathlib.Core.Bool.{Bool, true, false, cond}
use mathlib.Core.List.{List, [], ◌∷◌, ◌++◌, append_assoc, append-nil}
use native.Mathlib.Omega.{arith}
use borrow.Author.Tests.{lt-ltb, le-ltb}
use lib.Dec.{eqb, ltb}
use lib.ListN.{length, length-append, get_or-append}
use lib.Seq.{get_or-append-add}
use Rattle.std.specs.Prelude.{Result, Ok, Err}
use Rattle.rules.specs.declared.Refusal.{Refusal}
use Rattle.rules.specs.Outcome.{Test}
use Rattle.laws.proofs.Tests.{below_or_not}
use Rattle.fields.specs.declared.Stage.{Stage}
use Rattle.fields.specs.declared.Stage.TheVariants.{First, Events, Ended}
use Rattle.fields.specs.declared.Reader.{Reader}
use Rattle.fields.specs.declared.Read.{Read}
use Rattle.fields.specs.Field.{byte_at, two_at, four_at, sizes_tag, end_tag, payload_at, board_at, sizes_at, event_at, refusals, decide, taken, behind_end, field_at, placed, read_at}
use Rattle.fields.specs.Part.{longest, moved}
use Rattle.fields.proofs.Tags.{payload_most}
use Rattle.fields.proofs.Order.{at_stage}

-- ---- where the same is read

-- the place p of the trace is the place q of the part, with n bytes before the part: the bytes of a field from i on are the same, and the trace ends among them
-- where the part does
record Alike (bytes : List ℕ) (n : ℕ) (part : List ℕ) (i : ℕ) : Type 0 where
  pub byte : (p q : ℕ) → p ≡ n + q → i ≤ q → q < i + longest → byte_at bytes p ≡ byte_at part q
  pub ends : (p q : ℕ) → p ≡ n + q → q ≤ i + longest → ltb (length bytes) p ≡ ltb (length part) q
  pub more : ltb (n + i) (length bytes) ≡ ltb i (length part)

module _ {bytes : List ℕ} {n : ℕ} {part : List ℕ} {i : ℕ} (alike : Alike bytes n part i) where
  two_alike : (p q : ℕ) → p ≡ n + q → i ≤ q → q + 2 ≤ i + longest → two_at bytes p ≡ two_at part q
  two_alike p q e low high =
      λ j. alike.byte p q e low (omega arith) j * 256 + alike.byte (p + 1) (q + 1) (omega arith) (omega arith) (omega arith) j

  four_alike : (p q : ℕ) → p ≡ n + q → i ≤ q → q + 4 ≤ i + longest → four_at bytes p ≡ four_at part q
  four_alike p q e low high =
      λ j. two_alike p q e low (omega arith) j * 65536 + two_alike (p + 2) (q + 2) (omega arith) (omega arith) (omega arith) j

  tag_alike : byte_at bytes (n + i) ≡ byte_at part i
  tag_alike = alike.byte (n + i) i refl (omega arith) (omega arith)

  long_alike : two_at bytes (n + i + 1) ≡ two_at part (i + 1)
  long_alike = two_alike (n + i + 1) (i + 1) (omega arith) (omega arith) (omega arith)

  board_alike : (payload : ℕ) → board_at bytes (n + i + 3) payload ≡ board_at part (i + 3) payload
  board_alike payload = ap (λ (b : ℕ). cond (eqb payload 10) b 0) (two_alike (n + i + 3 + 8) (i + 3 + 8) (omega arith) (omega arith) (omega arith))

  sizes_alike : (payload : ℕ) → sizes_at bytes (n + i + 3) payload ≡ sizes_at part (i + 3) payload
  sizes_alike payload =
      λ j. record {
        n = two_alike (n + i + 3) (i + 3) (omega arith) (omega arith) (omega arith) j;
        k = two_alike (n + i + 3 + 2) (i + 3 + 2) (omega arith) (omega arith) (omega arith) j;
        w = two_alike (n + i + 3 + 4) (i + 3 + 4) (omega arith) (omega arith) (omega arith) j;
        r = two_alike (n + i + 3 + 6) (i + 3 + 6) (omega arith) (omega arith) (omega arith) j;
        b = board_alike payload j;
      }

  event_alike : (tag : ℕ) → event_at tag bytes (n + i + 3 + 4) ≡ event_at tag part (i + 3 + 4)
  unfolding event_at
  event_alike tag = rw (at 0 (omega arith), at 1 (omega arith), at 2 (omega arith), at 3 (omega arith))
    where
      at : (j : ℕ) → j < 4 → byte_at bytes (n + i + 3 + 4 + j) ≡ byte_at part (i + 3 + 4 + j)
      at j h = alike.byte (n + i + 3 + 4 + j) (i + 3 + 4 + j) (omega arith) (omega arith) (omega arith)

  refusals_alike : (reader : Reader) → refusals bytes (n + i) reader ≡ refusals part i reader
  unfolding refusals
  refusals_alike reader =
      rw (
        tag_alike,
        alike.ends (n + i + 3) (i + 3) (omega arith) (omega arith),
        long_alike,
        alike.ends (n + i + 3 + payload_at part i) (i + 3 + payload_at part i) (omega arith) (omega (arith, payload_most (byte_at part i) (two_at part (i + 1)))),
        sizes_alike (payload_at part i),
        four_alike (n + i + 3) (i + 3) (omega arith) (omega arith) (omega arith),
      )

  -- what was read in the part, as it stands in the whole trace
  abbrev on : Read → Read
  on x = record { field = x.field; next = n + x.next; reader = x.reader }

  abbrev read_on : Result Read Refusal → Result Read Refusal
  read_on (Ok x) = Ok (on x)
  read_on (Err why) = Err why

  taken_alike : (reader : Reader) → taken bytes (n + i) reader ≡ on (taken part i reader)
  unfolding taken
  taken_alike reader = by_tag (eqb tag sizes_tag) refl (eqb tag end_tag) refl
    where
      tag : ℕ
      tag = byte_at part i

      next : n + i + 3 + payload_at part i ≡ n + (i + 3 + payload_at part i)
      next = omega arith

      by_tag : (x : Bool) → eqb tag sizes_tag ≡ x → (y : Bool) → eqb tag end_tag ≡ y → taken bytes (n + i) reader ≡ on (taken part i reader)
      by_tag true is_sizes y is_end = rw (tag_alike, long_alike, is_sizes, sizes_alike (payload_at part i), next)
      by_tag false is_sizes true is_end = rw (tag_alike, long_alike, is_sizes, is_end, next)
      by_tag false is_sizes false is_end = rw (tag_alike, long_alike, is_sizes, is_end, four_alike (n + i + 3) (i + 3) (omega arith) (omega arith) (omega arith), event_alike tag, next)

  decide_alike : (tests : List Test) (x : Read) → decide tests (on x) ≡ read_on (decide tests x)
  unfolding decide
  decide_alike [] x = refl
  decide_alike (t ∷ tests) x = by_test t.when (decide_alike tests x)
    where
      by_test : (b : Bool) → decide tests (on x) ≡ read_on (decide tests x)
          → cond b (Err t.why) (decide tests (on x)) ≡ read_on (cond b (Err t.why) (decide tests x))
      by_test true rest = refl
      by_test false rest = rest

  field_alike : (reader : Reader) → field_at bytes (n + i) reader ≡ read_on (field_at part i reader)
  unfolding field_at
  field_alike reader =
      (λ j. decide (refusals_alike reader j) (taken_alike reader j)) ∙ decide_alike (refusals part i reader) (taken part i reader)

  end_alike : (reader : Reader) → behind_end bytes (n + i) reader ≡ read_on (behind_end part i reader)
  unfolding behind_end
  end_alike reader = by_more (ltb i (length part)) refl
    where
      by_more : (b : Bool) → ltb i (length part) ≡ b → behind_end bytes (n + i) reader ≡ read_on (behind_end part i reader)
      by_more true e = rw (alike.more, e)
      by_more false e = rw (alike.more, e)

  -- a refusal's place is moved too
  placed_on : (x : Result Read Refusal) → placed (n + i) (read_on x) ≡ moved n (placed i x)
  unfolding moved
  placed_on (Ok x) = refl
  placed_on (Err why) = refl

  read_alike : (reader : Reader) → read_at bytes (n + i) reader ≡ moved n (read_at part i reader)
  unfolding read_at
  read_alike reader = ap (placed (n + i)) (by_stage reader.stage) ∙ placed_on (at_stage part i reader reader.stage)
    where
      by_stage : (stage : Stage) → at_stage bytes (n + i) reader stage ≡ read_on (at_stage part i reader stage)
      by_stage First = field_alike reader
      by_stage Events = field_alike reader
      by_stage Ended = end_alike reader

-- ---- the part that is at hand

-- two tests of an order are one where both sides come out alike
same_test : (a b c d : ℕ) → (a < b → c < d) → (b ≤ a → d ≤ c) → ltb a b ≡ ltb c d
same_test a b c d below above =
    ⊎_elim (λ h. lt-ltb a b h ∙ sym (lt-ltb c d (below h))) (λ h. le-ltb a b h ∙ sym (le-ltb c d (above h))) (below_or_not a b)

-- the part has the bytes of a field, or nothing comes behind it
module _ (before window behind : List ℕ) (i : ℕ) (enough : (i + longest ≤ length window) ⊎ (behind ≡ [])) where
  part_alike : Alike (before ++ window ++ behind) (length before) window i
  part_alike =
      record {
        byte = λ p q e low high. rw (e, append_assoc) (get_or-append-add before (window ++ behind) q 0 ∙ in_window q high);
        ends = λ p q e high. same_test (length (before ++ window ++ behind)) p (length window) q (λ h. omega (arith, long, room)) (λ h. omega (arith, long, room));
        more = same_test (length before + i) (length (before ++ window ++ behind)) i (length window) (λ h. omega (arith, long, room)) (λ h. omega (arith, long, room));
      }
    where
      long : length (before ++ window ++ behind) ≡ length before + length window + length behind
      long = simp length-append

      -- what is missing in the part for a field does not come behind it
      room : min (length behind) (i + longest - length window) ≡ 0
      room = ⊎_elim (λ h. omega arith) (λ h. omega (arith, ap length h)) enough

      in_window : (q : ℕ) → q < i + longest → byte_at (window ++ behind) q ≡ byte_at window q
      in_window q high =
          ⊎_elim
          (λ h. get_or-append window behind 0 q (omega arith))
          (λ h. ap (λ xs. byte_at (window ++ xs) q) h ∙ ap (λ xs. byte_at xs q) (append-nil window))
          enough

  pub read_in_part : (reader : Reader) → read_at (before ++ window ++ behind) (length before + i) reader ≡ moved (length before) (read_at window i reader)
  read_in_part = read_alike part_alike
