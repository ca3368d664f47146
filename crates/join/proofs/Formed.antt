-- Fields by their own bytes: what a field says stays where its bytes stand elsewhere.
--     Alike, says_alike, alike_out, alike_in     the bytes of a field, at two places
--     Formed, formed_here, formed_there  an event by the bytes of its field
--     events_formed                      the events of a part that is whole
--     SaysSizes, Opens, opens_here, opens_there     a sizes field by its bytes
-- Assumes nothing.
use Prim.Native.Nat.{ℕ, zero, suc, ◌+◌, ◌-◌, ◌*◌, ◌≤◌, ◌<◌}
use mathlib.Core.Path.{◌≡◌, refl, sym, ap, ◌∙◌, subst}
use mathlib.Core.Bool.{Bool, true, false, cond, not}
use mathlib.Core.List.{List, ◌++◌}
use native.Mathlib.Omega.{arith}
use borrow.Author.Tests.{ltb-false, eqb-true, not-false, eq-eqb}
use lib.Dec.{eqb}
use lib.ListN.{length, get_or, take, drop, length-append, length-take, length-drop, get_or-append}
use lib.Seq.{get_or-take, get_or-drop, get_or-append-add}
use Rattle.std.specs.Prelude.{Ok}
use Rattle.rules.specs.declared.Sizes.{Sizes}
use Rattle.rules.specs.Size.{in_range}
use Rattle.rules.specs.Sound.{Each}
use Rattle.laws.proofs.Tests.{never}
use Rattle.laws.proofs.Refusals.{Unrefused}
use Rattle.fields.specs.declared.Stage.TheVariants.{First}
use Rattle.fields.specs.declared.Field.TheVariants as field
use Rattle.fields.specs.declared.Read.{Read}
use Rattle.fields.specs.Field.{byte_at, two_at, four_at, sizes_tag, end_tag, payload_of, payload_for, payload_at, board_at, sizes_at, refusals, taken, placed, read_at}
use Rattle.fields.specs.Part.{is_taken}
use Rattle.fields.proofs.Tags.{tag_least, sizes_payload}
use Rattle.fields.proofs.Order.{Headed, payload_whole, read_stage}
use Rattle.fields.proofs.Payload.{sizes_read_lem}
use Rattle.fields.proofs.Taken.{OfRead, read_holds}
use Rattle.fields.proofs.Event.{Says}
use Rattle.fields.proofs.Comes.{sizes_read}
use Rattle.join.specs.Part.{Numbered, between, at_first, opening, events_told}
use Rattle.join.proofs.Reading.{opening_reads}
use Rattle.join.proofs.Told.{Turned, at_end, an_event, told_turn}

-- ---- the same bytes at two places

-- the bytes from p on are those from q on, so many of them
pub record Alike (a : List ℕ) (p : ℕ) (b : List ℕ) (q size : ℕ) : Type 0 where
  pub byte : (i j k : ℕ) → i ≡ p + k → j ≡ q + k → k < size → byte_at b j ≡ byte_at a i
  pub inside : q + size ≤ length b

module _ {a b : List ℕ} {p q size : ℕ} (alike : Alike a p b q size) where
  two_alike : (i j k : ℕ) → i ≡ p + k → j ≡ q + k → k + 2 ≤ size → two_at b j ≡ two_at a i
  two_alike i j k e f h =
      λ x. alike.byte i j k e f (omega arith) x * 256 + alike.byte (i + 1) (j + 1) (k + 1) (omega arith) (omega arith) (omega arith) x

  four_alike : (i j k : ℕ) → i ≡ p + k → j ≡ q + k → k + 4 ≤ size → four_at b j ≡ four_at a i
  four_alike i j k e f h =
      λ x. two_alike i j k e f (omega arith) x * 65536 + two_alike (i + 2) (j + 2) (k + 2) (omega arith) (omega arith) (omega arith) x

  tag_alike : 0 < size → byte_at b q ≡ byte_at a p
  tag_alike h = alike.byte p q 0 (omega arith) (omega arith) h

  pub says_alike : {step : ℕ} → Says a p step → 3 + payload_of (byte_at a p) ≤ size → Says b q step
  says_alike says h =
      let tag = tag_alike (omega arith) in
      let long = tag_least (byte_at a p) says.known in
      let payload : payload_of (byte_at b q) ≡ payload_of (byte_at a p) = ap payload_of tag in
      record {
        begins = omega (arith, alike.inside);
        known = λ none. says.known (sym payload ∙ none);
        no_sizes = λ e. says.no_sizes (sym tag ∙ e);
        no_end = λ e. says.no_end (sym tag ∙ e);
        long = two_alike (p + 1) (q + 1) 1 refl refl (omega arith) ∙ says.long ∙ sym payload;
        whole = omega (arith, alike.inside, payload);
        next = four_alike (p + 3) (q + 3) 3 refl refl (omega arith) ∙ says.next;
      }

-- a field taken out of its place, and put between others
pub alike_out : (bytes : List ℕ) (place size : ℕ) → place + size ≤ length bytes → Alike bytes place (between bytes place (place + size)) 0 size
alike_out bytes place size h =
    record {
      byte = λ i j k e f less.
          let n : place + size - place ≡ size = omega arith in
          ap (λ (m : ℕ). get_or (take m (drop place bytes)) j 0) n
          ∙ get_or-take size (drop place bytes) j 0 (omega arith)
          ∙ get_or-drop place bytes j 0
          ∙ ap (λ (m : ℕ). get_or bytes m 0) (let on : place + j ≡ i = omega arith in on);
      inside = simp (length-take, length-drop) (omega arith);
    }

pub alike_in : (before field behind : List ℕ) → Alike field 0 (before ++ (field ++ behind)) (length before) (length field)
alike_in before field behind =
    record {
      byte = λ i j k e f less.
          ap (λ (m : ℕ). get_or (before ++ (field ++ behind)) m 0) f
          ∙ get_or-append-add before (field ++ behind) k 0
          ∙ get_or-append field behind 0 k less
          ∙ ap (λ (m : ℕ). get_or field m 0) (let on : k ≡ i = omega arith in on);
      inside = simp length-append (omega arith);
    }

-- ---- an event

-- the bytes of an event's field say its number
pub record Formed (e : Numbered) : Type 0 where
  pub step : ℕ
  pub number_is : e.number ≡ step + 1
  pub says : Says e.bytes 0 step
  pub long : length e.bytes ≡ 3 + payload_of (byte_at e.bytes 0)

pub formed_here : (bytes : List ℕ) (place step : ℕ) {next : ℕ} → Says bytes place step → next ≡ place + (3 + payload_of (byte_at bytes place))
    → Formed (record { number = step + 1; bytes = between bytes place next })
formed_here bytes place step says is = subst (λ (n : ℕ). Formed (record { number = step + 1; bytes = between bytes place n })) (sym is) here
  where
    size : ℕ
    size = 3 + payload_of (byte_at bytes place)

    out : Alike bytes place (between bytes place (place + size)) 0 size
    out = alike_out bytes place size (omega (arith, says.whole))

    here : Formed (record { number = step + 1; bytes = between bytes place (place + size) })
    here =
        record {
          step = step;
          number_is = refl;
          says = says_alike out says (omega arith);
          long =
              (let n : length (between bytes place (place + size)) ≡ size = simp (length-take, length-drop) (omega (arith, says.whole)) in n)
              ∙ ap (λ (tag : ℕ). 3 + payload_of tag) (sym (tag_alike out (omega arith)));
        }

-- where it stands among other bytes it is read there
pub formed_there : (before behind : List ℕ) {e : Numbered} (f : Formed e)
    → Says (before ++ (e.bytes ++ behind)) (length before) f.step
    × (length before + length e.bytes ≡ length before + (3 + payload_of (byte_at (before ++ (e.bytes ++ behind)) (length before))))
formed_there before behind {e} f =
    let inside = alike_in before e.bytes behind in (
      says_alike inside f.says (omega (arith, f.long)),
      ap (λ (n : ℕ). length before + n) (f.long ∙ ap (λ (tag : ℕ). 3 + payload_of tag) (sym (tag_alike inside (omega (arith, f.long))))),
    )

pub events_formed : (turns : ℕ) (bytes : List ℕ) (place last events : ℕ) {rest : List Numbered} → events_told turns bytes place last events ≡ Ok rest → Each Formed rest
unfolding events_told
events_formed zero bytes place last events told = absurd (let z : ◌≡◌ {A = ℕ} 0 1 = cc in omega arith)
events_formed (suc turns) bytes place last events told =
    by_turn (told_turn bytes place last events turns told) (λ step next more rest. events_formed turns bytes next (step + 1) (events + 1) rest)
  where
    by_turn : {rest : List Numbered} → Turned bytes place last events turns rest
        → ((step next : ℕ) (more : List Numbered) → events_told turns bytes next (step + 1) (events + 1) ≡ Ok more → Each Formed more) → Each Formed rest
    by_turn (at_end e) rest = tt
    by_turn (an_event step next more above says behind told) rest = (formed_here bytes place step says behind, rest step next more told)

-- ---- a sizes field

-- the bytes of a sizes field: "The sizes field with length 10 carries B at its end; length 8 means B = 0." (document 02, request 5)
pub record SaysSizes (bytes : List ℕ) (place : ℕ) (s : Sizes) : Type 0 where
  pub tag : byte_at bytes place ≡ sizes_tag
  pub long : two_at bytes (place + 1) ≡ payload_at bytes place
  pub whole : place + 3 + payload_at bytes place ≤ length bytes
  pub sizes : s ≡ sizes_at bytes (place + 3) (payload_at bytes place)
  pub range : in_range s ≡ true

-- a sizes field, and no more
pub record Opens (bytes : List ℕ) (s : Sizes) : Type 0 where
  pub says : SaysSizes bytes 0 s
  pub long : length bytes ≡ 3 + payload_at bytes 0

module _ {a b : List ℕ} {p q size : ℕ} (alike : Alike a p b q size) where
  payload_alike : 3 ≤ size → payload_at b q ≡ payload_at a p
  payload_alike h =
      let tag = tag_alike alike (omega arith) in
      let long = two_alike alike (p + 1) (q + 1) 1 refl refl (omega arith) in
      λ j. payload_for (tag j) (long j)

  -- B stands there in a payload of length 10 alone
  board_alike : (payload : ℕ) → 3 + payload ≤ size → board_at b (q + 3) payload ≡ board_at a (p + 3) payload
  board_alike payload h = by_length (eqb payload 10) refl
    where
      by_length : (x : Bool) → eqb payload 10 ≡ x → cond x (two_at b (q + 3 + 8)) 0 ≡ cond x (two_at a (p + 3 + 8)) 0
      by_length true is = let ten = eqb-true payload 10 is in two_alike alike (p + 3 + 8) (q + 3 + 8) 11 (omega arith) (omega arith) (omega arith)
      by_length false is = refl

  sizes_alike : {s : Sizes} → SaysSizes a p s → 3 + payload_at a p ≤ size → SaysSizes b q s
  sizes_alike says h =
      record {
        tag = tag_alike alike (omega arith) ∙ says.tag;
        long = two_alike alike (p + 1) (q + 1) 1 refl refl (omega arith) ∙ says.long ∙ sym payload;
        whole = omega (arith, alike.inside, payload);
        sizes = says.sizes ∙ sym same ∙ ap (sizes_at b (q + 3)) (sym payload);
        range = says.range;
      }
    where
      payload : payload_at b q ≡ payload_at a p
      payload = payload_alike (omega arith)

      least : 8 ≤ payload_at a p
      least = sizes_payload (byte_at a p) (two_at a (p + 1)) says.tag

      same : sizes_at b (q + 3) (payload_at a p) ≡ sizes_at a (p + 3) (payload_at a p)
      same =
          λ j. record {
            n = two_alike alike (p + 3) (q + 3) 3 refl refl (omega (arith, least)) j;
            k = two_alike alike (p + 3 + 2) (q + 3 + 2) 5 (omega arith) (omega arith) (omega (arith, least)) j;
            w = two_alike alike (p + 3 + 4) (q + 3 + 4) 7 (omega arith) (omega arith) (omega (arith, least)) j;
            r = two_alike alike (p + 3 + 6) (q + 3 + 6) 9 (omega arith) (omega arith) (omega (arith, least)) j;
            b = board_alike (payload_at a p) h j;
          }

module _ (bytes : List ℕ) (place : ℕ) where
  tag : ℕ
  tag = byte_at bytes place

  -- what is known where a sizes field is read
  abbrev SizesSay : Read → Type 0
  SizesSay x = (s : Sizes) → x.field ≡ field.Sizes s → SaysSizes bytes place s × (x.next ≡ place + (3 + payload_at bytes place))

  sizes_say : {x : Read} → read_at bytes place at_first ≡ Ok x → SizesSay x
  unfolding taken refusals tag
  sizes_say read =
      subst (OfRead SizesSay) read
      (read_holds place at_first (OfRead SizesSay) (λ why. tt)
      bytes
      (λ s h. absurd (never (ap is_taken h)))
      (by_tag (eqb tag sizes_tag) refl (eqb tag end_tag) refl))
    where
      by_tag : (x : Bool) → eqb tag sizes_tag ≡ x → (y : Bool) → eqb tag end_tag ≡ y → Unrefused (refusals bytes place at_first)
          → SizesSay (taken bytes place at_first)
      by_tag true is_sizes y is_end passed s h =
          let is = eqb-true tag sizes_tag is_sizes in
          let read = rw is_sizes at h in
          let sizes : sizes_at bytes (place + 3) (payload_at bytes place) ≡ s = cc in
          let test = rw is_sizes at passed.1.1.1.1.0 in (
            record {
              tag = is;
              long = eqb-true (two_at bytes (place + 1)) (payload_at bytes place) (not-false _ passed.1.1.0);
              whole = ltb-false (length bytes) (place + 3 + payload_at bytes place) passed.1.1.1.0;
              sizes = sym sizes;
              range = rw (← sizes) (not-false _ test);
            },
            rw is_sizes (omega arith),
          )
      by_tag false is_sizes true is_end passed s h =
          let other = rw (is_sizes, is_end) at h in
          absurd (let z : ◌≡◌ {A = ℕ} 0 1 = cc in omega arith)
      by_tag false is_sizes false is_end passed s h =
          let other = rw (is_sizes, is_end) at h in
          absurd (let z : ◌≡◌ {A = ℕ} 0 1 = cc in omega arith)

  -- and where its bytes say so, it is read
  sizes_there : {s : Sizes} → SaysSizes bytes place s → read_at bytes place at_first ≡ Ok (sizes_read s (place + (3 + payload_at bytes place)))
  unfolding payload_of
  sizes_there {s} says =
      let on : place + (3 + payload_at bytes place) ≡ place + 3 + payload_at bytes place = omega arith in
      sym
      (ap (λ (n : ℕ). Ok (sizes_read s n)) on
      ∙ ap (placed place) (sizes_read_lem bytes place at_first false refl says.tag says.sizes (sym says.range) refl ∙ payload_whole head says.whole)
      ∙ read_stage bytes place at_first First refl)
    where
      head : Headed bytes place at_first (payload_at bytes place)
      head =
          record {
            begins = omega (arith, says.whole);
            says = refl;
            known = λ none. omega (arith, ap payload_of says.tag);
            placed = ap not (eq-eqb (byte_at bytes place) sizes_tag says.tag);
            long = says.long;
          }

pub opens_here : (bytes : List ℕ) (place : ℕ) {s : Sizes} {next : ℕ} → opening bytes place ≡ Ok (record { sizes = s; next = next }) → Opens (between bytes place next) s
opens_here bytes place {s} {next} is =
    let says = sizes_say bytes place (opening_reads bytes place is) s refl in
    let size : ℕ = 3 + payload_at bytes place in
    let room : place + size ≤ length bytes = omega (arith, says.0.whole) in
    let out = alike_out bytes place size room in
    let long : length (between bytes place (place + size)) ≡ size = simp (length-take, length-drop) (omega arith) in
    subst (λ (n : ℕ). Opens (between bytes place n) s) (sym says.1)
    (record {
      says = sizes_alike out says.0 (omega arith);
      long = long ∙ ap (λ (n : ℕ). 3 + n) (sym (payload_alike out (omega arith)));
    })

pub opens_there : (before behind : List ℕ) {bytes : List ℕ} {s : Sizes} → Opens bytes s
    → read_at (before ++ (bytes ++ behind)) (length before) at_first ≡ Ok (sizes_read s (length before + length bytes))
opens_there before behind {bytes} {s} opens =
    let inside = alike_in before bytes behind in
    sizes_there (before ++ (bytes ++ behind)) (length before) (sizes_alike inside opens.says (omega (arith, opens.long)))
    ∙ ap (λ (n : ℕ). Ok (sizes_read s (length before + n)))
    (ap (λ (n : ℕ). 3 + n) (payload_alike inside (omega (arith, opens.long))) ∙ sym opens.long)
