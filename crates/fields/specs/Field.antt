-- "The trace file" of document 01, with the fields of document 02: what stands at a place of a trace, and the order in which a field is refused.
--     byte_at, two_at, four_at     numbers of one, two and four bytes
--     payload_of, payload_for, payload_at     the tags, with their lengths
--     sizes_at, event_at          what the payload of a field says
--     misplaced                 "first field not the sizes, or sizes a second time"
--     payload_test, refusals     the tests of a field, in the document's order
--     taken, taken_or_not, field_at, behind_end     a field that nothing refuses, one whose payload is whole, any field, and what comes behind the end
--     WholeAt                   the payload is whole
--     refused_at, placed         why a trace is refused, with the place
--     read_at                    what stands at a place
--     EventSized                how long the event field is that stands there
-- Assumes nothing.
use Rattle.std.specs.Prelude.{ℕ, ◌+◌, ◌*◌, ◌≤◌, ◌<◌, ◌≡◌, Bool, true, cond, not, ◌&&◌, ◌||◌, List, [], ◌∷◌, eqb, ltb, length, get_or, Option, IfSome, IfNone, Result, Ok, Err}
use Rattle.rules.specs.declared.Sizes.{Sizes}
use Rattle.rules.specs.declared.Event.{Event}
use Rattle.rules.specs.declared.Event.TheVariants.{Make, Move, Drop, Load, Store, Look, Post, Collect}
use Rattle.rules.specs.declared.Refusal.{Refusal}
use Rattle.rules.specs.declared.Refusal.TheVariants.{WrongSize, WrongTag, WrongLength, StopsShort, WrongStep, ExtraByte, WrongCount}
use Rattle.rules.specs.Size.{in_range}
use Rattle.rules.specs.Outcome.{Test}
use Rattle.fields.specs.declared.Stage.{Stage}
use Rattle.fields.specs.declared.Stage.TheVariants.{First, Events, Ended}
use Rattle.fields.specs.declared.Reader.{Reader}
use Rattle.fields.specs.declared.Field.TheVariants as field
use Rattle.fields.specs.declared.Read.{Read}
use Rattle.fields.specs.declared.RefusedAt.{RefusedAt}

-- ---- numbers

-- "all numbers most significant byte first"
abbrev pub byte_at : List ℕ → ℕ → ℕ
byte_at bytes i = get_or bytes i 0

abbrev pub two_at : List ℕ → ℕ → ℕ
two_at bytes i = byte_at bytes i * 256 + byte_at bytes (i + 1)

abbrev pub four_at : List ℕ → ℕ → ℕ
four_at bytes i = two_at bytes i * 65536 + two_at bytes (i + 2)

-- ---- the kinds of field

-- "01: N, K, W, R, two bytes each (length 8)."
abbrev pub sizes_tag : ℕ
sizes_tag = 0x01

-- "7F: number of events, four bytes (4)."
abbrev pub end_tag : ℕ
end_tag = 0x7F

-- how long the payload of a tag is, of the sizes without a board; 0 where there is no such tag
unfoldable pub payload_of : ℕ → ℕ
payload_of tag =
    cond (eqb tag sizes_tag) 8
    -- "Events begin with a four-byte step number, then one byte each: 10 make w r (6), 11 move w r q (7), 12 drop w r (6), 13 load w r q f (8), 14 store w q f r
    -- (8), 20 collect (4)."
    (cond (eqb tag 0x10) 6
    (cond (eqb tag 0x11) 7
    (cond (eqb tag 0x12) 6
    (cond (eqb tag 0x13) 8
    (cond (eqb tag 0x14) 8
    -- "15 look w r e, 16 post w e r (length 7 each)" (document 02, request 5)
    (cond (eqb tag 0x15) 7
    (cond (eqb tag 0x16) 7
    (cond (eqb tag 0x20) 4
    (cond (eqb tag end_tag) 4
    0)))))))))

-- "The sizes field with length 10 carries B at its end; length 8 means B = 0." (document 02, request 5): how long the payload is of a tag whose field has this
-- length, if the length is right at all
unfoldable pub payload_for : ℕ → ℕ → ℕ
payload_for tag long = cond (eqb tag sizes_tag && eqb long 10) 10 (payload_of tag)

-- "Each field: tag .., payload length in two bytes": of the field at a place
abbrev pub payload_at : List ℕ → ℕ → ℕ
payload_at bytes place = payload_for (byte_at bytes place) (two_at bytes (place + 1))

-- "The sizes field with length 10 carries B at its end; length 8 means B = 0." (document 02, request 5)
abbrev pub board_at : List ℕ → ℕ → ℕ → ℕ
board_at bytes i payload = cond (eqb payload 10) (two_at bytes (i + 8)) 0

-- the sizes that stand at a place, in a payload so long
abbrev pub sizes_at : List ℕ → ℕ → ℕ → Sizes
sizes_at bytes i payload =
    record { n = two_at bytes i; k = two_at bytes (i + 2); w = two_at bytes (i + 4); r = two_at bytes (i + 6); b = board_at bytes i payload }

-- the event of a tag, whose bytes behind the step number stand at a place
unfoldable pub event_at : ℕ → List ℕ → ℕ → Event
event_at tag bytes i =
    let b : ℕ → ℕ = (λ j. byte_at bytes (i + j)) in
    cond (eqb tag 0x10) (Make (b 0) (b 1))
    (cond (eqb tag 0x11) (Move (b 0) (b 1) (b 2))
    (cond (eqb tag 0x12) (Drop (b 0) (b 1))
    (cond (eqb tag 0x13) (Load (b 0) (b 1) (b 2) (b 3))
    (cond (eqb tag 0x14) (Store (b 0) (b 1) (b 2) (b 3))
    (cond (eqb tag 0x15) (Look (b 0) (b 1) (b 2))
    (cond (eqb tag 0x16) (Post (b 0) (b 1) (b 2))
    Collect))))))

-- ---- the refusals of a field

-- "first field not the sizes, or sizes a second time"
abbrev pub misplaced : Stage → ℕ → Bool
misplaced First tag = not (eqb tag sizes_tag)
misplaced Events tag = eqb tag sizes_tag
misplaced Ended tag = true

-- "then 1 for sizes, 10 for an event, 12 for the end": what is asked of the payload
abbrev pub payload_test : ℕ → ℕ → List ℕ → ℕ → Reader → Test
payload_test tag payload bytes i reader =
    cond (eqb tag sizes_tag)
    (record { when = not (in_range (sizes_at bytes i payload)); why = WrongSize })
    (cond (eqb tag end_tag)
    -- "end field's count is not the last step number (0 if no events)"
    (record { when = not (eqb (four_at bytes i) reader.step); why = WrongCount })
    -- "step number not the previous plus one (the first is 1; nothing follows 4,294,967,295)"
    (record { when = not (eqb (four_at bytes i) (reader.step + 1)); why = WrongStep }))

-- "Order for a field: fewer than three bytes left 9; 7; 8; payload not whole 9; then 1 for sizes, 10 for an event, 12 for the end."
unfoldable pub refusals : List ℕ → ℕ → Reader → List Test
refusals bytes place reader =
    let tag : ℕ = byte_at bytes place in
    let payload : ℕ = payload_at bytes place in
    record { when = ltb (length bytes) (place + 3); why = StopsShort }
    -- "tag unknown, first field not the sizes, or sizes a second time"
    ∷ record { when = eqb (payload_of tag) 0 || misplaced reader.stage tag; why = WrongTag }
    -- "field length not the tag's"
    ∷ record { when = not (eqb (two_at bytes (place + 1)) payload); why = WrongLength }
    ∷ record { when = ltb (length bytes) (place + 3 + payload); why = StopsShort }
    ∷ payload_test tag payload bytes (place + 3) reader
    ∷ []

-- ---- what stands at a place

-- the first test that is true refuses, else the field is taken
unfoldable pub decide : List Test → Read → Result Read Refusal
decide [] taken = Ok taken
decide (t ∷ tests) taken = cond t.when (Err t.why) (decide tests taken)

-- a field that nothing refuses
unfoldable pub taken : List ℕ → ℕ → Reader → Read
taken bytes place reader =
    let tag : ℕ = byte_at bytes place in
    let payload : ℕ = payload_at bytes place in
    let i : ℕ = place + 3 in
    let next : ℕ = i + payload in
    cond (eqb tag sizes_tag)
    (record { field = field.Sizes (sizes_at bytes i payload); next = next; reader = record { stage = Events; step = 0 } })
    (cond (eqb tag end_tag)
    (record { field = field.End; next = next; reader = record { stage = Ended; step = reader.step } })
    (record { field = field.Event (four_at bytes i) (event_at tag bytes (i + 4)); next = next; reader = record { stage = Events; step = four_at bytes i } }))

-- "a byte after the end field"
unfoldable pub behind_end : List ℕ → ℕ → Reader → Result Read Refusal
behind_end bytes place reader = cond (ltb place (length bytes)) (Err ExtraByte) (Ok (record { field = field.Nothing; next = place; reader = reader }))

-- a field whose payload is whole
unfoldable pub taken_or_not : List ℕ → ℕ → Reader → Result Read Refusal
taken_or_not bytes place reader = decide (payload_test (byte_at bytes place) (payload_at bytes place) bytes (place + 3) reader ∷ []) (taken bytes place reader)

-- the tag is known, and the bytes of its payload are there
pub record WholeAt (bytes : List ℕ) (place : ℕ) : Type 0 where
  pub tag : payload_of (byte_at bytes place) ≡ 0 → ⊥
  pub whole : place + 3 + payload_at bytes place ≤ length bytes

unfoldable pub field_at : List ℕ → ℕ → Reader → Result Read Refusal
field_at bytes place reader = decide (refusals bytes place reader) (taken bytes place reader)

-- "the offset of the field's tag or where it would stand (11: of the extra byte)"
abbrev pub refused_at : {A : Type 0} → Refusal → ℕ → Result A RefusedAt
refused_at why place = Err (record { why = why; place = place })

-- what is read at a place, or refused there
abbrev pub placed : {A : Type 0} → ℕ → Result A Refusal → Result A RefusedAt
placed place (Ok x) = Ok x
placed place (Err why) = refused_at why place

unfoldable pub read_at : List ℕ → ℕ → Reader → Result Read RefusedAt
read_at bytes place reader =
    placed place (elim reader.stage [ First ↦ field_at bytes place reader | Events ↦ field_at bytes place reader | Ended ↦ behind_end bytes place reader ])

-- so long is the event field that stands at a place behind a step, where one does
pub record EventSized (bytes : List ℕ) (place step : ℕ) (size : Option ℕ) : Type 0 where
  pub none : IfNone size ((x : Read) (n : ℕ) (e : Event) → read_at bytes place (record { stage = Events; step = step }) ≡ Ok x → x.field ≡ field.Event n e → ⊥)
  pub reads : IfSome size (λ n.
      read_at bytes place (record { stage = Events; step = step })
      ≡ Ok (record {
        field = field.Event (step + 1) (event_at (byte_at bytes place) bytes (place + 7));
        next = place + n;
        reader = record { stage = Events; step = step + 1 };
      }))
  pub whole : IfSome size (λ n. (n ≡ 3 + payload_of (byte_at bytes place)) × (place + n ≤ length bytes))
  -- "nothing follows 4,294,967,295"
  pub follows : IfSome size (λ n. step + 1 < 4294967296)
