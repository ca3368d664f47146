-- One part of a trace: "A part's step numbers strictly rise and its end field carries how many events it holds" (request 3 of document 02). A part is read where it
-- lies: it starts at a place of the bytes and ends with them, so that every place is "counted in the whole slice".
--     Numbered, Part             an event with its step number, and a part that is whole
--     Told, also                 what reading comes to
--     number_at, expected        what document 01's reader is told to expect in a part
--     between                    the bytes of a field
--     opening                    the sizes field of a part
--     events_told, part_told     the events of a part behind a place, and a whole part
--     parts_told                 all parts, end to end
-- Assumes nothing.
use Rattle.std.specs.Prelude.{ℕ, zero, suc, ◌+◌, ◌-◌, cond, List, [], ◌∷◌, eqb, ltb, length, take, drop, Result, Ok, Err}
use Rattle.rules.specs.declared.Sizes.{Sizes}
use Rattle.rules.specs.declared.Refusal.TheVariants.{StopsShort, ExtraByte}
use Rattle.fields.specs.declared.Stage.TheVariants.{First, Events}
use Rattle.fields.specs.declared.Field.TheVariants as field
use Rattle.fields.specs.declared.Reader.{Reader}
use Rattle.fields.specs.declared.RefusedAt.{RefusedAt}
use Rattle.fields.specs.Field.{byte_at, four_at, end_tag, refused_at, read_at}
use Rattle.join.specs.declared.Opening.{Opening}

-- an event: its step number, and its field "byte for byte"
pub record Numbered : Type 0 where
  pub number : ℕ
  pub bytes : List ℕ

-- a whole part: its sizes, its sizes field byte for byte, and its events
pub record Part : Type 0 where
  pub sizes : Sizes
  pub field : List ℕ
  pub events : List Numbered

-- what reading comes to: why it is refused and where, or what was read
abbrev pub Told : Type 0 → Type 0
Told A = Result A RefusedAt

-- what was read, and more
abbrev pub also : {A B : Type 0} → (A → B) → Result A RefusedAt → Result B RefusedAt
also f (Err r) = Err r
also f (Ok x) = Ok (f x)

-- the number that a field begins with; 0 where its bytes are not there
unfoldable pub number_at : List ℕ → ℕ → ℕ
number_at bytes place = cond (ltb (length bytes) (place + 7)) 0 (four_at bytes (place + 3))

-- "10 now means not above the part's previous number (0 before the first) and 12 a wrong count of its events". Document 01's reader asks that an event's number is the
-- last step number plus one, and an end field's count that number. In a part it is given as the last step number: before an end field how many events there were, before
-- an event whose number is above the previous one the number below it, and else the previous one.
unfoldable pub expected : List ℕ → ℕ → ℕ → ℕ → ℕ
expected bytes place last events =
    cond (eqb (byte_at bytes place) end_tag) events
    (cond (ltb last (number_at bytes place)) (number_at bytes place - 1) last)

-- the bytes from a place up to another
abbrev pub between : List ℕ → ℕ → ℕ → List ℕ
between bytes place next = take (next - place) (drop place bytes)

-- the events of a part from a place on, behind its previous number and so many events, and its end. Each turn takes a field, and a part has fewer fields than bytes
unfoldable pub events_told : ℕ → List ℕ → ℕ → ℕ → ℕ → Told (List Numbered)
events_told zero bytes place last events = refused_at StopsShort place
events_told (suc turns) bytes place last events =
    elim (read_at bytes place (record { stage = Events; step = expected bytes place last events })) [
      | Err r ↦ Err r
      | Ok x ↦ elim x.field [
        | field.Event number e ↦
            also (λ more. record { number = number; bytes = between bytes place x.next } ∷ more) (events_told turns bytes x.next number (events + 1))
        -- 11: "a byte after the end field"
        | field.End ↦ cond (ltb x.next (length bytes)) (refused_at ExtraByte x.next) (Ok [])
        | field.Sizes s ↦ refused_at StopsShort place
        | field.Nothing ↦ refused_at StopsShort place
      ]
    ]

abbrev pub at_first : Reader
at_first = record { stage = First; step = 0 }

-- the sizes field that a part begins with
unfoldable pub opening : List ℕ → ℕ → Told Opening
opening bytes start =
    elim (read_at bytes start at_first) [
      | Err r ↦ Err r
      | Ok x ↦ elim x.field [
        | field.Sizes s ↦ Ok (record { sizes = s; next = x.next })
        | field.Event number e ↦ refused_at StopsShort start
        | field.End ↦ refused_at StopsShort start
        | field.Nothing ↦ refused_at StopsShort start
      ]
    ]

-- a part that starts at a place
unfoldable pub part_told : List ℕ → ℕ → Told Part
part_told bytes start =
    elim (opening bytes start) [
      | Err r ↦ Err r
      | Ok x ↦ also (λ events. record { sizes = x.sizes; field = between bytes start x.next; events = events }) (events_told (length bytes) bytes x.next 0 0)
    ]

-- a part, and those behind it: the first refusal is told
abbrev pub and_parts : Told Part → Told (List Part) → Told (List Part)
and_parts (Err r) more = Err r
and_parts (Ok part) more = also (λ parts. part ∷ parts) more

-- "part by part": parts of these lengths lie end to end from a place on
unfoldable pub parts_told : List ℕ → ℕ → List ℕ → Told (List Part)
parts_told bytes start [] = Ok []
parts_told bytes start (size ∷ lengths) =
    and_parts (part_told (take (start + size) bytes) start) (parts_told bytes (start + size) lengths)
