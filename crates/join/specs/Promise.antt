-- What the theorems on the joined trace speak of.
--     part_test                what is asked of the payload of a field in a part
--     read_told, trace_told     what document 01's reader takes from a trace
--     event_bytes, sizes_field, trace_of     a trace of a sizes field and some events
--     Dealt                   events that are dealt out to parts
-- Assumes nothing.
use Rattle.std.specs.Prelude.{ℕ, zero, suc, ◌<◌, cond, not, eqb, ltb, length, get_or, set, replicate, Ok, Err}
use mathlib.Core.List.{List, [], ◌∷◌, ◌++◌, flatten, map}
use Rattle.rules.specs.declared.Refusal.TheVariants.{WrongSize, StopsShort, WrongStep, WrongCount}
use Rattle.rules.specs.Size.{in_range}
use Rattle.rules.specs.Outcome.{Test}
use Rattle.fields.specs.declared.Field.TheVariants as field
use Rattle.fields.specs.declared.Reader.{Reader}
use Rattle.fields.specs.Field.{four_at, sizes_tag, end_tag, sizes_at, refused_at, read_at}
use Rattle.join.specs.Part.{Numbered, Told, also, between, at_first, opening}
use Rattle.join.specs.Joined.{end_field}

-- "then 1 for sizes, 10 for an event, 12 for the end .., where 10 now means not above the part's previous number (0 before the first) and 12 a wrong count of its
-- events": what is asked of the payload of a field in a part, behind its previous number and so many events
abbrev pub part_test : ℕ → ℕ → List ℕ → ℕ → ℕ → ℕ → Test
part_test tag payload bytes i last events =
    cond (eqb tag sizes_tag)
    (record { when = not (in_range (sizes_at bytes i payload)); why = WrongSize })
    (cond (eqb tag end_tag)
    (record { when = not (eqb (four_at bytes i) events); why = WrongCount })
    (record { when = not (ltb last (four_at bytes i)); why = WrongStep }))

-- the events that document 01's reader takes from a place on, byte for byte; or why the trace is refused and where
unfoldable pub read_told : ℕ → List ℕ → ℕ → Reader → Told (List Numbered)
read_told zero bytes place reader = refused_at StopsShort place
read_told (suc turns) bytes place reader =
    elim (read_at bytes place reader) [
      | Err r ↦ Err r
      | Ok x ↦ elim x.field [
        | field.Sizes s ↦ read_told turns bytes x.next x.reader
        | field.Event number e ↦ also (λ more. record { number = number; bytes = between bytes place x.next } ∷ more) (read_told turns bytes x.next x.reader)
        | field.End ↦ read_told turns bytes x.next x.reader
        -- the trace is whole
        | field.Nothing ↦ Ok []
      ]
    ]

-- a trace has fewer fields than bytes
unfoldable pub trace_told : List ℕ → Told (List Numbered)
trace_told bytes = read_told (suc (length bytes)) bytes 0 at_first

-- the fields of events, one after another
unfoldable pub event_bytes : List Numbered → List ℕ
event_bytes events = flatten (map (λ (e : Numbered). e.bytes) events)

-- the sizes field of a trace
abbrev pub sizes_field : List ℕ → List ℕ
sizes_field trace = elim (opening trace 0) [ Err r ↦ [] | Ok x ↦ between trace 0 x.next ]

-- a sizes field, events, and an end field with their count
unfoldable pub trace_of : List ℕ → List Numbered → List ℕ
trace_of sizes events = sizes ++ (event_bytes events ++ end_field (length events))

-- events that are dealt out to some parts: each in turn goes behind those of one of them
pub data Dealt : List Numbered → List (List Numbered) → Type 0 where
  none : (parts : ℕ) → Dealt [] (replicate parts [])
  goes : (e : Numbered) {events : List Numbered} {dealt : List (List Numbered)} (i : ℕ) → i < length dealt → Dealt events dealt
      → Dealt (events ++ (e ∷ [])) (set dealt i (get_or dealt i [] ++ (e ∷ [])))
