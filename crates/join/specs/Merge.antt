-- What the inner functions of the call answer.
--     seen, seen_part, seen_parts, end_seen        what the check has seen
--     refused_for                                  why parts are refused that do not merge
--     start_of, end_of, part_of                    where each part lies
--     cursor_at, begins_with, Opened, LaidOut      the parts are laid out
--     EventHere, Within, on, Taken, TakesNext      the event field that follows a step
--     ends_with, AllEnded                          the parts have come to their ends
--     Merges, Measured                             what the merge without writing comes to
--     Ready, WrittenOut                            the joined trace is written
-- Assumes nothing.
use Rattle.std.specs.Prelude.{ℕ, suc, ◌+◌, ◌≤◌, ◌<◌, ◌≡◌, Bool, true, false, cond, ◌&&◌, List, ltb, length, get_or, take, set, Option, None, Some, IfSome, IfNone, Result, Ok, Err, is_ok}
use Rattle.rules.specs.declared.Sizes.{Sizes}
use Rattle.rules.specs.declared.Refusal.TheVariants.{StopsShort, ExtraByte, WrongStep, SizesDiffer}
use Rattle.fields.specs.declared.Stage.TheVariants.{Events}
use Rattle.fields.specs.declared.Field.TheVariants as field
use Rattle.fields.specs.declared.RefusedAt.{RefusedAt}
use Rattle.fields.specs.Field.{refused_at, read_at, EventSized}
use Rattle.text.specs.Text.{Written}
use Rattle.join.specs.declared.Cursor.{Cursor}
use Rattle.join.specs.Part.{Part, Told, between, opening, parts_told}
use Rattle.join.specs.Joined.{sum, equal_sizes, all_sized, all_events, stand_to, in_order, joined_trace}

-- ---- the check

-- whether something was told, and not what
abbrev pub seen : {A : Type 0} → Result A RefusedAt → Result (Unit {0}) RefusedAt
seen (Err r) = Err r
seen (Ok x) = Ok tt

-- a part, whose sizes are those of the first or not
abbrev pub seen_part : Sizes → Told Part → Result Bool RefusedAt
seen_part s (Err r) = Err r
seen_part s (Ok p) = Ok (equal_sizes s p.sizes)

-- the parts, behind some that have these sizes or not
abbrev pub seen_parts : Sizes → Bool → Told (List Part) → Result Bool RefusedAt
seen_parts s same (Err r) = Err r
seen_parts s same (Ok parts) = Ok (same && all_sized s parts)

-- what stands behind the events of a part
unfoldable pub end_seen : List ℕ → ℕ → ℕ → Result (Unit {0}) RefusedAt
end_seen bytes place step =
    elim (read_at bytes place (record { stage = Events; step = step })) [
      | Err r ↦ Err r
      | Ok x ↦ elim x.field [
        | field.Event number e ↦ refused_at StopsShort place
        | field.End ↦ cond (ltb x.next (length bytes)) (refused_at ExtraByte x.next) (Ok tt)
        | field.Sizes s ↦ refused_at StopsShort place
        | field.Nothing ↦ refused_at StopsShort place
      ]
    ]

-- why parts are refused that do not merge: "15 if two parts differ in sizes; 10 if the joined numbers aren't 1 to n"
abbrev pub refused_for : Result Bool RefusedAt → RefusedAt
refused_for (Err r) = r
refused_for (Ok same) = record { why = cond same WrongStep SizesDiffer; place = 0 }

-- ---- where the parts lie

abbrev pub start_of : List ℕ → ℕ → ℕ
start_of lengths i = sum (take i lengths)

abbrev pub end_of : List ℕ → ℕ → ℕ
end_of lengths i = sum (take (suc i) lengths)

-- the bytes up to the end of a part
abbrev pub part_of : List ℕ → List ℕ → ℕ → List ℕ
part_of parts lengths i = take (end_of lengths i) parts

abbrev pub no_cursor : Cursor
no_cursor = record { place = 0; end = 0; count = 0 }

abbrev pub cursor_at : List Cursor → ℕ → Cursor
cursor_at cursors i = get_or cursors i no_cursor

-- a part begins with a sizes field of these sizes
unfoldable pub begins_with : Sizes → List ℕ → ℕ → Bool
begins_with s bytes start = elim (opening bytes start) [ Err r ↦ false | Ok x ↦ equal_sizes s x.sizes ]

-- the places behind the sizes fields, and the ends of the parts
pub record Opened (parts lengths : List ℕ) (cursors : List Cursor) : Type 0 where
  pub nine : length cursors ≡ 9
  pub opens : (i : ℕ) → i < length lengths
      → (s : Sizes) × (opening (part_of parts lengths i) (start_of lengths i) ≡ Ok (record { sizes = s; next = (cursor_at cursors i).place }))
  pub stops : (i : ℕ) → i < length lengths → (cursor_at cursors i).end ≡ end_of lengths i
  pub none : (i : ℕ) → i < length lengths → (cursor_at cursors i).count ≡ 0

pub record LaidOut (s : Sizes) (parts lengths : List ℕ) (x : Option (List Cursor)) : Type 0 where
  pub laid : IfSome x (λ cursors. Opened parts lengths cursors)
  pub alike : IfSome x (λ cursors. (i : ℕ) → i < length lengths → begins_with s (part_of parts lengths i) (start_of lengths i) ≡ true)
  pub other : IfNone x ((i : ℕ) × (i < length lengths) × (begins_with s (part_of parts lengths i) (start_of lengths i) ≡ false))

-- ---- the merge

-- so long is the event field that stands at the place in a part, behind a step, where one does
abbrev pub EventHere : List ℕ → Cursor → ℕ → Option ℕ → Type 0
EventHere parts cursor step size = EventSized (take cursor.end parts) cursor.place step size

pub record Within (parts : List ℕ) (cursors : List Cursor) (step : ℕ) : Type 0 where
  pub inside : (i : ℕ) → i < length cursors → (cursor_at cursors i).end ≤ length parts
  pub counts : (i : ℕ) → i < length cursors → (cursor_at cursors i).count ≤ step

-- behind an event field of this length
abbrev pub on : Cursor → ℕ → Cursor
on cursor size = record { place = cursor.place + size; end = cursor.end; count = cursor.count + 1 }

-- the field of the event that follows a step is that at the place in a part
pub record Taken (parts : List ℕ) (cursors : List Cursor) (step : ℕ) (field : List ℕ) (after : List Cursor) (i : ℕ) : Type 0 where
  pub part : i < length cursors
  pub here : EventHere parts (cursor_at cursors i) step (Some (length field))
  pub bytes : field ≡ between parts (cursor_at cursors i).place ((cursor_at cursors i).place + length field)
  pub moved : after ≡ set cursors i (on (cursor_at cursors i) (length field))

pub record TakesNext (parts : List ℕ) (cursors : List Cursor) (step : ℕ) (field : Option (List ℕ)) (after : List Cursor) : Type 0 where
  pub takes : IfSome field (λ bytes. (i : ℕ) × Taken parts cursors step bytes after i)
  pub none : IfNone field ((i : ℕ) → i < length cursors → EventHere parts (cursor_at cursors i) step None)
  pub same : IfNone field (after ≡ cursors)

-- ---- the parts have come to their ends

-- an end field with a count, and nothing behind it
unfoldable pub ends_with : List ℕ → ℕ → ℕ → Bool
ends_with bytes place count = is_ok (end_seen bytes place count)

abbrev pub at_end : List ℕ → Cursor → Bool
at_end parts cursor = ends_with (take cursor.end parts) cursor.place cursor.count

pub record AllEnded (parts : List ℕ) (cursors : List Cursor) (x : Bool) : Type 0 where
  pub all : x ≡ true → (i : ℕ) → i < length cursors → at_end parts (cursor_at cursors i) ≡ true
  pub other : x ≡ false → (i : ℕ) × (i < length cursors) × (at_end parts (cursor_at cursors i) ≡ false)

-- ---- the merge without writing

-- the parts are whole, and their numbers are 1 to n
pub record Merges (parts lengths : List ℕ) (size : ℕ) : Type 0 where
  pub told : List Part
  pub reads : parts_told parts 0 lengths ≡ Ok told
  pub numbers : stand_to (length (all_events told)) (all_events told) ≡ true
  pub size_is : size ≡ length (in_order (length (all_events told)) (all_events told))

pub record Measured (parts lengths : List ℕ) (x : Option ℕ) : Type 0 where
  -- 4,294,967,295 fields of 13 bytes
  pub most : IfSome x (λ size. size ≤ 55834574835)
  pub merges : IfSome x (λ size. Merges parts lengths size)
  pub other : IfNone x ((told : List Part) → parts_told parts 0 lengths ≡ Ok told → stand_to (length (all_events told)) (all_events told) ≡ false)

-- ---- the merge that writes

pub record Ready (parts lengths out : List ℕ) : Type 0 where
  pub told : List Part
  pub reads : parts_told parts 0 lengths ≡ Ok told
  pub numbers : stand_to (length (all_events told)) (all_events told) ≡ true
  pub room : length (joined_trace told) ≤ length out

pub record WrittenOut (parts lengths before : List ℕ) (size : ℕ) (after : List ℕ) : Type 0 where
  pub written : (told : List Part) → parts_told parts 0 lengths ≡ Ok told → Written before 0 (joined_trace told) size after
