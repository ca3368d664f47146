-- The words of what is promised of a whole trace.
--     events_of                  the events that stand in a trace, behind its first field
--     Run                        a replay is a run of the rules: its lines, its pool and its ending are those of the trace's events, from the fresh pool
--     Shown                      of any trace: a run, or nothing was touched
--     line_at                    the line of an event
--     line_frees, lines_free     a record is freed, by the line of an event and by the lines of some
-- Assumes nothing.
use Rattle.std.specs.Prelude.{ℕ, ◌≡◌, Bool, true, false, ◌||◌, List, [], ◌∷◌, eqb, get_or, Ok, Err}
use Rattle.rules.specs.declared.Sizes.{Sizes}
use Rattle.rules.specs.declared.RecordNumber.{RecordNumber}
use Rattle.rules.specs.declared.Event.{Event}
use Rattle.rules.specs.declared.Event.TheVariants.{Make, Move, Drop, Load, Store, Look, Post, Collect}
use Rattle.rules.specs.declared.Refusal.{Refusal}
use Rattle.rules.specs.Size.{in_range}
use Rattle.rules.specs.Pool.{fresh}
use Rattle.rules.specs.Outcome.{answers, after, free_records}
use Rattle.fields.specs.declared.Field.TheVariants as field
use Rattle.fields.specs.declared.Read.{Read}
use Rattle.fields.specs.Field.{read_at}
use Rattle.trace.specs.Replay.{Line, ended_whole, untouched, stands, stops, at_start, replayed}
use Rattle.trace.specs.Stretch.{stretch, lines_behind}

-- ---- a run

-- up to the first field behind the sizes that is none
unfoldable pub events_of : List ℕ → List Event
events_of bytes = (stretch bytes (elim (read_at bytes 0 at_start) [ Ok x ↦ x.next | Err e ↦ e.place ]) 0).events

pub record Run (takes : Sizes → Bool) (bytes : List ℕ) (s : Sizes) : Type 0 where
  -- the first field says the sizes, which are in range and taken
  pub first : (x : Read) × (read_at bytes 0 at_start ≡ Ok x) × (x.field ≡ field.Sizes s)
  pub range : in_range s ≡ true
  pub taken : takes s ≡ true
  -- each event has its line, and the pool is what they left
  pub lines : (replayed takes bytes).lines ≡ lines_behind 0 (answers s (fresh s) (events_of bytes))
  pub left : (replayed takes bytes).left ≡ stands s (after s (fresh s) (events_of bytes))
  -- "After a whole trace it prints `end`, how many records are free, the closed-cycle number"
  pub free : (free closed : ℕ) → (replayed takes bytes).ending ≡ ended_whole free closed → free ≡ free_records (after s (fresh s) (events_of bytes))
  pub closed : (free closed : ℕ) → (replayed takes bytes).ending ≡ ended_whole free closed → closed ≡ (after s (fresh s) (events_of bytes)).collector.closed

pub data Shown (takes : Sizes → Bool) (bytes : List ℕ) : Type 0 where
  a_run : (s : Sizes) → Run takes bytes s → Shown takes bytes
  nothing_touched : (why : Refusal) → replayed takes bytes ≡ stops why 0 untouched → Shown takes bytes

-- ---- lines

-- the line of the event that has so many before it
abbrev pub line_at : List Line → ℕ → Line
line_at lines i = get_or lines i (record { step = 0; number = 0; value = 0 })

-- a collect event whose line has this record: "the answer is the record freed, otherwise 0"
unfoldable pub line_frees : RecordNumber → Event → Line → Bool
line_frees a (Make w r) line = false
line_frees a (Move w r q) line = false
line_frees a (Drop w r) line = false
line_frees a (Load w r q f) line = false
line_frees a (Store w q f r) line = false
line_frees a (Look w r e) line = false
line_frees a (Post w e r) line = false
line_frees a Collect line = eqb line.value a.0

-- one of some events, whose lines are the first of these
unfoldable pub lines_free : RecordNumber → List Event → List Line → Bool
lines_free a [] lines = false
lines_free a (e ∷ events) [] = false
lines_free a (e ∷ events) (line ∷ lines) = line_frees a e line || lines_free a events lines
