-- A whole replay: from the bytes of a trace to its lines, its last line, and the pool at its end. "Numbers a call may answer" and "The trace file" of document 01.
--     Line, Left, Ending, Replayed     a printed line; what a replay leaves; how it ends; and all of a replay
--     goes                     the replay from a place on
--     replayed                 the replay of a trace
-- Assumes nothing.
use Rattle.std.specs.Prelude.{ℕ, zero, suc, Bool, cond, List, [], ◌∷◌, ◌++◌, length, Result, Ok, Err}
use Rattle.rules.specs.declared.Sizes.{Sizes}
use Rattle.rules.specs.declared.Refusal.{Refusal}
use Rattle.rules.specs.declared.Refusal.TheVariants.{WrongSize, StopsShort}
use Rattle.rules.specs.declared.Answer.{Answer}
use Rattle.rules.specs.Pool.{Pool, fresh}
use Rattle.rules.specs.Reply.{number, value}
use Rattle.rules.specs.Outcome.{outcome, free_records}
use Rattle.fields.specs.declared.Stage.TheVariants.{First}
use Rattle.fields.specs.declared.Reader.{Reader}
use Rattle.fields.specs.declared.Field.TheVariants as field
use Rattle.fields.specs.declared.RefusedAt.{RefusedAt}
use Rattle.fields.specs.Field.{refused_at, read_at}
use Rattle.trace.specs.declared.Whole.{Whole}

-- "It prints one line for each event: step, answer number, value."
pub record Line : Type 0 where
  pub step : ℕ
  pub number : ℕ
  pub value : ℕ

-- what a replay leaves: nothing was touched, or a pool of these sizes
pub data Left : Type 0 where
  untouched : Left
  stands : Sizes → Pool → Left

-- "After a whole trace it prints `end`, how many records are free, the closed-cycle number; after a refusal `refused`, the number, the offset"
abbrev pub Ending : Type 0
Ending = Result Whole RefusedAt

abbrev pub ended_whole : (free closed : ℕ) → Ending
ended_whole free closed = Ok (record { free = free; closed = closed })

pub record Replayed : Type 0 where
  pub lines : List Line
  pub ending : Ending
  pub left : Left

-- a replay that stops
abbrev pub stops : Refusal → ℕ → Left → Replayed
stops why place left = record { lines = []; ending = refused_at why place; left = left }

abbrev pub line_of : ℕ → Answer → Line
line_of step x = record { step = step; number = number x; value = value x }

abbrev pub with_line : Line → Replayed → Replayed
with_line line x = record { lines = line ∷ x.lines; ending = x.ending; left = x.left }

abbrev pub with_lines : List Line → Replayed → Replayed
with_lines lines x = record { lines = lines ++ x.lines; ending = x.ending; left = x.left }

-- the end of a whole trace
abbrev pub ends : ℕ → Left → Replayed
ends place untouched = stops StopsShort place untouched
ends place (stands s p) = record { lines = []; ending = ended_whole (free_records p) p.collector.closed; left = stands s p }

-- Which sizes are taken beyond those of document 01 is the caller's: lent tables of their lengths, a program's own limits. Each turn takes a field; a trace has
-- fewer fields than bytes, so that as many turns as there are bytes, and one more for its end, are enough
unfoldable pub goes : ℕ → (Sizes → Bool) → List ℕ → ℕ → Reader → Left → Replayed
goes zero takes bytes place reader left = stops StopsShort place left
goes (suc turns) takes bytes place reader left =
    elim (read_at bytes place reader) [
      -- "7 to 12, and 1 from the sizes, end the replay with the tables as the fields before left them"
      | Err e ↦ stops e.why e.place left
      | Ok x ↦
          let onward : Left → Replayed = goes turns takes bytes x.next x.reader in
          elim x.field [
            -- "An accepted sizes field makes the pool fresh, whatever the tables held."
            | field.Sizes s ↦ cond (takes s) (onward (stands s (fresh s))) (stops WrongSize place left)
            -- "3 to 6 are that event's answer and the replay goes on", and so are 13 and 14: "all else that met a 3 is unchanged" (document 02, request 2); 6
            -- is given no more (request 4)
            | field.Event step e ↦
                elim left [
                  | untouched ↦ stops StopsShort place untouched
                  | stands s p ↦ let o = outcome s p e in with_line (line_of step o.answer) (onward (stands s o.pool))
                ]
            | field.End ↦ onward left
            | field.Nothing ↦ ends place left
          ]
    ]

abbrev pub at_start : Reader
at_start = record { stage = First; step = 0 }

unfoldable pub replayed : (Sizes → Bool) → List ℕ → Replayed
replayed takes bytes = goes (suc (length bytes)) takes bytes 0 at_start untouched
