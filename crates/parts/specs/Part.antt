-- A part of a trace: what has been read and not yet replayed. It is replayed as far as its fields stand whole in it; what is left of it is the beginning of the
-- next part.
--     Taken, part_taken     what a part answers and leaves
--     moved_ending          an ending, in a trace of which the part is not the beginning
--     played                parts one after another, however the bytes arrive
-- Assumes nothing.
use Rattle.std.specs.Prelude.{ℕ, ◌+◌, Bool, true, false, cond, List, [], ◌∷◌, ◌++◌, drop, Some, None, Ok, Err}
use Rattle.rules.specs.declared.Sizes.{Sizes}
use Rattle.rules.specs.declared.Refusal.{Refusal}
use Rattle.rules.specs.declared.Refusal.TheVariants.{WrongSize, WrongTag, StopsShort}
use Rattle.rules.specs.Pool.{Pool, fresh}
use Rattle.rules.specs.Outcome.{answers, after, free_records}
use Rattle.fields.specs.declared.Stage.TheVariants.{First, Events, Ended}
use Rattle.fields.specs.declared.Reader.{Reader}
use Rattle.fields.specs.declared.Field.TheVariants as field
use Rattle.fields.specs.Field.{refused_at, read_at}
use Rattle.trace.specs.declared.Stood.{Stood}
use Rattle.trace.specs.Replay.{Line, Left, Ending, untouched, stands, Replayed, with_lines}
use Rattle.trace.specs.Stretch.{Stretch, behind, stretch, lines_behind}
use Rattle.trace.specs.Stand.{waits, ended, stand_behind}

-- the lines of a part, how the trace stands behind them, and the pool
pub record Taken : Type 0 where
  pub lines : List Line
  pub stood : Stood
  pub left : Left

-- how the trace stands behind the events, with the pool that they left
abbrev pub stand_on : Bool → List ℕ → ℕ → Reader → Pool → Stood
stand_on last bytes place reader p = stand_behind last (free_records p) p.collector.closed bytes place reader

-- behind the sizes field, from a place on: the events, and how the trace stands behind them
unfoldable pub rest_taken : Bool → List ℕ → ℕ → Reader → Sizes → Pool → Taken
rest_taken last bytes place reader s p =
    let x : Stretch = stretch bytes place reader.step in
    let q : Pool = after s p x.events in
    let events : Taken =
    record {
      lines = lines_behind reader.step (answers s p x.events);
      stood = stand_on last bytes x.next (behind x.step) q;
      left = stands s q;
    } in
    elim reader.stage [
      | First ↦ events
      | Events ↦ events
      | Ended ↦ record { lines = []; stood = stand_on last bytes place reader p; left = stands s p }
    ]

-- a part that stops at the first field, before there is a pool
abbrev pub stops_at : Refusal → ℕ → Reader → Taken
stops_at why place reader = record { lines = []; stood = ended (refused_at why place) 0 reader; left = untouched }

-- the first field
unfoldable pub first_taken : (Sizes → Bool) → Bool → List ℕ → Reader → Taken
first_taken takes last bytes reader =
    cond (waits last bytes 0)
    (record { lines = []; stood = record { stand = None; next = 0; reader = reader }; left = untouched })
    (elim (read_at bytes 0 reader) [
      | Err e ↦ stops_at e.why e.place reader
      | Ok x ↦ elim x.field [
        | field.Sizes s ↦ cond (takes s) (rest_taken last bytes x.next x.reader s (fresh s)) (stops_at WrongSize 0 reader)
        | field.Event n e ↦ stops_at WrongTag 0 reader
        | field.End ↦ stops_at WrongTag 0 reader
        | field.Nothing ↦ stops_at WrongTag 0 reader
      ]
    ])

unfoldable pub part_taken : (Sizes → Bool) → Bool → List ℕ → Reader → Left → Taken
part_taken takes last bytes reader untouched = first_taken takes last bytes reader
part_taken takes last bytes reader (stands s p) = rest_taken last bytes 0 reader s p

-- ---- parts one after another

-- the part begins so many bytes behind the trace's beginning
unfoldable pub moved_ending : ℕ → Ending → Ending
moved_ending base (Ok w) = Ok w
moved_ending base (Err e) = refused_at e.why (base + e.place)

abbrev pub over : ℕ → Taken → Ending → Replayed
over base x ending = record { lines = x.lines; ending = moved_ending base ending; left = x.left }

-- the bytes arrive in so many pieces: each is put behind what is left of the part before. The last part is what is left when no more bytes come
unfoldable pub played : (Sizes → Bool) → List (List ℕ) → ℕ → List ℕ → Reader → Left → Replayed
played takes [] base rest reader left =
    let x : Taken = part_taken takes true rest reader left in
    elim x.stood.stand [ Some ending ↦ over base x ending | None ↦ over base x (refused_at StopsShort x.stood.next) ]
played takes (piece ∷ pieces) base rest reader left =
    let part : List ℕ = rest ++ piece in
    let x : Taken = part_taken takes false part reader left in
    elim x.stood.stand [
      | Some ending ↦ over base x ending
      | None ↦ with_lines x.lines (played takes pieces (base + x.stood.next) (drop x.stood.next part) x.stood.reader x.left)
    ]
