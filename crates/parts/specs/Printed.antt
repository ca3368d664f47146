-- What is printed, as text: of a whole replay, and part by part.
--     lines_printed, ending_printed, replay_printed     the text of a replay
--     printed                                           what is printed for the parts, one after another
-- Assumes nothing.
use Rattle.std.specs.Prelude.{ℕ, ◌+◌, Bool, true, false, List, [], ◌∷◌, ◌++◌, drop, Some, None, Ok, Err}
use Rattle.rules.specs.declared.Sizes.{Sizes}
use Rattle.rules.specs.declared.Refusal.TheVariants.{StopsShort}
use Rattle.rules.specs.Reply.{refusal_number}
use Rattle.fields.specs.declared.Reader.{Reader}
use Rattle.fields.specs.Field.{refused_at}
use Rattle.text.specs.Text.{line_text, end_text, refused_text}
use Rattle.trace.specs.Replay.{Line, Left, Ending, Replayed}
use Rattle.parts.specs.Part.{Taken, part_taken, moved_ending}

-- "It prints one line for each event: step, answer number, value."
unfoldable pub lines_printed : List Line → List ℕ
lines_printed [] = []
lines_printed (line ∷ lines) = line_text line.step line.number line.value ++ lines_printed lines

-- "After a whole trace it prints `end`, how many records are free, the closed-cycle number; after a refusal `refused`, the number, the offset"
unfoldable pub ending_printed : Ending → List ℕ
ending_printed (Ok w) = end_text w.free w.closed
ending_printed (Err e) = refused_text (refusal_number e.why) e.place

unfoldable pub replay_printed : Replayed → List ℕ
replay_printed x = lines_printed x.lines ++ ending_printed x.ending

-- the same, part by part: the lines of a part, and behind the last part how the trace ended
unfoldable pub printed : (Sizes → Bool) → List (List ℕ) → ℕ → List ℕ → Reader → Left → List ℕ
printed takes [] base rest reader left =
    let x : Taken = part_taken takes true rest reader left in
    lines_printed x.lines
    ++ elim x.stood.stand [ Some ending ↦ ending_printed (moved_ending base ending) | None ↦ ending_printed (refused_at StopsShort (base + x.stood.next)) ]
printed takes (piece ∷ pieces) base rest reader left =
    let part : List ℕ = rest ++ piece in
    let x : Taken = part_taken takes false part reader left in
    lines_printed x.lines
    ++ elim x.stood.stand [
      | Some ending ↦ ending_printed (moved_ending base ending)
      | None ↦ printed takes pieces (base + x.stood.next) (drop x.stood.next part) x.stood.reader x.left
    ]
