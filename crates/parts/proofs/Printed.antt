-- What is printed part by part is the text of the whole replay.
--     prints                what is printed for the parts is the text of the parts' replay
--     printed_is_replay     and so of the trace's
-- Assumes nothing.
use Prim.Native.Nat.{ℕ, ◌+◌}
use mathlib.Core.Path.{◌≡◌, refl, sym, ap, ◌∙◌}
use mathlib.Core.Bool.{Bool, true, false}
use mathlib.Core.List.{List, [], ◌∷◌, ◌++◌, append_assoc, flatten}
use lib.ListN.{drop}
use Rattle.std.specs.Prelude.{Option, Some, None}
use Rattle.rules.specs.declared.Sizes.{Sizes}
use Rattle.rules.specs.declared.Refusal.TheVariants.{StopsShort}
use Rattle.fields.specs.declared.Reader.{Reader}
use Rattle.fields.specs.Field.{refused_at}
use Rattle.text.specs.Text.{line_text}
use Rattle.trace.specs.Replay.{Line, Left, Ending, untouched, Replayed, with_lines, at_start, replayed}
use Rattle.parts.specs.Part.{Taken, part_taken, moved_ending, over, played}
use Rattle.parts.specs.Printed.{lines_printed, ending_printed, replay_printed, printed}
use Rattle.parts.proofs.Played.{played_is_replayed}

pub lines_printed_lem : (first second : List Line) → lines_printed (first ++ second) ≡ lines_printed first ++ lines_printed second
unfolding lines_printed
lines_printed_lem [] second = refl
lines_printed_lem (line ∷ first) second =
    ap (λ (text : List ℕ). line_text line.step line.number line.value ++ text) (lines_printed_lem first second)
    ∙ sym (append_assoc (line_text line.step line.number line.value) (lines_printed first) (lines_printed second))

before_printed : (lines : List Line) (x : Replayed) → lines_printed lines ++ replay_printed x ≡ replay_printed (with_lines lines x)
unfolding replay_printed
before_printed lines x =
    sym (append_assoc (lines_printed lines) (lines_printed x.lines) (ending_printed x.ending))
    ∙ ap (λ (text : List ℕ). text ++ ending_printed x.ending) (sym (lines_printed_lem lines x.lines))

module _ (takes : Sizes → Bool) where
  pub prints : (pieces : List (List ℕ)) (base : ℕ) (rest : List ℕ) (reader : Reader) (left : Left)
      → printed takes pieces base rest reader left ≡ replay_printed (played takes pieces base rest reader left)
  unfolding printed played replay_printed moved_ending
  prints [] base rest reader left = by_stand x.stood.stand
    where
      x : Taken
      x = part_taken takes true rest reader left

      by_stand : (st : Option Ending)
          → lines_printed x.lines
          ++ elim st [ Some ending ↦ ending_printed (moved_ending base ending) | None ↦ ending_printed (refused_at StopsShort (base + x.stood.next)) ]
          ≡ replay_printed (elim st [ Some ending ↦ over base x ending | None ↦ over base x (refused_at StopsShort x.stood.next) ])
      by_stand (Some ending) = refl
      by_stand None = refl
  prints (piece ∷ pieces) base rest reader left =
      by_stand x.stood.stand (prints pieces (base + x.stood.next) (drop x.stood.next part) x.stood.reader x.left)
    where
      part : List ℕ
      part = rest ++ piece

      x : Taken
      x = part_taken takes false part reader left

      text_later : List ℕ
      text_later = printed takes pieces (base + x.stood.next) (drop x.stood.next part) x.stood.reader x.left

      later : Replayed
      later = played takes pieces (base + x.stood.next) (drop x.stood.next part) x.stood.reader x.left

      by_stand : (st : Option Ending) → text_later ≡ replay_printed later
          → lines_printed x.lines ++ elim st [ Some ending ↦ ending_printed (moved_ending base ending) | None ↦ text_later ]
          ≡ replay_printed (elim st [ Some ending ↦ over base x ending | None ↦ with_lines x.lines later ])
      by_stand (Some ending) same = refl
      by_stand None same = ap (λ (text : List ℕ). lines_printed x.lines ++ text) same ∙ before_printed x.lines later

  pub printed_is_replay : (pieces : List (List ℕ)) → printed takes pieces 0 [] at_start untouched ≡ replay_printed (replayed takes (flatten pieces))
  printed_is_replay pieces = prints pieces 0 [] at_start untouched ∙ ap replay_printed (played_is_replayed takes pieces)
