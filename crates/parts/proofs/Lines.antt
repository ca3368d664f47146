-- The lines of a part as text, from the numbers and values that were put into the answers.
--     lines_text_lem     the text of the answers is the text of the lines
--     part_lines, lines_kept     of a part, and in a buffer
--     answers_told       what `Answers` keeps of the events of a part: their numbers and values
-- Assumes nothing.
use Prim.Native.Nat.{ℕ, suc, ◌*◌, ◌≤◌}
use mathlib.Core.Path.{◌≡◌, refl, sym, ap, ◌∙◌, subst}
use mathlib.Core.List.{List, [], ◌∷◌, ◌++◌}
use native.Mathlib.Omega.{arith}
use lib.ListN.{length, take}
use Rattle.std.specs.Borrow.{MutBor}
use Rattle.rules.specs.declared.Answer.{Answer}
use Rattle.rules.specs.Reply.{number, value}
use Rattle.rules.specs.Outcome.{answers}
use Rattle.tables.specs.Tables.{Tables}
use Rattle.text.specs.Text.{line_text, lines_text, StartsWith}
use Rattle.trace.specs.declared.teller.Answers.{Answers}
use Rattle.trace.specs.Replay.{Left, untouched, stands}
use Rattle.trace.specs.Stretch.{lines_behind, put, put_from}
use Rattle.trace.specs.Told.{answer_put}
use Rattle.trace.proofs.AnswersTold.{answers_by}
use Rattle.parts.specs.declared.Progress.{Progress}
use Rattle.parts.specs.declared.Part.{Part}
use Rattle.parts.specs.Part.{Taken}
use Rattle.parts.specs.Arrays.{Takes}
use Rattle.parts.specs.Work.{Work, work_told}
use Rattle.parts.specs.Printed.{lines_printed}
use Rattle.parts.proofs.Works.{work_lines}

lines_text_lem : (step : ℕ) (xs : List Answer) (room : List ℕ) → length xs * 2 ≤ length room
    → lines_text step (take (length xs * 2) (put room (lines_behind step xs))) ≡ lines_printed (lines_behind step xs)
unfolding lines_text put lines_behind lines_printed
lines_text_lem step [] room enough = refl
lines_text_lem step (x ∷ xs) [] enough = absurd (omega arith)
lines_text_lem step (x ∷ xs) (a ∷ []) enough = absurd (omega arith)
lines_text_lem step (x ∷ xs) (a ∷ b ∷ room) enough =
    let two : suc (length xs) * 2 ≡ suc (suc (length xs * 2)) = omega arith in
    let rest : List ℕ = put room (lines_behind (suc step) xs) in
    ap (λ (n : ℕ). lines_text step (take n (number x ∷ value x ∷ rest))) two
    ∙ ap (λ (text : List ℕ). line_text (suc step) (number x) (value x) ++ text) (lines_text_lem (suc step) xs room (omega arith))

module _ {taken : Taken} {x : Progress} {part : Part} {t : Tables} (takes : Takes taken x [] part t []) (room : List ℕ) (enough : part.events * 2 ≤ length room) where
  count : part.events ≡ length takes.numbered.0
  unfolding lines_behind
  count = takes.events ∙ ap length takes.numbered.1 ∙ as_many x.reader.step takes.numbered.0
    where
      as_many : (step : ℕ) (xs : List Answer) → length (lines_behind step xs) ≡ length xs
      as_many step [] = refl
      as_many step (y ∷ xs) = ap suc (as_many (suc step) xs)

  pub part_lines : lines_text x.reader.step (take (part.events * 2) (put room taken.lines)) ≡ lines_printed taken.lines
  part_lines =
      let xs : List Answer = takes.numbered.0 in
      (λ j. lines_text x.reader.step (take (count j * 2) (put room (takes.numbered.1 j))))
      ∙ lines_text_lem x.reader.step xs room (omega (arith, count))
      ∙ ap lines_printed (sym takes.numbered.1)

-- in a buffer, from answers that were kept so
pub lines_kept : {out : List ℕ} {size : ℕ} (step n : ℕ) {filled kept text : List ℕ} → StartsWith out size (lines_text step (take n filled)) → filled ≡ kept
    → lines_text step (take n kept) ≡ text → StartsWith out size text
lines_kept {out} {size} step n starts same is = subst (StartsWith out size) (ap (λ (xs : List ℕ). lines_text step (take n xs)) same ∙ is) starts

-- ---- what `Answers` keeps

-- the same slice, with the numbers and values of the part's lines
pub answers_told : (w : Work) (step : ℕ) (x : Answers) → x.events ≡ 0
    → (work_told answer_put w x).answers ≡ record { ref_ptr = x.answers.ref_ptr; ghost_name = x.answers.ghost_name; now = put x.answers.now (work_lines step w) }
unfolding work_told put_from put
answers_told w step x none = by_pool w.pool
  where
    kept : List ℕ → MutBor (List ℕ)
    kept now = record { ref_ptr = x.answers.ref_ptr; ghost_name = x.answers.ghost_name; now = now }

    by_pool : (left : Left) → let v : Work = record { pool = left; events = w.events } in (work_told answer_put v x).answers ≡ kept (put x.answers.now (work_lines step v))
    by_pool untouched = refl
    by_pool (stands s p) =
        ap (λ (y : Answers). y.answers) (answers_by s p step w.events x)
        ∙ ap (λ (n : ℕ). kept (put_from n x.answers.now (lines_behind step (answers s p w.events)))) none
