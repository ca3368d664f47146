-- The lines of a run: an event's line is that of its answer in the pool that the events before it left.
--     line_of_event     the line of an event that has some before it
--     lines_behind_lem      the lines from there on
--     line_frees_lem, lines_free_lem     a line frees a record where the answer does
--     whole_numbers     the numbers of a whole trace's ending
-- Assumes nothing.
use Prim.Native.Nat.{ℕ, zero, suc, ◌+◌}
use mathlib.Core.Path.{◌≡◌, refl, sym, ap, ◌∙◌}
use mathlib.Core.Bool.{true, false, ◌||◌}
use mathlib.Core.List.{List, [], ◌∷◌, ◌++◌}
use native.Mathlib.Omega.{arith}
use native.Mathlib.Nat.{add-zero}
use lib.ListN.{length, drop}
use Rattle.std.specs.Prelude.{Result, Ok, Err}
use Rattle.rules.specs.declared.Sizes.{Sizes}
use Rattle.rules.specs.declared.RecordNumber.{RecordNumber}
use Rattle.rules.specs.declared.Event.{Event}
use Rattle.rules.specs.declared.Event.TheVariants.{Make, Move, Drop, Load, Store, Look, Post, Collect}
use Rattle.rules.specs.declared.Answer.{Answer}
use Rattle.rules.specs.Pool.{Pool}
use Rattle.rules.specs.Outcome.{outcome, answers, after, answers_freed}
use Rattle.promises.specs.Cycle.{freed_among}
use Rattle.fields.specs.declared.Reader.{Reader}
use Rattle.fields.specs.declared.Field.{Field}
use Rattle.fields.specs.declared.Read.{Read}
use Rattle.fields.specs.declared.RefusedAt.{RefusedAt}
use Rattle.fields.specs.declared.Field.TheVariants as field
use Rattle.fields.specs.Field.{read_at}
use Rattle.trace.specs.declared.Whole.{Whole}
use Rattle.trace.specs.declared.Stood.{Stood}
use Rattle.trace.specs.Replay.{ended_whole, line_of}
use Rattle.trace.specs.Stretch.{lines_behind}
use Rattle.trace.specs.Stand.{waits, stood, ending_of}
use Rattle.trace.specs.Promise.{line_at, line_frees, lines_free}
use Rattle.trace.proofs.Behind.{look}

-- ---- where a line stands

module _ (s : Sizes) where
  pub line_of_event : (p : Pool) (step : ℕ) (before : List Event) (e : Event) (later : List Event)
      → line_at (lines_behind step (answers s p (before ++ e ∷ later))) (length before)
      ≡ line_of (suc (step + length before)) (outcome s (after s p before) e).answer
  unfolding lines_behind answers after
  line_of_event p step [] e later = ap (λ (n : ℕ). line_of (suc n) (outcome s p e).answer) (sym (add-zero step))
  line_of_event p step (d ∷ before) e later =
      let q = (outcome s p d).pool in
      let same : suc step + length before ≡ step + suc (length before) = omega arith in
      line_of_event q (suc step) before e later ∙ ap (λ (n : ℕ). line_of (suc n) (outcome s (after s q before) e).answer) same

  pub lines_behind_lem : (p : Pool) (step : ℕ) (before later : List Event)
      → drop (length before) (lines_behind step (answers s p (before ++ later))) ≡ lines_behind (step + length before) (answers s (after s p before) later)
  unfolding lines_behind answers after
  lines_behind_lem p step [] later = ap (λ (n : ℕ). lines_behind n (answers s p later)) (sym (add-zero step))
  lines_behind_lem p step (d ∷ before) later =
      let q = (outcome s p d).pool in
      let same : suc step + length before ≡ step + suc (length before) = omega arith in
      lines_behind_lem q (suc step) before later ∙ ap (λ (n : ℕ). lines_behind n (answers s (after s q before) later)) same

-- ---- what a line frees

pub line_frees_lem : (a : RecordNumber) (e : Event) (step : ℕ) (x : Answer) → answers_freed a e x ≡ line_frees a e (line_of step x)
unfolding answers_freed line_frees
line_frees_lem a (Make w r) step x = refl
line_frees_lem a (Move w r q) step x = refl
line_frees_lem a (Drop w r) step x = refl
line_frees_lem a (Load w r q f) step x = refl
line_frees_lem a (Store w q f r) step x = refl
line_frees_lem a (Look w r e) step x = refl
line_frees_lem a (Post w e r) step x = refl
line_frees_lem a Collect step x = refl

pub lines_free_lem : (s : Sizes) (p : Pool) (a : RecordNumber) (step : ℕ) (events later : List Event)
    → freed_among a events (answers s p events) ≡ lines_free a events (lines_behind step (answers s p (events ++ later)))
unfolding freed_among lines_free lines_behind answers
lines_free_lem s p a step [] later = refl
lines_free_lem s p a step (e ∷ events) later =
    let o = outcome s p e in
    λ j. line_frees_lem a e (suc step) o.answer j || lines_free_lem s o.pool a (suc step) events later j

-- ---- the numbers of an ending

module _ (free closed : ℕ) (f c at : ℕ) where
  pub whole_numbers : (fields : ℕ) (bytes : List ℕ) (place : ℕ) (reader : Reader)
      → ending_of (stood fields true free closed bytes place reader).stand at ≡ ended_whole f c → (f ≡ free) × (c ≡ closed)
  unfolding stood waits
  whole_numbers zero bytes place reader h = absurd (let z : ◌≡◌ {A = ℕ} 0 1 = cc in omega arith)
  whole_numbers (suc fields) bytes place reader h = by_read (read_at bytes place reader) (λ x. whole_numbers fields bytes x.next x.reader) h
    where
      onward : ℕ → Reader → Stood
      onward = stood fields true free closed bytes

      by_read : (r : Result Read RefusedAt) → ((x : Read) → ending_of (onward x.next x.reader).stand at ≡ ended_whole f c → (f ≡ free) × (c ≡ closed))
          → ending_of (look false onward free closed place reader r).stand at ≡ ended_whole f c → (f ≡ free) × (c ≡ closed)
      by_read (Err e) more h = absurd (let z : ◌≡◌ {A = ℕ} 0 1 = cc in omega arith)
      by_read (Ok x) more h = by_field x.field (more x) h
        where
          by_field : (g : Field) → (ending_of (onward x.next x.reader).stand at ≡ ended_whole f c → (f ≡ free) × (c ≡ closed))
              → ending_of (look false onward free closed place reader (Ok (record { field = g; next = x.next; reader = x.reader }))).stand at ≡ ended_whole f c
              → (f ≡ free) × (c ≡ closed)
          by_field (field.Sizes s) more h = absurd (let z : ◌≡◌ {A = ℕ} 0 1 = cc in omega arith)
          by_field (field.Event n e) more h = absurd (let z : ◌≡◌ {A = ℕ} 0 1 = cc in omega arith)
          by_field field.End more h = more h
          by_field field.Nothing more h =
              let ends : ◌≡◌ {A = Whole} (record { free = free; closed = closed }) (record { free = f; closed = c }) = cc in (ap (λ (w : Whole). w.free) (sym ends), ap (λ (w : Whole). w.closed) (sym ends))
