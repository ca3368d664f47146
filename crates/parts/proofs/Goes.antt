-- A part is taken as the replay of the trace goes: its events are the trace's, and where it has ended the trace's replay ends so.
--     enough                   a part that does not wait has the bytes of a field
--     goes_from, stands_on     how a replay goes on from where a part stands
--     part_goes                the replay of the trace is that of the part, and goes on from where the part stands
-- Assumes nothing.
use Prim.Native.Nat.{ℕ, suc, ◌+◌, ◌≤◌}
use mathlib.Core.Path.{◌≡◌, refl, ap, ◌∙◌}
use mathlib.Core.Logic.{◌⊎◌, inl, inr}
use mathlib.Core.Bool.{Bool, true, false, cond}
use mathlib.Core.List.{List, [], ◌++◌}
use native.Mathlib.Omega.{arith}
use borrow.Author.Tests.{ltb-false}
use lib.ListN.{length}
use Rattle.std.specs.Prelude.{Some, None, Result}
use Rattle.rules.specs.declared.Sizes.{Sizes}
use Rattle.rules.specs.declared.Refusal.TheVariants.{WrongSize}
use Rattle.rules.specs.Pool.{Pool, fresh}
use Rattle.rules.specs.Outcome.{answers, after, free_records}
use Rattle.fields.specs.declared.Stage.TheVariants.{First, Events, Ended}
use Rattle.fields.specs.declared.Reader.{Reader}
use Rattle.fields.specs.declared.Read.{Read}
use Rattle.fields.specs.declared.RefusedAt.{RefusedAt}
use Rattle.fields.specs.Field.{read_at}
use Rattle.fields.specs.Part.{longest}
use Rattle.trace.specs.declared.Stood.{Stood}
use Rattle.trace.specs.Replay.{Left, untouched, stands, Replayed, stops, with_lines}
use Rattle.trace.specs.Stretch.{behind, stretch, lines_behind}
use Rattle.trace.specs.Stand.{waits, stood}
use Rattle.fields.proofs.Comes.{reader_at, Comes, a_refusal, the_sizes, an_event, the_end, nothing, read_comes}
use Rattle.trace.proofs.Turns.{Onward, turn}
use Rattle.trace.proofs.Behind.{look}
use Rattle.trace.proofs.Along.{is_event, stretch-runs, stretch-ends, goes_on, goes_on_turn, goes_along}
use Rattle.parts.specs.Part.{Taken, rest_taken, stops_at, first_taken, part_taken}
use Rattle.parts.proofs.Field.{taken_in_part, read_in_front}
use Rattle.parts.proofs.Between.{Between, before_sizes, behind_sizes, behind_end_lem, first_of, first_waits}

abbrev pub goes_from : Onward → Left → Stood → Replayed
goes_from onward left x =
    elim x.stand [ Some ending ↦ record { lines = []; ending = ending; left = left } | None ↦ onward x.next x.reader left ]

abbrev pub stands_on : Onward → Taken → Replayed
stands_on onward x = with_lines x.lines (goes_from onward x.left x.stood)

-- a part that does not wait has the bytes of a field, or nothing comes behind it
pub enough : (last : Bool) (part more : List ℕ) → (last ≡ true → more ≡ []) → (place : ℕ) → waits last part place ≡ false
    → (place + longest ≤ length part) ⊎ (more ≡ [])
unfolding waits
enough true part more whole place h = inr (whole refl)
enough false part more whole place h = inl (ltb-false (length part) (place + longest) h)

module _ (takes : Sizes → Bool) (last : Bool) (part more : List ℕ) (whole : last ≡ true → more ≡ []) where
  abbrev onward : Onward
  onward = goes_on takes (part ++ more)

  -- ---- what comes behind them

  module _ (s : Sizes) (q : Pool) where
    abbrev stood_on : ℕ → ℕ → Reader → Stood
    stood_on fields = stood fields last (free_records q) q.collector.closed part

    ended-goes : (fields place step : ℕ)
        → onward place (reader_at Ended step) (stands s q) ≡ goes_from onward (stands s q) (stood_on (suc fields) place (reader_at Ended step))
    unfolding stood
    ended-goes fields place step = by_wait (waits last part place) refl
      where
        by_read : (x : Result Read RefusedAt) → Comes part place step Ended x
            → turn takes onward place (stands s q) x
            ≡ goes_from onward (stands s q) (look false (stood_on fields) (free_records q) q.collector.closed place (reader_at Ended step) x)
        by_read x (a_refusal why) = refl
        by_read x nothing = refl

        by_wait : (wait : Bool) → waits last part place ≡ wait
            → onward place (reader_at Ended step) (stands s q)
            ≡ goes_from onward (stands s q)
            (look wait (stood_on fields) (free_records q) q.collector.closed place (reader_at Ended step) (read_at part place (reader_at Ended step)))
        by_wait true e = refl
        by_wait false e =
            goes_on_turn takes (part ++ more) place step Ended (stands s q)
            ∙ ap (turn takes onward place (stands s q)) (read_in_front part more place (reader_at Ended step) (enough last part more whole place e))
            ∙ by_read (read_at part place (reader_at Ended step)) (read_comes part place step Ended)

    events_go : (place step : ℕ) → is_event (read_at part place (behind step)) ≡ false
        → onward place (behind step) (stands s q) ≡ goes_from onward (stands s q) (stood_on 2 place (behind step))
    unfolding stood
    events_go place step none = by_wait (waits last part place) refl
      where
        by_read : (x : Result Read RefusedAt) → Comes part place step Events x → is_event x ≡ false
            → turn takes onward place (stands s q) x
            ≡ goes_from onward (stands s q) (look false (stood_on 1) (free_records q) q.collector.closed place (behind step) x)
        by_read x (a_refusal why) none = refl
        by_read x (an_event e next lies) none = absurd (let z : ◌≡◌ {A = ℕ} 0 1 = cc in omega arith)
        by_read x (the_end next lies) none = ended-goes 0 next step

        by_wait : (wait : Bool) → waits last part place ≡ wait
            → onward place (behind step) (stands s q)
            ≡ goes_from onward (stands s q)
            (look wait (stood_on 1) (free_records q) q.collector.closed place (behind step) (read_at part place (behind step)))
        by_wait true e = refl
        by_wait false e =
            goes_on_turn takes (part ++ more) place step Events (stands s q)
            ∙ ap (turn takes onward place (stands s q)) (read_in_front part more place (behind step) (enough last part more whole place e))
            ∙ by_read (read_at part place (behind step)) (read_comes part place step Events) none

  -- ---- the part

  rest_goes : (s : Sizes) (p : Pool) (place step : ℕ)
      → onward place (behind step) (stands s p) ≡ stands_on onward (rest_taken last part place (behind step) s p)
  unfolding rest_taken
  rest_goes s p place step =
      let x = stretch part place step in
      goes_along takes (part ++ more) part (taken_in_part part more) s p x (stretch-runs part place step)
      ∙ ap (with_lines (lines_behind step (answers s p x.events))) (events_go s (after s p x.events) x.next x.step (stretch-ends part place step))

  rest_ended : (s : Sizes) (p : Pool) (place step : ℕ)
      → onward place (reader_at Ended step) (stands s p) ≡ stands_on onward (rest_taken last part place (reader_at Ended step) s p)
  unfolding rest_taken
  rest_ended s p place step = ap (with_lines []) (ended-goes s p 1 place step)

  first_goes : (step : ℕ) → onward 0 (reader_at First step) untouched ≡ stands_on onward (first_taken takes last part (reader_at First step))
  unfolding first_taken
  first_goes step = by_wait (waits last part 0) refl
    where
      by_takes : (b : Bool) (s : Sizes) (next : ℕ)
          → cond b (onward next (behind 0) (stands s (fresh s))) (stops WrongSize 0 untouched)
          ≡ stands_on onward (cond b (rest_taken last part next (behind 0) s (fresh s)) (stops_at WrongSize 0 (reader_at First step)))
      by_takes true s next = rest_goes s (fresh s) next 0
      by_takes false s next = refl

      by_read : (x : Result Read RefusedAt) → Comes part 0 step First x → turn takes onward 0 untouched x ≡ stands_on onward (first_of last part takes (reader_at First step) x)
      by_read x (a_refusal why) = refl
      by_read x (the_sizes s next range lies) = by_takes (takes s) s next

      by_wait : (wait : Bool) → waits last part 0 ≡ wait
          → onward 0 (reader_at First step) untouched
          ≡ stands_on onward
          (cond wait (first_waits last part (reader_at First step)) (first_of last part takes (reader_at First step) (read_at part 0 (reader_at First step))))
      by_wait true e = refl
      by_wait false e =
          goes_on_turn takes (part ++ more) 0 step First untouched
          ∙ ap (turn takes onward 0 untouched) (read_in_front part more 0 (reader_at First step) (enough last part more whole 0 e))
          ∙ by_read (read_at part 0 (reader_at First step)) (read_comes part 0 step First)

  pub part_goes : (reader : Reader) (left : Left) → Between reader left → onward 0 reader left ≡ stands_on onward (part_taken takes last part reader left)
  unfolding part_taken
  part_goes reader left (before_sizes {step = step}) = first_goes step
  part_goes reader left (behind_sizes {step = step} {s = s} {p = p}) = rest_goes s p 0 step
  part_goes reader left (behind_end_lem {step = step} {s = s} {p = p}) = rest_ended s p 0 step
