-- Reporting a part first and the rest later changes nothing, however the bytes arrive.
--     then_told          what a part tells, and then what is left
--     part_told_lem      what the events of a trace tell is what those of a part tell, and then those that are left where the part stands
--     parts_reported     what is printed for the parts
--     report_is          is the text of the report of the trace
-- Assumes nothing.
use Prim.Native.Nat.{ℕ, ◌+◌, ◌≤◌}
use mathlib.Core.Path.{◌≡◌, refl, sym, ap, ◌∙◌}
use mathlib.Core.Bool.{Bool, true, false, cond}
use mathlib.Core.List.{List, [], ◌∷◌, ◌++◌, append-nil, append_assoc, flatten}
use native.Mathlib.Omega.{arith}
use lib.ListN.{length, drop}
use lib.Seq.{drop-append-le}
use Rattle.std.specs.Prelude.{Option, Some, None, Result}
use Rattle.rules.specs.declared.Sizes.{Sizes}
use Rattle.rules.specs.declared.Event.{Event}
use Rattle.rules.specs.declared.Refusal.TheVariants.{WrongSize, StopsShort}
use Rattle.rules.specs.Pool.{Pool, fresh}
use Rattle.rules.specs.Outcome.{after}
use Rattle.fields.specs.declared.Stage.TheVariants.{First, Ended}
use Rattle.fields.specs.declared.Reader.{Reader}
use Rattle.fields.specs.declared.Read.{Read}
use Rattle.fields.specs.declared.RefusedAt.{RefusedAt}
use Rattle.fields.specs.Field.{refused_at, read_at}
use Rattle.fields.proofs.Comes.{reader_at, Comes, a_refusal, the_sizes, read_comes}
use Rattle.cycles.specs.declared.Cycle.{Cycle}
use Rattle.cycles.specs.declared.Tally.{Tally}
use Rattle.cycles.specs.Cycles.{cycles_of}
use Rattle.cycles.proofs.KeptUp.{tallies_are, tallies_append, tally_append}
use Rattle.trace.specs.declared.Stood.{Stood}
use Rattle.trace.specs.Replay.{Left, Ending, untouched, stands, Replayed, with_lines, at_start}
use Rattle.trace.specs.Stretch.{behind, stretch}
use Rattle.trace.specs.Stand.{waits}
use Rattle.tally.specs.Report.{reported}
use Rattle.tally.proofs.Whole.{cycles_first, cycles_none}
use Rattle.parts.specs.Part.{Taken, stand_on, rest_taken, stops_at, first_taken, part_taken, moved_ending, over, played}
use Rattle.parts.specs.Work.{no_work, rest_work, first_work, part_work}
use Rattle.parts.specs.Printed.{ending_printed}
use Rattle.parts.proofs.Field.{read_in_front}
use Rattle.parts.proofs.Between.{Between, before_sizes, behind_sizes, behind_end_lem, part_waits, first_of, work_of, first_waits}
use Rattle.parts.proofs.Goes.{enough}
use Rattle.parts.proofs.Works.{left_work, ended-left, rest_works}
use Rattle.parts.proofs.Played.{played_is_replayed}
use Rattle.reports.specs.Told.{PartTold, told_from, told_work}
use Rattle.reports.specs.Printed.{cycles_printed, report_printed, report_parts}
use Rattle.reports.proofs.Lines.{lines_append}

abbrev pub then_told : PartTold → Option Ending → (Tally → PartTold) → PartTold
then_told x (Some ending) rest = x
then_told x None rest = record { tally = (rest x.tally).tally; cycles = x.cycles ++ (rest x.tally).cycles }

-- ---- a part

-- events from a pool, and then those that are left
told_left : (bytes : List ℕ) (s : Sizes) (p : Pool) (t : Tally) (events : List Event) (y : Stood) → let q = after s p events in
    told_from t (stands s p) (events ++ left_work bytes y s q)
    ≡ then_told (told_from t (stands s p) events) y.stand (λ u. told_from u (stands s q) (rest_work (drop y.next bytes) 0 y.reader s q).events)
told_left bytes s p t events y = by_stand y.stand
  where
    later : List Event
    later = (rest_work (drop y.next bytes) 0 y.reader s (after s p events)).events

    by_stand : (st : Option Ending)
        → told_from t (stands s p) (events ++ elim st [ Some ending ↦ [] | None ↦ later ])
        ≡ then_told (told_from t (stands s p) events) st (λ u. told_from u (stands s (after s p events)) later)
    by_stand (Some ending) = ap (told_from t (stands s p)) (append-nil events)
    by_stand None = λ j. record { tally = tally_append s p t events later j; cycles = tallies_append s p t events later j }

module _ (takes : Sizes → Bool) (last : Bool) (part more : List ℕ) (whole : last ≡ true → more ≡ []) (t : Tally) where
  abbrev all : List ℕ
  all = part ++ more

  -- what the whole tells, by a part that stands so
  abbrev Tells : PartTold → PartTold → Taken → Type 0
  Tells everything told x =
      everything ≡ then_told told x.stood.stand (λ u. told_work u (part_work takes true (drop x.stood.next all) x.stood.reader x.left))

  rest_told : (s : Sizes) (p : Pool) (place step : ℕ) → place ≤ length part
      → Tells (told_work t (rest_work all place (behind step) s p)) (told_work t (rest_work part place (behind step) s p)) (rest_taken last part place (behind step) s p)
  unfolding rest_work rest_taken part_work
  rest_told s p place step inside =
      let x = stretch part place step in
      ap (told_from t (stands s p)) (rest_works last part more whole s p place step inside)
      ∙ told_left all s p t x.events (stand_on last part x.next (behind x.step) (after s p x.events))

  ended_told : (s : Sizes) (p : Pool) (step : ℕ)
      → Tells (told_work t (rest_work all 0 (reader_at Ended step) s p)) (told_work t (rest_work part 0 (reader_at Ended step) s p)) (rest_taken last part 0 (reader_at Ended step) s p)
  unfolding rest_work rest_taken part_work after
  ended_told s p step =
      ap (told_from t (stands s p)) (sym (ended-left last part more whole s p 2 0 step)) ∙ told_left all s p t [] (stand_on last part 0 (reader_at Ended step) p)

  first_told : (step : ℕ)
      → Tells (told_work t (first_work takes true all (reader_at First step))) (told_work t (first_work takes last part (reader_at First step))) (first_taken takes last part (reader_at First step))
  unfolding first_work first_taken part_work waits
  first_told step = by_wait (waits last part 0) refl
    where
      by_takes : (b : Bool) (s : Sizes) (next : ℕ) → next ≤ length part
          → Tells (told_work t (cond b (rest_work all next (behind 0) s (fresh s)) no_work)) (told_work t (cond b (rest_work part next (behind 0) s (fresh s)) no_work))
          (cond b (rest_taken last part next (behind 0) s (fresh s)) (stops_at WrongSize 0 (reader_at First step)))
      by_takes true s next inside = rest_told s (fresh s) next 0 inside
      by_takes false s next inside = refl

      by_read : (x : Result Read RefusedAt) → Comes part 0 step First x
          → Tells (told_work t (work_of all takes x)) (told_work t (work_of part takes x)) (first_of last part takes (reader_at First step) x)
      by_read x (a_refusal why) = refl
      by_read x (the_sizes s next range lies) = by_takes (takes s) s next (omega arith)

      by_wait : (wait : Bool) → waits last part 0 ≡ wait
          → Tells (told_work t (work_of all takes (read_at all 0 (reader_at First step))))
          (told_work t (cond wait no_work (work_of part takes (read_at part 0 (reader_at First step)))))
          (cond wait (first_waits last part (reader_at First step)) (first_of last part takes (reader_at First step) (read_at part 0 (reader_at First step))))
      by_wait true e = refl
      by_wait false e =
          ap (λ (x : Result Read RefusedAt). told_work t (work_of all takes x)) (read_in_front part more 0 (reader_at First step) (enough last part more whole 0 e))
          ∙ by_read (read_at part 0 (reader_at First step)) (read_comes part 0 step First)

  pub part_told_lem : (reader : Reader) (left : Left) → Between reader left
      → Tells (told_work t (part_work takes true all reader left)) (told_work t (part_work takes last part reader left)) (part_taken takes last part reader left)
  unfolding part_work part_taken
  part_told_lem reader left (before_sizes {step = step}) = first_told step
  part_told_lem reader left (behind_sizes {step = step} {s = s} {p = p}) = rest_told s p 0 step (omega arith)
  part_told_lem reader left (behind_end_lem {step = step} {s = s} {p = p}) = ended_told s p step

-- ---- the parts, one after another

abbrev last_line : Replayed → List ℕ
last_line x = ending_printed x.ending

module _ (takes : Sizes → Bool) where
  -- the cycles of what is left of a part and of what comes behind it
  abbrev cycles_on : Tally → List ℕ → Reader → Left → List Cycle
  cycles_on t bytes reader left = (told_work t (part_work takes true bytes reader left)).cycles

  abbrev Reports : List (List ℕ) → Type 0
  Reports pieces =
      (base : ℕ) (rest : List ℕ) (reader : Reader) (left : Left) (t : Tally) (before : ℕ) → Between reader left
      → report_parts takes pieces base rest reader left t before
      ≡ cycles_printed before (cycles_on t (rest ++ flatten pieces) reader left) ++ ending_printed (played takes pieces base rest reader left).ending

  reports_last : Reports []
  unfolding report_parts played flatten moved_ending
  reports_last base rest reader left t before between =
      ap (λ (text : List ℕ). cycles_printed before (cycles_on t rest reader left) ++ text) (by_stand x.stood.stand)
      ∙ ap (λ (bytes : List ℕ). cycles_printed before (cycles_on t bytes reader left) ++ ending_printed (played takes [] base rest reader left).ending) (sym (append-nil rest))
    where
      x : Taken
      x = part_taken takes true rest reader left

      by_stand : (st : Option Ending)
          → elim st [ Some ending ↦ ending_printed (moved_ending base ending) | None ↦ ending_printed (refused_at StopsShort (base + x.stood.next)) ]
          ≡ last_line (elim st [ Some ending ↦ over base x ending | None ↦ over base x (refused_at StopsShort x.stood.next) ])
      by_stand (Some ending) = refl
      by_stand None = refl

  reports_more : (piece : List ℕ) (pieces : List (List ℕ)) → Reports pieces → Reports (piece ∷ pieces)
  unfolding report_parts played flatten
  reports_more piece pieces further base rest reader left t before between =
      by_stand x.stood.stand refl
      ∙ ap (λ (cycles : List Cycle). cycles_printed before cycles ++ ending_printed (played takes (piece ∷ pieces) base rest reader left).ending)
      (sym
      (ap (λ (bytes : List ℕ). cycles_on t bytes reader left) (sym (append_assoc rest piece (flatten pieces)))
      ∙ ap (λ (told : PartTold). told.cycles)
      (part_told_lem takes false part (flatten pieces) (λ e. absurd (let z : ◌≡◌ {A = ℕ} 0 1 = cc in omega arith)) t reader left between)))
    where
      part : List ℕ
      part = rest ++ piece

      x : Taken
      x = part_taken takes false part reader left

      y : PartTold
      y = told_work t (part_work takes false part reader left)

      -- behind the part
      next : List ℕ
      next = drop x.stood.next part

      later : Replayed
      later = played takes pieces (base + x.stood.next) next x.stood.reader x.left

      text_later : List ℕ
      text_later = report_parts takes pieces (base + x.stood.next) next x.stood.reader x.left y.tally (before + length y.cycles)

      told_later : Tally → PartTold
      told_later u = told_work u (part_work takes true (drop x.stood.next (part ++ flatten pieces)) x.stood.reader x.left)

      by_stand : (st : Option Ending) → x.stood.stand ≡ st
          → cycles_printed before y.cycles ++ elim st [ Some ending ↦ ending_printed (moved_ending base ending) | None ↦ text_later ]
          ≡ cycles_printed before (then_told y st told_later).cycles
          ++ last_line (elim st [ Some ending ↦ over base x ending | None ↦ with_lines x.lines later ])
      by_stand (Some ending) e = refl
      by_stand None e =
          let w = part_waits false part takes reader left between e in
          let lines = cycles_printed before y.cycles in
          let more = cycles_printed (before + length y.cycles) (told_later y.tally).cycles in
          ap (λ (text : List ℕ). lines ++ text)
          (further (base + x.stood.next) next x.stood.reader x.left y.tally (before + length y.cycles) w.between
          ∙ ap (λ (bytes : List ℕ). cycles_printed (before + length y.cycles) (cycles_on y.tally bytes x.stood.reader x.left) ++ ending_printed later.ending)
          (sym (drop-append-le x.stood.next part (flatten pieces) w.inside)))
          ∙ sym (append_assoc lines more (ending_printed later.ending))
          ∙ ap (λ (text : List ℕ). text ++ ending_printed later.ending) (sym (lines_append before y.cycles (told_later y.tally).cycles))

  pub parts_reported : (pieces : List (List ℕ)) → Reports pieces
  parts_reported [] = reports_last
  parts_reported (piece ∷ pieces) = reports_more piece pieces (parts_reported pieces)

  -- ---- the whole trace

  -- its closed cycles are those that its events tell, whatever is taken for the numbers of an open one at first
  told_reported : (t : Tally) (bytes : List ℕ) → cycles_on t bytes at_start untouched ≡ (reported takes bytes).cycles
  unfolding part_work first_work waits rest_work fresh
  told_reported t bytes = by_read (read_at bytes 0 at_start) refl (read_comes bytes 0 0 First)
    where
      by_takes : (b : Bool) (s : Sizes) (next : ℕ)
          → (told_work t (cond b (rest_work bytes next (behind 0) s (fresh s)) no_work)).cycles ≡ cond b (cycles_of s (fresh s) (stretch bytes next 0).events) []
      by_takes true s next = tallies_are s (stretch bytes next 0).events (fresh s) t refl
      by_takes false s next = refl

      by_read : (x : Result Read RefusedAt) → read_at bytes 0 at_start ≡ x → Comes bytes 0 0 First x → (told_work t (work_of bytes takes x)).cycles ≡ (reported takes bytes).cycles
      by_read x read (a_refusal why) = sym (cycles_none takes bytes read)
      by_read x read (the_sizes s next range lies) = by_takes (takes s) s next ∙ sym (cycles_first takes bytes read refl)

  pub report_is : (pieces : List (List ℕ)) (t : Tally) → report_parts takes pieces 0 [] at_start untouched t 0 ≡ report_printed (reported takes (flatten pieces))
  unfolding report_printed reported
  report_is pieces t =
      parts_reported pieces 0 [] at_start untouched t 0 before_sizes
      ∙ (λ j. cycles_printed 0 (told_reported t (flatten pieces) j) ++ ending_printed (played_is_replayed takes pieces j).ending)
