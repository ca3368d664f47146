-- The numbers that are kept up event by event are those of the cycles' events.
--     after_append, tallies_append, tally_append     a run in two halves
--     at_rest, opens_is, closes_is     no cycle is open; an opening and a close, by that
--     so_far                       the numbers of an open cycle are those of its events so far
--     tallied_from, tallied_open  an event that opens a cycle, and one in an open cycle
--     closing_open                the cycle that closes
--     tallies_are                 from a pool where no cycle is open, the cycles that close are those of the run
-- Assumes nothing.
use Prim.Native.Nat.{◌+◌}
use mathlib.Core.Path.{◌≡◌, refl, sym, ap, ◌∙◌, subst}
use mathlib.Core.Bool.{Bool, true, false, cond, not, ◌&&◌, ◌||◌}
use mathlib.Core.List.{List, [], ◌∷◌, ◌++◌, append_assoc, map}
use native.Mathlib.Omega.{arith}
use lib.Dec.{eqb}
use Rattle.rules.specs.declared.Sizes.{Sizes}
use Rattle.rules.specs.declared.Event.{Event}
use Rattle.rules.specs.Pool.{Pool}
use Rattle.rules.specs.Outcome.{outcome, after}
use Rattle.cycles.specs.declared.Cycle.{Cycle}
use Rattle.cycles.specs.declared.Tally.{Tally}
use Rattle.cycles.specs.Cycles.{is_opening, is_close, ClosedCycle, up_to_close, is_closed_by, closed_cycles, taken_by, taken_in, freed_by, freed_in, count_sum, less, net_in, numbers_of, cycles_of}
use Rattle.cycles.specs.Tally.{begun, tally_step, closed_as, tallied, closing, tally_after, tallies_of}

-- no cycle is open
abbrev pub at_rest : Pool → Bool
at_rest p = eqb p.collector.phase 0

-- what the phases before and after say of an opening and of a close
pub opens_is : (p q : Pool) (a b : Bool) → at_rest p ≡ a → at_rest q ≡ b → is_opening p q ≡ (a && not b)
opens_is p q a b x y = λ j. x j && not (y j)

pub closes_is : (p q : Pool) (a b : Bool) → at_rest p ≡ a → at_rest q ≡ b → is_close p q ≡ (not a && b)
closes_is p q a b x y = λ j. not (x j) && y j

module _ (s : Sizes) where
  -- ---- a run in two halves

  pub after_append : (p : Pool) (first second : List Event) → after s p (first ++ second) ≡ after s (after s p first) second
  unfolding after
  after_append p [] second = refl
  after_append p (e ∷ first) second = after_append (outcome s p e).pool first second

  pub tallies_append : (p : Pool) (t : Tally) (first second : List Event)
      → tallies_of s p t (first ++ second) ≡ tallies_of s p t first ++ tallies_of s (after s p first) (tally_after s p t first) second
  unfolding tallies_of tally_after after
  tallies_append p t [] second = refl
  tallies_append p t (e ∷ first) second =
      let q = (outcome s p e).pool in
      let u = tallied s p t e in
      ap (λ (xs : List Cycle). closing s p t e ++ xs) (tallies_append q u first second)
      ∙ sym (append_assoc (closing s p t e) (tallies_of s q u first) (tallies_of s (after s q first) (tally_after s q u first) second))

  pub tally_append : (p : Pool) (t : Tally) (first second : List Event)
      → tally_after s p t (first ++ second) ≡ tally_after s (after s p first) (tally_after s p t first) second
  unfolding tally_after after
  tally_append p t [] second = refl
  tally_append p t (e ∷ first) second = tally_append (outcome s p e).pool (tallied s p t e) first second

  -- ---- one event more

  after_snoc : (p : Pool) (events : List Event) (e : Event) → after s p (events ++ e ∷ []) ≡ (outcome s (after s p events) e).pool
  unfolding after
  after_snoc p events e = after_append p events (e ∷ [])

  taken_snoc : (p : Pool) (events : List Event) (e : Event) → taken_in s p (events ++ e ∷ []) ≡ taken_in s p events + taken_by s (after s p events) e
  unfolding after taken_in
  taken_snoc p [] e = omega arith
  taken_snoc p (d ∷ events) e = omega (arith, taken_snoc (outcome s p d).pool events e)

  freed_snoc : (p : Pool) (events : List Event) (e : Event) → freed_in s p (events ++ e ∷ []) ≡ freed_in s p events + freed_by (outcome s (after s p events) e).answer
  unfolding after freed_in
  freed_snoc p [] e = omega arith
  freed_snoc p (d ∷ events) e = omega (arith, freed_snoc (outcome s p d).pool events e)

  -- ---- the open cycle

  abbrev so_far : Pool → List Event → Tally
  so_far p events = record { opening = count_sum p; taken = taken_in s p events; freed = freed_in s p events }

  -- where no cycle opens
  tallied_on : (p : Pool) (t : Tally) (e : Event) → is_opening p (outcome s p e).pool ≡ false
      → tallied s p t e ≡ record { opening = t.opening; taken = t.taken + taken_by s p e; freed = t.freed + freed_by (outcome s p e).answer }
  unfolding tallied tally_step taken_by
  tallied_on p t e no-opening =
      ap (λ (b : Bool). let u : Tally = cond b (begun (count_sum p)) t in record { opening = u.opening; taken = u.taken + taken_by s p e; freed = u.freed + freed_by (outcome s p e).answer }) no-opening

  -- and where one does
  tallied_from : (p : Pool) (t : Tally) (e : Event) → is_opening p (outcome s p e).pool ≡ true → tallied s p t e ≡ so_far p (e ∷ [])
  unfolding tallied tally_step taken_by taken_in freed_in
  tallied_from p t e opening =
      ap (λ (b : Bool). let u : Tally = cond b (begun (count_sum p)) t in record { opening = u.opening; taken = u.taken + taken_by s p e; freed = u.freed + freed_by (outcome s p e).answer }) opening
      ∙ (λ j. record { opening = count_sum p; taken = taken j; freed = freed j })
    where
      taken : 0 + taken_by s p e ≡ taken_by s p e + 0
      taken = omega arith

      freed : 0 + freed_by (outcome s p e).answer ≡ freed_by (outcome s p e).answer + 0
      freed = omega arith

  tallied_open : (start : Pool) (past : List Event) (e : Event) → is_opening (after s start past) (outcome s (after s start past) e).pool ≡ false
      → tallied s (after s start past) (so_far start past) e ≡ so_far start (past ++ e ∷ [])
  tallied_open start past e no-opening =
      tallied_on (after s start past) (so_far start past) e no-opening
      ∙ (λ j. record { opening = count_sum start; taken = sym (taken_snoc start past e) j; freed = sym (freed_snoc start past e) j })

  -- ---- a cycle closes

  -- the cycle of these events
  abbrev cycle : Pool → List Event → Cycle
  cycle start events = numbers_of s (record { opening = start; events = events })

  closing-none : (p : Pool) (t : Tally) (e : Event) → is_close p (outcome s p e).pool ≡ false → closing s p t e ≡ []
  unfolding closing
  closing-none p t e no-close = let q = (outcome s p e).pool in ap (λ (b : Bool). cond b (closed_as (tallied s p t e) (count_sum q) ∷ []) []) no-close

  closing_open : (start : Pool) (past : List Event) (e : Event) → let p = after s start past in let q = (outcome s p e).pool in
      is_opening p q ≡ false → is_close p q ≡ true → closing s p (so_far start past) e ≡ cycle start (past ++ e ∷ []) ∷ []
  unfolding closing net_in
  closing_open start past e no-opening close =
      let p = after s start past in
      let q = (outcome s p e).pool in
      ap (λ (b : Bool). cond b (closed_as (tallied s p (so_far start past) e) (count_sum q) ∷ []) []) close
      ∙ ap (λ (t : Tally). closed_as t (count_sum q) ∷ []) (tallied_open start past e no-opening)
      ∙ ap (λ (r : Pool). record { taken = taken_in s start (past ++ e ∷ []); freed = freed_in s start (past ++ e ∷ []); net = less (count_sum r) (count_sum start) } ∷ [])
      (sym (after_snoc start past e))

  -- ---- the closed cycles, by their first event

  module _ (p : Pool) (e : Event) (events : List Event) where
    abbrev next : Pool
    next = (outcome s p e).pool

    cycles_cons : (b : Bool) → is_opening p next ≡ b
        → cycles_of s p (e ∷ events) ≡ cond (b && is_closed_by s next events) (cycle p (e ∷ up_to_close s next events) ∷ cycles_of s next events) (cycles_of s next events)
    unfolding cycles_of closed_cycles
    cycles_cons b is =
        ap (λ (b : Bool). map (numbers_of s) (chosen (b && is_closed_by s next events))) is ∙ by_test (b && is_closed_by s next events)
      where
        chosen : Bool → List ClosedCycle
        chosen b = cond b (record { opening = p; events = e ∷ up_to_close s next events } ∷ closed_cycles s next events) (closed_cycles s next events)

        by_test : (b : Bool) → map (numbers_of s) (chosen b)
            ≡ cond b (cycle p (e ∷ up_to_close s next events) ∷ cycles_of s next events) (cycles_of s next events)
        by_test true = refl
        by_test false = refl

  -- ---- from rest, and in an open cycle

  -- the rest of an open cycle, if it closes, and the cycles behind it
  abbrev further : Pool → List Event → Pool → List Event → List Cycle
  further start past p events = cond (is_closed_by s p events) (cycle start (past ++ up_to_close s p events) ∷ cycles_of s p events) (cycles_of s p events)

  abbrev FromRest : List Event → Type 0
  FromRest events = (p : Pool) (t : Tally) → at_rest p ≡ true → tallies_of s p t events ≡ cycles_of s p events

  abbrev InCycle : List Event → Type 0
  InCycle events =
      (start : Pool) (past : List Event) → at_rest (after s start past) ≡ false
      → tallies_of s (after s start past) (so_far start past) events ≡ further start past (after s start past) events

  rest_none : FromRest []
  unfolding tallies_of cycles_of closed_cycles
  rest_none p t rest = refl

  cycle_none : InCycle []
  unfolding tallies_of cycles_of closed_cycles is_closed_by
  cycle_none start past open-cycle = refl

  rest_more : (e : Event) (events : List Event) → FromRest events → InCycle events → FromRest (e ∷ events)
  unfolding tallies_of after
  rest_more e events from-rest in-cycle p t rest = by_next (at_rest q) refl
    where
      q : Pool
      q = (outcome s p e).pool

      by_next : (b : Bool) → at_rest q ≡ b → closing s p t e ++ tallies_of s q (tallied s p t e) events ≡ cycles_of s p (e ∷ events)
      by_next true here =
          ap (λ (xs : List Cycle). xs ++ tallies_of s q (tallied s p t e) events) (closing-none p t e (closes_is p q true true rest here))
          ∙ from-rest q (tallied s p t e) here
          ∙ sym (cycles_cons p e events false (opens_is p q true true rest here))
      by_next false here =
          let opening : is_opening p q ≡ true = opens_is p q true false rest here in
          ap (λ (xs : List Cycle). xs ++ tallies_of s q (tallied s p t e) events) (closing-none p t e (closes_is p q true false rest here))
          ∙ ap (λ (u : Tally). tallies_of s q u events) (tallied_from p t e opening)
          ∙ in-cycle p (e ∷ []) here
          ∙ sym (cycles_cons p e events true opening)

  -- the rest of an open cycle, by its first event
  further_cons : (start : Pool) (past : List Event) (p : Pool) (e : Event) (events : List Event) (b : Bool) → let q = (outcome s p e).pool in
      is_close p q ≡ b → is_opening p q ≡ false
      → further start past p (e ∷ events)
      ≡ cond (b || is_closed_by s q events) (cycle start (past ++ e ∷ cond b [] (up_to_close s q events)) ∷ cycles_of s q events) (cycles_of s q events)
  unfolding is_closed_by up_to_close
  further_cons start past p e events b close no-opening =
      let q = (outcome s p e).pool in
      (λ j. cond (close j || is_closed_by s q events) (cycle start (past ++ e ∷ cond (close j) [] (up_to_close s q events)) ∷ cycles_of s p (e ∷ events)) (cycles_of s p (e ∷ events)))
      ∙ ap (λ (xs : List Cycle). cond (b || is_closed_by s q events) (cycle start (past ++ e ∷ cond b [] (up_to_close s q events)) ∷ xs) xs) (cycles_cons p e events false no-opening)

  cycle_more : (e : Event) (events : List Event) → FromRest events → InCycle events → InCycle (e ∷ events)
  unfolding tallies_of
  cycle_more e events from-rest in-cycle start past unclosed = by_next (at_rest q) refl
    where
      p : Pool
      p = after s start past

      q : Pool
      q = (outcome s p e).pool

      t : Tally
      t = so_far start past

      by_next : (b : Bool) → at_rest q ≡ b → closing s p t e ++ tallies_of s q (tallied s p t e) events ≡ further start past p (e ∷ events)
      by_next true here =
          let no-opening : is_opening p q ≡ false = opens_is p q false true unclosed here in
          let close : is_close p q ≡ true = closes_is p q false true unclosed here in
          ap (λ (xs : List Cycle). xs ++ tallies_of s q (tallied s p t e) events) (closing_open start past e no-opening close)
          ∙ ap (λ (xs : List Cycle). cycle start (past ++ e ∷ []) ∷ xs) (from-rest q (tallied s p t e) here)
          ∙ sym (further_cons start past p e events true close no-opening)
      by_next false here =
          let no-opening : is_opening p q ≡ false = opens_is p q false false unclosed here in
          let no-close : is_close p q ≡ false = closes_is p q false false unclosed here in
          ap (λ (xs : List Cycle). xs ++ tallies_of s q (tallied s p t e) events) (closing-none p t e no-close)
          ∙ ap (λ (u : Tally). tallies_of s q u events) (tallied_open start past e no-opening)
          ∙ subst (λ (r : Pool). tallies_of s r (so_far start (past ++ e ∷ [])) events ≡ further start (past ++ e ∷ []) r events) (after_snoc start past e)
          (in-cycle start (past ++ e ∷ []) (ap at_rest (after_snoc start past e) ∙ here))
          ∙ ap (λ (xs : List Event). cond (is_closed_by s q events) (cycle start xs ∷ cycles_of s q events) (cycles_of s q events))
          (append_assoc past (e ∷ []) (up_to_close s q events))
          ∙ sym (further_cons start past p e events false no-close no-opening)

  both : (events : List Event) → FromRest events × InCycle events
  both [] = (rest_none, cycle_none)
  both (e ∷ events) = let more = both events in (rest_more e events more.0 more.1, cycle_more e events more.0 more.1)

  pub tallies_are : (events : List Event) (p : Pool) (t : Tally) → at_rest p ≡ true → tallies_of s p t events ≡ cycles_of s p events
  tallies_are events = (both events).0
