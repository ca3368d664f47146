-- The closed cycles of a run are the cycles that the promises speak of (`Cycle` of promises/specs/Cycle.antt), each of them, once and in their order.
--     IsCycle, each_is_a_cycle     a closed cycle is a cycle: its first event opens it, and the rest goes on until it closes
--     cycles_append                a run in two halves, between which no cycle is open
--     cycle_is_there               a cycle that a run has stands among its closed cycles, behind those that closed before it opened: that is its ordinal
-- Assumes nothing.
use mathlib.Core.Path.{◌≡◌, refl, sym, ap, ◌∙◌, subst}
use mathlib.Core.Bool.{Bool, true, false, cond, ◌&&◌, ◌||◌}
use mathlib.Core.List.{List, [], ◌∷◌, ◌++◌}
use borrow.Author.Tests.{eqb-true, eqb-false, eq-eqb, ne_eqb, not-true}
use Rattle.rules.specs.declared.Sizes.{Sizes}
use Rattle.rules.specs.declared.Event.{Event}
use Rattle.rules.specs.Pool.{Pool}
use Rattle.rules.specs.Outcome.{outcome, after}
use Rattle.rules.specs.Sound.{Each}
use Rattle.laws.proofs.Tests.{never, and_left, and_right}
use Rattle.promises.specs.Cycle.{ToClose, closing, going_on, Cycle}
use Rattle.cycles.specs.Cycles.{is_opening, is_close, ClosedCycle, up_to_close, is_closed_by, closed_cycles}
use Rattle.cycles.proofs.KeptUp.{at_rest, opens_is, closes_is, after_append}

module _ (s : Sizes) where
  -- ---- a closed cycle is a cycle

  abbrev pub IsCycle : ClosedCycle → Type 0
  IsCycle c = (e : Event) × (rest : List Event) × (c.events ≡ e ∷ rest) × Cycle s c.opening e rest

  abbrev rested : (p : Pool) → at_rest p ≡ true → p.collector.phase ≡ 0
  rested p = eqb-true p.collector.phase 0

  abbrev unrested : (p : Pool) → at_rest p ≡ false → p.collector.phase ≡ 0 → ⊥
  unrested p = eqb-false p.collector.phase 0

  goes_to_close : (events : List Event) (p : Pool) → at_rest p ≡ false → is_closed_by s p events ≡ true → ToClose s p (up_to_close s p events)
  unfolding is_closed_by up_to_close
  goes_to_close [] p going closed = absurd (never closed)
  goes_to_close (e ∷ events) p going closed = by_next (at_rest q) refl (goes_to_close events q)
    where
      q : Pool
      q = (outcome s p e).pool

      rest : Bool → List Event
      rest b = e ∷ cond b [] (up_to_close s q events)

      by_next : (b : Bool) → at_rest q ≡ b → (at_rest q ≡ false → is_closed_by s q events ≡ true → ToClose s q (up_to_close s q events)) → ToClose s p (up_to_close s p (e ∷ events))
      by_next true here more =
          subst (λ (b : Bool). ToClose s p (rest b)) (sym (closes_is p q false true going here)) (closing (record { before = unrested p going; after = rested q here }))
      by_next false here more =
          subst (λ (b : Bool). ToClose s p (rest b)) (sym (closes_is p q false false going here))
          (going_on (unrested q here) (more here (ap (λ (b : Bool). b || is_closed_by s q events) (sym (closes_is p q false false going here)) ∙ closed)))

  pub each_is_a_cycle : (events : List Event) (p : Pool) → Each IsCycle (closed_cycles s p events)
  unfolding closed_cycles
  each_is_a_cycle [] p = tt
  each_is_a_cycle (e ∷ events) p = by_test (is_opening p q && is_closed_by s q events) refl (each_is_a_cycle events q)
    where
      q : Pool
      q = (outcome s p e).pool

      here : ClosedCycle
      here = record { opening = p; events = e ∷ up_to_close s q events }

      is_cycle : is_opening p q ≡ true → is_closed_by s q events ≡ true → IsCycle here
      is_cycle opening closed =
          let going : at_rest q ≡ false = not-true (at_rest q) (and_right (at_rest p) _ opening) in
          (e, up_to_close s q events, refl, record { opens = record { before = rested p (and_left (at_rest p) _ opening); after = unrested q going }; to_close = goes_to_close events q going closed })

      by_test : (b : Bool) → (is_opening p q && is_closed_by s q events) ≡ b → Each IsCycle (closed_cycles s q events)
          → Each IsCycle (cond b (here ∷ closed_cycles s q events) (closed_cycles s q events))
      by_test true h more = (is_cycle (and_left (is_opening p q) _ h) (and_right (is_opening p q) _ h), more)
      by_test false h more = more

  -- ---- a run in two halves

  -- what is open at first and not at the end was closed
  closed_ends : (events : List Event) (p : Pool) → at_rest p ≡ false → at_rest (after s p events) ≡ true → is_closed_by s p events ≡ true
  unfolding after is_closed_by
  closed_ends [] p going rest = absurd (never (sym going ∙ rest))
  closed_ends (e ∷ events) p going rest = by_next (at_rest q) refl (λ here. closed_ends events q here rest)
    where
      q : Pool
      q = (outcome s p e).pool

      by_next : (b : Bool) → at_rest q ≡ b → (at_rest q ≡ false → is_closed_by s q events ≡ true) → (is_close p q || is_closed_by s q events) ≡ true
      by_next true here more = ap (λ (b : Bool). b || is_closed_by s q events) (closes_is p q false true going here)
      by_next false here more = ap (λ (b : Bool). b || is_closed_by s q events) (closes_is p q false false going here) ∙ more here

  -- what closes in the first half
  closes_first : (first second : List Event) (p : Pool) → is_closed_by s p first ≡ true
      → (is_closed_by s p (first ++ second) ≡ true) × (up_to_close s p (first ++ second) ≡ up_to_close s p first)
  unfolding is_closed_by up_to_close
  closes_first [] second p closed = absurd (never closed)
  closes_first (e ∷ first) second p closed = by_close (is_close p q) closed (closes_first first second q)
    where
      q : Pool
      q = (outcome s p e).pool

      by_close : (b : Bool) → (b || is_closed_by s q first) ≡ true
          → (is_closed_by s q first ≡ true → (is_closed_by s q (first ++ second) ≡ true) × (up_to_close s q (first ++ second) ≡ up_to_close s q first))
          → ((b || is_closed_by s q (first ++ second)) ≡ true) × (e ∷ cond b [] (up_to_close s q (first ++ second)) ≡ e ∷ cond b [] (up_to_close s q first))
      by_close true h more = (refl, refl)
      by_close false h more = ((more h).0, ap (λ (xs : List Event). e ∷ xs) (more h).1)

  pub cycles_append : (first second : List Event) (p : Pool) → at_rest (after s p first) ≡ true
      → closed_cycles s p (first ++ second) ≡ closed_cycles s p first ++ closed_cycles s (after s p first) second
  unfolding after closed_cycles
  cycles_append [] second p rest = refl
  cycles_append (e ∷ first) second p rest = by_opening (is_opening p q) refl (cycles_append first second q rest)
    where
      q : Pool
      q = (outcome s p e).pool

      -- the cycles of some events, one of them from here on, if it is one
      from : Bool → List Event → List ClosedCycle → List ClosedCycle
      from b events more = cond b (record { opening = p; events = e ∷ events } ∷ more) more

      by_opening : (b : Bool) → is_opening p q ≡ b → closed_cycles s q (first ++ second) ≡ closed_cycles s q first ++ closed_cycles s (after s q first) second
          → from (b && is_closed_by s q (first ++ second)) (up_to_close s q (first ++ second)) (closed_cycles s q (first ++ second))
          ≡ from (b && is_closed_by s q first) (up_to_close s q first) (closed_cycles s q first) ++ closed_cycles s (after s q first) second
      by_opening true opening same =
          let closed = closed_ends first q (not-true (at_rest q) (and_right (at_rest p) _ opening)) rest in
          let first_half = closes_first first second q closed in
          (λ j. from (first_half.0 j) (first_half.1 j) (same j)) ∙ ap (λ (b : Bool). from b (up_to_close s q first) (closed_cycles s q first) ++ closed_cycles s (after s q first) second) (sym closed)
      by_opening false opening same = same

  -- ---- a cycle that a run has

  -- an open cycle up to its close
  closes-behind : {p : Pool} {during : List Event} → ToClose s p during → (later : List Event) → at_rest p ≡ false
      → (is_closed_by s p (during ++ later) ≡ true) × (up_to_close s p (during ++ later) ≡ during)
      × (closed_cycles s p (during ++ later) ≡ closed_cycles s (after s p during) later)
  unfolding is_closed_by up_to_close closed_cycles after
  closes-behind {p} (closing {e = e} close) later going =
      let q = (outcome s p e).pool in
      let rest : at_rest q ≡ true = eq-eqb q.collector.phase 0 close.after in (
        ap (λ (b : Bool). b || is_closed_by s q later) (closes_is p q false true going rest),
        ap (λ (b : Bool). e ∷ cond b [] (up_to_close s q later)) (closes_is p q false true going rest),
        ap (λ (b : Bool). cond (b && is_closed_by s q later) (record { opening = p; events = e ∷ up_to_close s q later } ∷ closed_cycles s q later) (closed_cycles s q later))
            (opens_is p q false true going rest),
      )
  closes-behind {p} (going_on {e = e} {events = events} on more) later going =
      let q = (outcome s p e).pool in
      let still : at_rest q ≡ false = ne_eqb q.collector.phase 0 on in
      let further = closes-behind more later still in (
        ap (λ (b : Bool). b || is_closed_by s q (events ++ later)) (closes_is p q false false going still) ∙ further.0,
        ap (λ (b : Bool). e ∷ cond b [] (up_to_close s q (events ++ later))) (closes_is p q false false going still) ∙ ap (λ (xs : List Event). e ∷ xs) further.1,
        ap (λ (b : Bool). cond (b && is_closed_by s q (events ++ later)) (record { opening = p; events = e ∷ up_to_close s q (events ++ later) } ∷ closed_cycles s q (events ++ later)) (closed_cycles s q (events ++ later)))
            (opens_is p q false false going still) ∙ further.2,
      )

  cycle_first : (p : Pool) (e : Event) (during later : List Event) → Cycle s p e during
      → closed_cycles s p (e ∷ during ++ later) ≡ record { opening = p; events = e ∷ during } ∷ closed_cycles s (after s p (e ∷ during)) later
  unfolding closed_cycles after
  cycle_first p e during later cycle =
      let q = (outcome s p e).pool in
      let going : at_rest q ≡ false = ne_eqb q.collector.phase 0 cycle.opens.after in
      let opening : is_opening p q ≡ true = opens_is p q true false (eq-eqb p.collector.phase 0 cycle.opens.before) going in
      let rest = closes-behind cycle.to_close later going in
      λ j. cond (opening j && rest.0 j) (record { opening = p; events = e ∷ rest.1 j } ∷ rest.2 j) (rest.2 j)

  pub cycle_is_there : (p : Pool) (before : List Event) (e : Event) (during later : List Event) → Cycle s (after s p before) e during
      → closed_cycles s p (before ++ (e ∷ during ++ later))
      ≡ closed_cycles s p before ++ (record { opening = after s p before; events = e ∷ during } ∷ closed_cycles s (after s p (before ++ (e ∷ during))) later)
  cycle_is_there p before e during later cycle =
      let q = after s p before in
      cycles_append before (e ∷ during ++ later) p (eq-eqb q.collector.phase 0 cycle.opens.before)
      ∙ ap (λ (xs : List ClosedCycle). closed_cycles s p before ++ xs)
      (cycle_first q e during later cycle
      ∙ ap (λ (r : Pool). record { opening = q; events = e ∷ during } ∷ closed_cycles s r later) (sym (after_append s p before (e ∷ during))))
