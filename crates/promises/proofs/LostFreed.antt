-- What was lost when a cycle opened, loops aside, is freed in that cycle.
-- The argument. Take the records that were lost at the opening and are not freed yet. Through the cycle they stay used, out of reach and not held, and their links
-- hold what they held: a worker changes only what it reaches, and the scan and the snooping hold only that. Only their own links hold one of them. Their makers'
-- logs are taken in phase 2 and their marks cleared in phase 3, and no entry written since speaks of them; so none of them waits in phase 6, and where that phase empties
-- the links of a record that waits it is another record, whose links hold none of them. At the close no record passes the search. Such a
-- record would pass if its count were 0, since a used record with count 0 and no maker is a candidate; so some link has it as its view value, which is its
-- value, since no log names it: it is linked to from another of them. Going back so from link to link a record comes round, since there are only N: a
-- closed loop keeps it. Whatever no loop keeps was therefore freed.
--     empties_remains, frees_remains     emptying the links of a record that waits touches none of those that remain; freeing a record takes it out of them
--     left-unchanged      in phase 6 one that remains has all changed marks off
--     event_remaining     every event but the close keeps what is known of those that remain
--     left_back           at the close each that remains is linked to from another
--     closing_step        what closes a cycle is a step of phase 6 that finds nothing
--     freed_by_the_close  so by the close all are freed that no loop keeps
--     lost_freed          and so it is in each cycle of a run
-- Assumes nothing.
use Prim.Native.Nat.{ℕ, zero, suc, ◌≤◌, ◌<◌}
use mathlib.Core.Path.{◌≡◌, refl, sym, ap, ◌∙◌, subst}
use mathlib.Core.Logic.{◌⊎◌, inl, inr, ⊎_elim}
use mathlib.Core.Bool.{Bool, true, false, ◌||◌, true≢false}
use mathlib.Core.List.{List, [], ◌∷◌}
use native.Mathlib.Omega.{arith}
use native.Mathlib.Nat.{eq-zero-or-pos}
use borrow.Author.Tests.{ne_eqb, eqb-false}
use lib.Dec.{eqb}
use lib.ListN.{length, get_or}
use Rattle.rules.specs.declared.Sizes.{Sizes}
use Rattle.rules.specs.declared.RecordNumber.{RecordNumber}
use Rattle.rules.specs.declared.LinkNumber.{LinkNumber}
use Rattle.rules.specs.declared.Event.{Event}
use Rattle.rules.specs.declared.Event.TheVariants.{Make, Move, Drop, Load, Store, Look, Post, Collect}
use Rattle.rules.specs.Size.{in_range, links, link_number, board_number}
use Rattle.rules.specs.Pool.{Pool, none, of_record, fresh, count_at, maker_at, value_at, changed_at, register_at}
use Rattle.rules.specs.View.{times, old_in, all_logs, view_value}
use Rattle.rules.specs.Reply.{value, Outcome}
use Rattle.rules.specs.Worker.{makes, moves, drops, register_takes, loads, looks, added, link_takes, stores, posts}
use Rattle.rules.specs.Collect.{opens, snoops, takes, clears, scans, falls, counts, is_unchanged, unchanged, reclaimed, emptied, becomes_free, empties, closes, reclaims, collects}
use Rattle.rules.specs.Outcome.{answers_freed, refused, does, outcome, answers, after}
use Rattle.rules.specs.Sound.{Each, Sound}
use Rattle.laws.proofs.Tests.{bit_off}
use Rattle.laws.proofs.Number.{record_same, link_same, link_inside, link_apart}
use Rattle.laws.proofs.Lists.{of_record_other, Each-all, Each-map}
use Rattle.laws.proofs.Entries.{times_foreign}
use Rattle.laws.proofs.LookUp.{look_up_keeps, view_marked, view_unmarked}
use Rattle.laws.proofs.Tally.{tally_found}
use Rattle.laws.proofs.Chosen.{chosen-low}
use Rattle.laws.proofs.Change.{stored_has, emptied_keeps, emptied_values, emptied_other, empties_unmoved}
use Rattle.laws.proofs.Marks.{on_low}
use Rattle.laws.proofs.Search.{unchanged_all, Passed, passes-unchanged, empties-none, reclaimed-none, reclaims_cases}
use Rattle.laws.proofs.Refusals.{decided_outcome, can_make, can_load, can_store, can_look, can_post}
use Rattle.laws.proofs.Runs.{run_keeps}
use Rattle.laws.proofs.Phases.{by_phase, snoops_cases, takes_cases, clears_cases, scans_cases, counts_cases}
use Rattle.soundness.proofs.Core.{core_in}
use Rattle.promises.specs.Reach.{holds}
use Rattle.promises.specs.Cycle.{Cycle, ToClose, closing, going_on, freed_among}
use Rattle.promises.specs.Lost.{Lost, LoopKeeps}
use Rattle.promises.proofs.Hold.{Reached, reached_fresh, reached_event, run_holds}
use Rattle.promises.proofs.Ready.{Ready, event_ready, fresh_ready}
use Rattle.promises.proofs.Earlier.{AtHand, link_at_hand, entry_at_hand}
use Rattle.promises.proofs.Remain.{Foreign, Left, Holder, Remains, Remaining, left_by, left_some, register_remains, makes_remains, link_takes_remains, remains_in, opens_remaining, snoops_remaining, takes_remaining, clears_remaining, scans_remaining, counts_remaining}
use Rattle.promises.proofs.Opening.{lost_remaining}
use Rattle.promises.proofs.Chain.{Back, loop_found}

-- ---- phase 6

module _ {s : Sizes} {p₀ p : Pool} {R : RecordNumber → Type 0} (sound : Sound s p) (h : Remains s p₀ p R 6 p.collector.position) (y : RecordNumber) (some : 1 ≤ y.0) (low : y.0 ≤ s.n) where
  abbrev q : Pool
  q = empties s y p

  value_then : (l : LinkNumber) → (value_at q l ≡ value_at p l) ⊎ (value_at q l ≡ none)
  unfolding empties
  value_then l = ⊎_elim inl (λ z. inr z.1) (emptied_values (is_unchanged p) s y 0 s.k p l)

  -- what is known of another record stays
  left-emptied : (x : RecordNumber) → R x → (x.0 ≡ y.0 → ⊥) → Left s p₀ q 6 p.collector.position x
  unfolding empties emptied falls
  left-emptied x z apart =
      let l = h.left x z in
      left_by q 6 p.collector.position l
      (record { registers = λ v r. ap (λ ws. get_or (get_or ws.registers v []) r none) (empties_unmoved s y p).workers; values = value_then })
      (ap (λ table. of_record table x.0 false) (emptied_keeps (is_unchanged p) s y (λ r. r.records.used) (λ m r. refl) 0 s.k p))
      (ap (λ table. of_record table x.0 false) (emptied_keeps (is_unchanged p) s y (λ r. r.records.held) (λ m r. refl) 0 s.k p) ∙ l.unheld)
      (λ f k. emptied_other (is_unchanged p) s y 0 s.k p (link_number s x f) (λ g a b e. apart (link_apart s x y f g (left_some l) some k (omega arith) e)))
      (λ v e. l.maker v (sym (ap (λ table. of_record table x.0 0) (emptied_keeps (is_unchanged p) s y (λ r. r.records.maker) (λ m r. refl) 0 s.k p)) ∙ e))
      (λ w k. subst (λ ws. Each (Foreign s x) (get_or ws.log w [])) (sym (empties_unmoved s y p).workers) (l.logs w k))

  nothing_there : (x : RecordNumber) → R x → none ≡ x → ⊥
  nothing_there x z e = let some-x = left_some (h.left x z) in omega (arith, ap (λ (a : RecordNumber). a.0) e)

  -- a link that holds one of them then held it before
  holder_before : (l : LinkNumber) (x : RecordNumber) → R x → value_at q l ≡ x → Holder s R l
  holder_before l x z e = ⊎_elim (λ same. h.holders l x z (sym same ∙ e)) (λ nothing. absurd (nothing_there x z (sym nothing ∙ e))) (value_then l)

  -- a record that waits is none of them: all their changed marks are off
  empties_remains : (R y → ⊥) → Remains s p₀ q R 6 p.collector.position
  empties_remains other =
      record {
        left = λ x z. left-emptied x z (λ e. other (subst R (record_same x y e) z));
        holders = holder_before;
      }

  abbrev Others : RecordNumber → Type 0
  Others x = R x × (eqb y.0 x.0 ≡ false)

  apart_from : (x : RecordNumber) → eqb y.0 x.0 ≡ false → x.0 ≡ y.0 → ⊥
  apart_from x n e = eqb-false y.0 x.0 n (sym e)

  frees_remains : unchanged s p y ≡ true → Remains s p₀ (becomes_free y q) Others 6 p.collector.position
  unfolding becomes_free
  frees_remains off =
      record {
        left =
            λ x z.
            let l = left-emptied x z.0 (apart_from x z.1) in
            left_by (becomes_free y q) 6 p.collector.position l
            (record { registers = λ v r. refl; values = λ m. inl refl })
            (of_record_other q.records.used y.0 x.0 false false (λ e. apart_from x z.1 (sym e)))
            l.unheld
            (λ f k. refl)
            l.maker
            l.logs;
        holders = λ l x z e. other_holder l x z e (holder_before l x z.0 e);
      }
    where
      -- a link that still holds something is none of the record freed
      other_holder : (l : LinkNumber) (x : RecordNumber) → Others x → value_at q l ≡ x → Holder s R l → Holder s Others l
      other_holder l x z e b =
          record {
            who = b.who;
            which = b.which;
            remains = (b.remains, ne_eqb y.0 b.who.0 (λ same. nothing_there x z.0 (sym (emptied_here same) ∙ e)));
            inside = b.inside;
            number = b.number;
          }
        where
          emptied_here : y.0 ≡ b.who.0 → value_at q l ≡ none
          emptied_here same =
              ap (value_at q) (link_same l (link_number s b.who b.which) b.number ∙ ap (λ (a : RecordNumber). link_number s a b.which) (sym (record_same y b.who same)))
              ∙ empties-none s p y sound.shaped.links.value some low off b.which b.inside

-- ---- one that remains, in phase 6

module _ {s : Sizes} {p₀ p : Pool} {R : RecordNumber → Type 0} (sound : Sound s p) (e : p.collector.phase ≡ 6) (h : Remains s p₀ p R 6 p.collector.position) (x : RecordNumber) (y : R x) where
  abbrev l : Left s p₀ p 6 p.collector.position x
  l = h.left x y

  some : 1 ≤ x.0
  some = left_some l

  low : x.0 ≤ s.n
  low = let z = on_low p.records.used x.0 l.used in omega (arith, sound.shaped.records.used)

  foreign : Each (Foreign s x) (all_logs p)
  unfolding all_logs
  foreign = Each-all (Foreign s x) p.workers.log (λ w k. l.logs w (omega (arith, sound.shaped.workers.log)))

  no_maker : maker_at p x ≡ 0
  no_maker = by_maker (maker_at p x) refl
    where
      by_maker : (m : ℕ) → maker_at p x ≡ m → maker_at p x ≡ 0
      by_maker zero z = z
      by_maker (suc v) z = absurd (let late = l.maker v z in omega (arith, sound.makers x))

  -- no log has an entry for one of its links, so that their changed marks are off
  left-unchanged : unchanged s p x ≡ true
  unfolding times
  left-unchanged =
      unchanged_all s p x (λ f k.
      bit_off (changed_at p (link_number s x f))
      (omega (
        arith,
        (core_in sound 6 e).marks (link_number s x f) (link_inside s x f some low k),
        times_foreign (link_number s x f) (all_logs p) (Each-map (all_logs p) (λ y z. z.link f k) foreign),
      )))

  -- at the close it is linked to from another: no step of phase 6 takes it, and all else that it asks is so
  module _ (ready : Ready p) (done : (reclaimed s p).0 ≡ 0) where
    -- its count is not 0, or it would pass
    counted_for : 1 ≤ count_at p x
    counted_for = ⊎_elim (λ z. absurd (true≢false (sym (passes-unchanged s p x (pass z) left-unchanged) ∙ reclaimed-none s p done x some low))) (λ z. z) (eq-zero-or-pos (count_at p x))
      where
        pass : count_at p x ≡ 0 → Passed p x
        pass z = record { used = l.used; candidate = ready.waiting x l.used z no_maker; count = z; held = l.unheld }

    -- so a link has it as its view value, which is its value, since no log names it
    pub left_back : Back s p₀ R x
    unfolding old_in
    left_back = from (tally_found (λ m. old_in m [] (view_value p m)) (links s) x (omega (arith, counted_for, (core_in sound 6 e).counts x some low)))
      where
        value : (m : LinkNumber) → (view_value p m).0 ≡ x.0 → (b : Bool) → changed_at p m ≡ b → value_at p m ≡ x
        value m z true on =
            absurd
            (look_up_keeps (λ a. a.0 ≡ x.0 → ⊥) m p.workers.log (unfold all_logs in Each-map (all_logs p) (λ y q. q.old) foreign) (λ q. omega (arith, some))
            (ap (λ (a : RecordNumber). a.0) (sym (view_marked p m on)) ∙ z))
        value m z false off = record_same (value_at p m) x (ap (λ (a : RecordNumber). a.0) (sym (view_unmarked p m off)) ∙ z)

        from : (m : LinkNumber) × (m.0 < links s) × ((view_value p m).0 ≡ x.0) → Back s p₀ R x
        from z =
            let m = z.0 in
            let v = value m z.2 (changed_at p m) refl in
            let b = h.holders m x y v in
            record {
              who = b.who;
              which = b.which;
              has = b.remains;
              inside = b.inside;
              value = sym ((h.left b.who b.remains).links b.which b.inside) ∙ ap (value_at p) (sym (link_same m (link_number s b.who b.which) b.number)) ∙ v;
            }

-- ---- every event but the close

-- a store or a post does not move the collector's record
link_takes_collector : (p : Pool) (w : ℕ) (l : LinkNumber) (r : ℕ) → (link_takes w l r p).pool.collector ≡ p.collector
unfolding added
link_takes_collector p w l r = stored_has p w l r (λ t. t.collector ≡ p.collector) (λ on t h. h) (λ off. refl) (λ on. refl)

-- those that remain after an answer
abbrev Unfreed : (RecordNumber → Type 0) → Event → Outcome → RecordNumber → Type 0
Unfreed R e o x = R x × (answers_freed x e o.answer ≡ false)

-- an answer that frees nothing takes nothing out
narrowed : {s : Sizes} {p₀ q : Pool} {R T : RecordNumber → Type 0} {k i : ℕ} → ((x : RecordNumber) → R x → T x) → Remains s p₀ q R k i → Remains s p₀ q (λ x. R x × T x) k i
narrowed all h =
    record {
      left = λ x y. h.left x y.0;
      holders =
          λ l x y e.
          let b = h.holders l x y.0 e in
          record { who = b.who; which = b.which; remains = (b.remains, all b.who b.remains); inside = b.inside; number = b.number };
    }

module _ {s : Sizes} {p₀ p : Pool} {R : RecordNumber → Type 0} (reached : Reached s p) (h : Remaining s p₀ R p) where
  -- what an outcome leaves, if it does not close the cycle
  abbrev Goes_on : Event → Outcome → Type 0
  Goes_on e o = (o.pool.collector.phase ≡ 0 → ⊥) → Remaining s p₀ (Unfreed R e o) o.pool

  -- a record that remains is not none, which a step that frees nothing answers
  not_freed : (x : RecordNumber) → R x → eqb 0 x.0 ≡ false
  not_freed x y = ne_eqb 0 x.0 (λ z. let some = left_some (h.left x y) in omega arith)

  abbrev here : ℕ
  here = p.collector.position

  reclaims-goes_on : p.collector.phase ≡ 6 → Goes_on Collect (reclaims s p)
  unfolding becomes_free closes answers_freed value
  reclaims-goes_on e =
      reclaims_cases s p (Goes_on Collect) (λ z open-still. absurd (open-still refl))
      (λ y some low pass off open-still.
      phase_stays y (becomes_free y (empties s y p)) (λ z. R z × (eqb y.0 z.0 ≡ false)) refl (frees_remains reached.sound then y some low off))
      (λ y some low pass on open-still.
      phase_stays y (empties s y p) (λ z. R z × (eqb 0 z.0 ≡ false)) refl
      (narrowed not_freed (empties_remains reached.sound then y some low (λ z. true≢false (sym (left-unchanged reached.sound e then y z) ∙ on)))))
    where
      then : Remains s p₀ p R 6 here
      then = remains_in reached.sound h 6 e

      phase_stays : (y : RecordNumber) (q : Pool) (T : RecordNumber → Type 0) → q.collector ≡ (empties s y p).collector → Remains s p₀ q T 6 here → Remaining s p₀ T q
      phase_stays y q T same x =
          subst (λ c. Remains s p₀ q T c.phase c.position) (sym (same ∙ (empties_unmoved s y p).collector)) (subst (λ (k : ℕ). Remains s p₀ q T k here) (sym e) x)

  link_takes_remaining : (w : ℕ) (l : LinkNumber) (r : ℕ) → AtHand s p w l → Remaining s p₀ R (link_takes w l r p).pool
  link_takes_remaining w l r there =
      subst (λ c. Remains s p₀ (link_takes w l r p).pool R c.phase c.position) (sym (link_takes_collector p w l r)) (link_takes_remains h reached.sound w l r there)

  pub event_remaining : (e : Event) → Goes_on e (outcome s p e)
  unfolding outcome does makes moves drops register_takes loads looks stores posts opens snoops takes clears scans counts answers_freed value
  event_remaining (Make w r) =
      decided_outcome (Goes_on (Make w r)) p (λ why z. narrowed (λ x y. refl) h) _ _ (λ t z. narrowed (λ x y. refl) (makes_remains h reached.state.named w r (can_make s p w r t).1 (omega (arith, chosen-low p, reached.sound.shaped.records.used))))
  event_remaining (Move w r q) =
      decided_outcome (Goes_on (Move w r q)) p (λ why z. narrowed (λ x y. refl) h) _ _ (λ t z. narrowed (λ x y. refl) (register_remains h w r (register_at p w q) (λ some. holds q refl some)))
  event_remaining (Drop w r) =
      decided_outcome (Goes_on (Drop w r)) p (λ why z. narrowed (λ x y. refl) h) _ _ (λ t z. narrowed (λ x y. refl) (register_remains h w r none (λ some. absurd (omega arith))))
  event_remaining (Load w r q f) =
      decided_outcome (Goes_on (Load w r q f)) p (λ why z. narrowed (λ x y. refl) h) _ _ (λ t z.
      let l : LinkNumber = link_number s (register_at p w q) f in
      narrowed (λ x y. refl) (register_remains h w r (value_at p l) (link_at_hand reached.sound w q f (can_load s p w r q f t).2).value))
  event_remaining (Store w q f r) =
      decided_outcome (Goes_on (Store w q f r)) p (λ why z. narrowed (λ x y. refl) h) _ _ (λ t z.
      let l : LinkNumber = link_number s (register_at p w q) f in
      narrowed (λ x y. refl) (link_takes_remaining w l r (link_at_hand reached.sound w q f (can_store s p w q f r t).2)))
  event_remaining (Look w r e) =
      decided_outcome (Goes_on (Look w r e)) p (λ why z. narrowed (λ x y. refl) h) _ _ (λ t z.
      let there : AtHand s p w (board_number s e) = entry_at_hand w e (can_look s p w r e t).1 in
      narrowed (λ x y. refl) (register_remains h w r (value_at p (board_number s e)) there.value))
  event_remaining (Post w e r) =
      decided_outcome (Goes_on (Post w e r)) p (λ why z. narrowed (λ x y. refl) h) _ _ (λ t z.
      narrowed (λ x y. refl) (link_takes_remaining w (board_number s e) r (entry_at_hand w e (can_post s p w e r t).1)))
  event_remaining Collect =
      decided_outcome (Goes_on Collect) p (λ why z. narrowed not_freed h) _ _ (λ t.
      by_phase s p (Goes_on Collect) reached.sound.phase
      (λ e z. narrowed not_freed (opens_remaining reached.sound h e))
      (λ e z. narrowed not_freed (snoops_remaining reached.sound h e))
      (λ e z. narrowed not_freed (takes_remaining reached.sound h e))
      (λ e z. narrowed not_freed (clears_remaining reached.sound h e))
      (λ e z. narrowed not_freed (scans_remaining reached.sound h e))
      (λ e z. narrowed not_freed (counts_remaining reached.sound h e))
      reclaims-goes_on)

-- ---- the close

-- what closes a cycle is a step of phase 6 that finds nothing to take
module _ (s : Sizes) (p : Pool) (most : p.collector.phase ≤ 6) (open-before : p.collector.phase ≡ 0 → ⊥) where
  abbrev In-0 : Pool → Type 0
  In-0 q = q.collector.phase ≡ 0 → (p.collector.phase ≡ 6) × ((reclaimed s p).0 ≡ 0)

  abbrev Closed : Outcome → Type 0
  Closed o = In-0 o.pool

  reclaims_closed : p.collector.phase ≡ 6 → Closed (reclaims s p)
  unfolding becomes_free
  reclaims_closed e =
      reclaims_cases s p Closed (λ f z. (e, f)) (λ y some low pass off. still_open y) (λ y some low pass on. still_open y)
    where
      still_open : (y : RecordNumber) → (empties s y p).collector.phase ≡ 0 → (p.collector.phase ≡ 6) × ((reclaimed s p).0 ≡ 0)
      still_open y z = absurd (open-before (sym (ap (λ c. c.phase) (empties_unmoved s y p).collector) ∙ z))

  collects_closed : Closed (collects s p)
  unfolding opens
  collects_closed =
      by_phase s p Closed most
      (λ e z. absurd (open-before e))
      (λ e. snoops_cases s p In-0 e (λ k z. absurd (omega arith)) (λ k z. absurd (omega arith)))
      (λ e. takes_cases s p In-0 e (λ k z. absurd (omega arith)) (λ k f z. absurd (omega arith)) (λ k f z. absurd (omega arith)))
      (λ e. clears_cases s p In-0 e (λ k z. absurd (omega arith)) (λ k z. absurd (omega arith)))
      (λ e. scans_cases s p In-0 e (λ k z. absurd (omega arith)) (λ k f z. absurd (omega arith)) (λ k f z. absurd (omega arith)))
      (λ e. counts_cases s p In-0 e (λ k z. absurd (omega arith)) (λ k z. absurd (omega arith)))
      reclaims_closed

  -- no other event moves the collector's record
  still_open : (o : Outcome) → o.pool.collector ≡ p.collector → Closed o
  still_open o same z = absurd (open-before (ap (λ c. c.phase) (sym same) ∙ z))

  closing_step : (e : Event) → Closed (outcome s p e)
  unfolding outcome does makes moves drops register_takes loads looks stores posts
  closing_step (Make w r) = decided_outcome Closed p (λ why. still_open (refused why p) refl) _ _ (λ t. still_open (makes w r p) refl)
  closing_step (Move w r q) = decided_outcome Closed p (λ why. still_open (refused why p) refl) _ _ (λ t. still_open (moves w r q p) refl)
  closing_step (Drop w r) = decided_outcome Closed p (λ why. still_open (refused why p) refl) _ _ (λ t. still_open (drops w r p) refl)
  closing_step (Load w r q f) = decided_outcome Closed p (λ why. still_open (refused why p) refl) _ _ (λ t. still_open (loads s w r q f p) refl)
  closing_step (Store w q f r) = decided_outcome Closed p (λ why. still_open (refused why p) refl) _ _ (λ t. still_open (stores s w q f r p) (link_takes_collector p w (link_number s (register_at p w q) f) r))
  closing_step (Look w r e) = decided_outcome Closed p (λ why. still_open (refused why p) refl) _ _ (λ t. still_open (looks s w r e p) refl)
  closing_step (Post w e r) = decided_outcome Closed p (λ why. still_open (refused why p) refl) _ _ (λ t. still_open (posts s w e r p) (link_takes_collector p w (board_number s e) r))
  closing_step Collect = decided_outcome Closed p (λ why. still_open (refused why p) refl) _ _ (λ t. collects_closed)

-- ---- the whole cycle

or_else : (b c : Bool) → (b ≡ false → c ≡ true) → (b || c) ≡ true
or_else true c h = refl
or_else false c h = h refl

pub freed_by_the_close : (s : Sizes) → in_range s ≡ true → (p₀ : Pool) → length p₀.records.used ≡ s.n → (R : RecordNumber → Type 0) → ((a : RecordNumber) → R a → Lost s p₀ a)
    → (p : Pool) → Reached s p → Ready p → Remaining s p₀ R p
    → (events : List Event) → ToClose s p events
    → (a : RecordNumber) → R a → (LoopKeeps s p₀ a → ⊥) → freed_among a events (answers s p events) ≡ true
unfolding answers freed_among
freed_by_the_close s r p₀ n R lost p reached ready h events (closing {e = e} c) a y no_loop =
    let end : (p.collector.phase ≡ 6) × ((reclaimed s p).0 ≡ 0) = closing_step s p reached.sound.phase c.before e c.after in
    absurd
    (no_loop
    (loop_found s p₀ n R lost (λ b z. left_back reached.sound end.0 (remains_in reached.sound h 6 end.0) b z ready end.1) (record { at = a; has = y })))
freed_by_the_close s r p₀ n R lost p reached ready h events (going_on {e = e} {events = later} open-still rest) a y no_loop =
    or_else (answers_freed a e (outcome s p e).answer) (freed_among a later (answers s (outcome s p e).pool later)) (λ f.
    freed_by_the_close s r p₀ n (Unfreed R e (outcome s p e)) (λ b z. lost b z.0) (outcome s p e).pool
    (reached_event s r p reached e)
    (event_ready s p reached.sound reached.state ready e)
    (event_remaining reached h e open-still)
    later
    rest
    a
    (y, f)
    no_loop)

-- ---- a run

pub lost_freed : (s : Sizes) → in_range s ≡ true → (before : List Event) (e : Event) (during : List Event) → Cycle s (after s (fresh s) before) e during
    → (a : RecordNumber) → Lost s (after s (fresh s) before) a → (LoopKeeps s (after s (fresh s) before) a → ⊥)
    → freed_among a (e ∷ during) (answers s (after s (fresh s) before) (e ∷ during)) ≡ true
lost_freed s r before e during c a lost no_loop =
    let p : Pool = after s (fresh s) before in
    let reached : Reached s p = run_holds s r before in
    let ready : Ready p =
    (run_keeps s (λ q. Reached s q × Ready q) (λ q h d. (reached_event s r q h.0 d, event_ready s q h.0.sound h.0.state h.1 d)) (fresh s)
    (reached_fresh s, fresh_ready s)
    before).1 in
    freed_by_the_close s r p reached.sound.shaped.records.used (Lost s p) (λ b z. z) p reached ready
    (lost_remaining s r p reached ready c.opens.before)
    (e ∷ during)
    (going_on c.opens.after c.to_close)
    a
    lost
    no_loop
