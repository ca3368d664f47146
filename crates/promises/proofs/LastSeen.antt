-- The value of a link that the collector last saw. While the link's entry is in the history and not yet cleared it is the entry's old value, else it is the link's
-- view value.
-- The argument. A worker event moves no view value, and phase 2 only moves entries. Where phase 3 clears a mark, the link's value becomes its view value and is
-- what was last seen; the link has no second entry. Where phase 6 empties a link, both become none. At a close nothing is left to be cleared or counted, so the
-- counts, which are the tallies of the view values, are those of the values last seen.
--     seen_in          what was last seen of a link, read off the pool
--     left_alone      a link whose value stays is not emptied
--     quiet           an outcome that clears no mark and empties no link
--     emptied-sees    phase 6: an unchanged link becomes none, whether its record is freed or waits
--     event_sees      every event keeps it so
--     run_saw, fresh_run_saw     so it is at each place of a run
--     counts_of_seen  in phase 0 the counts are those of what was seen
-- Assumes nothing.
use Prim.Native.Nat.{ℕ, suc, ◌≤◌, ◌<◌}
use mathlib.Core.Path.{◌≡◌, refl, sym, ap, ◌∙◌, subst}
use mathlib.Core.Logic.{◌⊎◌, inl, ⊎_elim}
use mathlib.Core.Bool.{Bool, true, false, cond, not, ◌&&◌}
use mathlib.Core.List.{List, [], ◌∷◌, ◌++◌}
use native.Mathlib.Omega.{arith}
use borrow.Author.Tests.{not-true, eqb-true}
use lib.Dec.{eqb}
use lib.ListN.{length, get_or, drop, drop_of_length-le}
use lib.Seq.{drop-cons, get_or-set_same, get_or-set_other}
use Rattle.rules.specs.declared.Sizes.{Sizes}
use Rattle.rules.specs.declared.RecordNumber.{RecordNumber}
use Rattle.rules.specs.declared.LinkNumber.{LinkNumber}
use Rattle.rules.specs.declared.Refusal.{Refusal}
use Rattle.rules.specs.declared.Event.{Event}
use Rattle.rules.specs.declared.Event.TheVariants.{Make, Move, Drop, Load, Store, Look, Post, Collect}
use Rattle.rules.specs.Size.{in_range, links, link_number, board_number}
use Rattle.rules.specs.Pool.{Entry, Pool, none, count_at, value_at, changed_at, registers_at, register_at, log_at, with_held, with_snoop, with_log, with_history, with_changed, fresh}
use Rattle.rules.specs.View.{times, old_in, look_up, view_value}
use Rattle.rules.specs.Reply.{Outcome}
use Rattle.rules.specs.Worker.{makes, moves, drops, register_takes, loads, looks, added, link_takes, stores, posts}
use Rattle.rules.specs.Collect.{onward, stepped, opens, snoops, made_by, takes, no_entry, entry_here, clears, held_by, scans, falls, rises, counted, counts}
use Rattle.rules.specs.Collect.{is_unchanged, becomes_free, empties, closes, reclaims}
use Rattle.rules.specs.Outcome.{refused, does, outcome, after}
use Rattle.rules.specs.Sound.{Sound, uncleared, tally}
use Rattle.laws.proofs.Tests.{eqb_cases, bit_on}
use Rattle.laws.proofs.Number.{record_same, link_same, board_inside}
use Rattle.laws.proofs.Lists.{set_cases}
use Rattle.laws.proofs.Entries.{times_one, times_from, old_in_absent, old_in_there}
use Rattle.laws.proofs.LookUp.{view_unmarked}
use Rattle.laws.proofs.Tally.{tally_same}
use Rattle.laws.proofs.Change.{Unmoved, empties_unmoved, stored_has, emptied_values}
use Rattle.laws.proofs.Search.{reclaims_cases}
use Rattle.laws.proofs.Refusals.{decided_outcome, can_store, can_post}
use Rattle.laws.proofs.Phases.{by_phase, moved, snoops_cases, takes_cases, clears_cases, scans_cases, counts_cases}
use Rattle.soundness.proofs.Core.{Core, core, core_in, position_in, empty_in_lem, uncleared_in}
use Rattle.soundness.proofs.Store.{view_value_lem, view_after}
use Rattle.soundness.proofs.Take.{counts-taken}
use Rattle.soundness.proofs.Clear.{from_here}
use Rattle.soundness.proofs.Known.{entry_below, link_below}
use Rattle.soundness.proofs.Fresh.{unmarked, empty}
use Rattle.soundness.proofs.Kept.{fresh_is_sound, event_keeps_sound}
use Rattle.promises.specs.Seen.{cleared, emptied_by, seen_after, last_seen}

-- what the collector last saw of a link of a pool
abbrev pub seen_in : Pool → LinkNumber → RecordNumber
seen_in p l = old_in l (uncleared p) (view_value p l)

-- ---- what is emptied

-- a step that leaves a link's value does not empty it
left_alone : (p q : Pool) (l : LinkNumber) → value_at q l ≡ value_at p l → emptied_by Collect p q l ≡ false
unfolding emptied_by
left_alone p q l e = ap (λ a. not (eqb (value_at p l).0 0) && eqb a.0 0) e ∙ not-both (eqb (value_at p l).0 0)
  where
    not-both : (b : Bool) → (not b && b) ≡ false
    not-both true = refl
    not-both false = refl

-- an event that changes nothing empties nothing
refused-empties : (p : Pool) (e : Event) (l : LinkNumber) → emptied_by e p p l ≡ false
unfolding emptied_by
refused-empties p (Make w r) l = refl
refused-empties p (Move w r q) l = refl
refused-empties p (Drop w r) l = refl
refused-empties p (Load w r q f) l = refl
refused-empties p (Store w q f r) l = refl
refused-empties p (Look w r e) l = refl
refused-empties p (Post w e r) l = refl
refused-empties p Collect l = left_alone p p l refl

-- ---- every event

module _ {s : Sizes} {p : Pool} (sound : Sound s p) (seen : LinkNumber → RecordNumber) (saw : (l : LinkNumber) → l.0 < links s → seen l ≡ seen_in p l) where
  -- what an outcome makes of it
  abbrev Sees : Event → Outcome → Type 0
  Sees e o =
      (l : LinkNumber) → l.0 < links s
      → cond (cleared p o.pool l) (value_at p l) (cond (emptied_by e p o.pool l) none (seen l)) ≡ seen_in o.pool l

  -- a pool in which marks stay on and what was seen stays
  record Quiet (q : Pool) : Type 0 where
    pub marks : (l : LinkNumber) → changed_at p l ≡ true → changed_at q l ≡ true
    pub same : (l : LinkNumber) → l.0 < links s → seen_in q l ≡ seen_in p l

  not-cleared : (q : Pool) (l : LinkNumber) → (changed_at p l ≡ true → changed_at q l ≡ true) → cleared p q l ≡ false
  not-cleared q l stays = by_mark (changed_at p l) stays
    where
      by_mark : (b : Bool) → (b ≡ true → changed_at q l ≡ true) → (b && not (changed_at q l)) ≡ false
      by_mark true h = ap not (h refl)
      by_mark false h = refl

  quiet : (e : Event) (o : Outcome) → ((l : LinkNumber) → emptied_by e p o.pool l ≡ false) → Quiet o.pool → Sees e o
  quiet e o none-emptied q l h =
      ap (λ b. cond b (value_at p l) (cond (emptied_by e p o.pool l) none (seen l))) (not-cleared o.pool l (q.marks l))
      ∙ ap (λ b. cond b none (seen l)) (none-emptied l) ∙ saw l h ∙ sym (q.same l h)

  unchanged : Quiet p
  unchanged = record { marks = λ l h. h; same = λ l h. refl }

  -- ---- the worker events

  stored_quiet : (w : ℕ) (m : LinkNumber) (r : ℕ) → w < s.w → m.0 < links s → Quiet (link_takes w m r p).pool
  unfolding view_value uncleared added
  stored_quiet w m r worker inside =
      stored_has p w m r Quiet
      (λ on t h. record { marks = h.marks; same = h.same })
      (λ off. record {
        marks = λ l on. ⊎_elim (λ e. e ∙ on) (λ e. e.1) (set_cases p.links.changed m.0 true l.0 false);
        same = λ l h. ap (old_in l (uncleared p)) (sym (view_after (core sound) m (register_at p w r) (sound.registers w r) inside off w worker l));
      })
      (λ on. record {
        marks = λ l h. h;
        same = λ l h. ap (old_in l (uncleared p)) (sym (view_value_lem (core sound) m (register_at p w r) (sound.registers w r) on l));
      })

  -- ---- the collector

  abbrev here : ℕ
  here = p.collector.position

  seen_in_lem : (k : ℕ) → p.collector.phase ≡ k → (l : LinkNumber) → seen_in p l ≡ old_in l (uncleared_in k here p.history) (view_value p l)
  unfolding uncleared
  seen_in_lem k e l = ap (λ (n : ℕ). old_in l (uncleared_in n here p.history) (view_value p l)) e

  -- where the collector arrives, marks on and what was seen the same
  arrives_quiet : (q : Pool) (k i : ℕ) → ((l : LinkNumber) → changed_at p l ≡ true → changed_at q l ≡ true)
      → ((l : LinkNumber) → l.0 < links s → old_in l (uncleared_in k i q.history) (view_value q l) ≡ seen_in p l)
      → Quiet (moved k i q)
  unfolding uncleared view_value
  arrives_quiet q k i marks same = record { marks = marks; same = same }

  opens-sees : p.collector.phase ≡ 0 → Sees Collect (opens s p)
  unfolding opens
  opens-sees e = quiet Collect (opens s p) (λ l. left_alone p (opens s p).pool l refl) (arrives_quiet p 1 0 (λ l h. h) (λ l h. sym (seen_in_lem 0 e l)))

  snoops-sees : p.collector.phase ≡ 1 → Sees Collect (snoops s p)
  unfolding onward snoops view_value
  snoops-sees e =
      let q : Pool = with_snoop here true p in
      quiet Collect (snoops s p) (λ l. left_alone p (snoops s p).pool l refl)
      (snoops_cases s p Quiet e
      (λ k. arrives_quiet q 1 (suc here) (λ l h. h) (λ l h. sym (seen_in_lem 1 e l)))
      (λ k. arrives_quiet q 2 0 (λ l h. h) (λ l h. ap (λ xs. old_in l xs (view_value p l)) (empty_in_lem sound 1 e tt) ∙ sym (seen_in_lem 1 e l))))

  takes-sees : p.collector.phase ≡ 2 → Sees Collect (takes s p)
  unfolding onward takes made_by view_value
  takes-sees e =
      quiet Collect (takes s p) (λ l. left_alone p (takes s p).pool l refl)
      (takes_cases s p Quiet e
      (λ k. arrives_quiet q 2 (suc here) (λ l h. h) same)
      (λ k some. arrives_quiet q 3 0 (λ l h. h) same)
      (λ k f. arrives_quiet q 4 0 (λ l h. h) (λ l h. ap (λ xs. old_in l xs (view_value q l)) (sym f) ∙ same l h)))
    where
      q : Pool
      q = made_by here (with_log here [] (with_history (p.history ++ log_at p here) p))

      same : (l : LinkNumber) → l.0 < links s → old_in l q.history (view_value q l) ≡ seen_in p l
      same l h = sym (counts-taken (core_in sound 2 e) here (position_in sound 2 e) l h) ∙ sym (seen_in_lem 2 e l)

  scans-sees : p.collector.phase ≡ 4 → Sees Collect (scans s p)
  unfolding onward scans view_value
  scans-sees e =
      let q : Pool = with_held (held_by (registers_at p here) p.records.held) (with_snoop here false p) in
      quiet Collect (scans s p) (λ l. left_alone p (scans s p).pool l refl)
      (scans_cases s p Quiet e
      (λ k. arrives_quiet q 4 (suc here) (λ l h. h) (λ l h. sym (seen_in_lem 4 e l)))
      (λ k some. arrives_quiet q 5 0 (λ l h. h) (λ l h. sym (seen_in_lem 4 e l)))
      (λ k f. arrives_quiet q 6 0 (λ l h. h) (λ l h. sym (seen_in_lem 4 e l))))

  counts-sees : p.collector.phase ≡ 5 → Sees Collect (counts s p)
  unfolding onward counts counted falls rises view_value
  counts-sees e =
      let q : Pool = counted (entry_here p) p in
      quiet Collect (counts s p) (λ l. left_alone p (counts s p).pool l refl)
      (counts_cases s p Quiet e
      (λ k. arrives_quiet (with_history p.history q) 5 (suc here) (λ l h. h) (λ l h. sym (seen_in_lem 5 e l)))
      (λ k. arrives_quiet (with_history [] q) 6 0 (λ l h. h) (λ l h. sym (seen_in_lem 5 e l))))

  -- phase 3 sees the value of the link whose mark it clears
  clears-sees : p.collector.phase ≡ 3 → Sees Collect (clears s p)
  unfolding uncleared view_value
  clears-sees e =
      clears_cases s p (λ t. (l : LinkNumber) → l.0 < links s → cond (cleared p t l) (value_at p l) (cond (emptied_by Collect p t l) none (seen l)) ≡ seen_in t l) e
      (λ k. at_place 3 (suc here) refl)
      (λ k. at_place 4 0 (drop_of_length-le p.history k))
    where
      entry : Entry
      entry = entry_here p

      m : LinkNumber
      m = entry.link

      q : Pool
      q = with_changed m false p

      c : Core s p (drop here p.history) p.history
      c = core_in sound 3 e

      inside : here < length p.history
      inside = position_in sound 3 e

      behind : List Entry
      behind = drop (suc here) p.history

      low : m.0 < links s
      low = (entry_below sound (inl e)).link

      -- the mark was on, and goes off
      was_on : changed_at p m ≡ true
      was_on = bit_on (changed_at p m) (omega (arith, c.marks m low, from_here m p.history here no_entry inside, times_one m entry refl))

      goes_off : changed_at q m ≡ false
      goes_off = get_or-set_same p.links.changed m.0 false false (omega (arith, low, c.shaped.links.changed))

      no_more : times m behind ≡ 0
      no_more = omega (arith, from_here m p.history here no_entry inside, times_one m entry refl, times_from m p.history here, c.once m low)

      here_seen : cond (cleared p q m) (value_at p m) (seen m) ≡ old_in m behind (view_value q m)
      here_seen =
          (λ j. cond (was_on j && not (goes_off j)) (value_at p m) (seen m))
          ∙ sym (old_in_absent m behind (view_value q m) no_more ∙ view_unmarked q m goes_off)

      there_seen : (l : LinkNumber) → l.0 < links s → (l.0 ≡ m.0 → ⊥) → cond (cleared p q l) (value_at p l) (seen l) ≡ old_in l behind (view_value q l)
      there_seen l h n =
          let mark : changed_at q l ≡ changed_at p l = get_or-set_other p.links.changed m.0 l.0 false false n in
          ap (λ b. cond b (value_at p l) (seen l)) (not-cleared q l (λ on. mark ∙ on))
          ∙ saw l h
          ∙ seen_in_lem 3 e l
          ∙ ap (λ xs. old_in l xs (view_value p l)) (drop-cons p.history here no_entry inside)
          ∙ old_in_there l entry behind (view_value p l) (λ z. n (sym z))
          ∙ ap (old_in l behind) (ap (λ b. cond b (look_up l p.workers.log) (value_at p l)) (sym mark))

      at_place : (k i : ℕ) → behind ≡ uncleared_in k i p.history → (l : LinkNumber) → l.0 < links s
          → cond (cleared p (moved k i q) l) (value_at p l) (cond (emptied_by Collect p (moved k i q) l) none (seen l)) ≡ seen_in (moved k i q) l
      at_place k i f l h =
          ap (λ b. cond (cleared p q l) (value_at p l) (cond b none (seen l))) (left_alone p (moved k i q) l refl)
          ∙ ⊎_elim
          (λ z. subst (λ (x : LinkNumber). cond (cleared p q x) (value_at p x) (seen x) ≡ old_in x behind (view_value q x)) (sym (link_same l m z.0)) here_seen)
          (λ z. there_seen l h z.0)
          (eqb_cases l.0 m.0)
          ∙ ap (λ xs. old_in l xs (view_value q l)) f

  -- ---- phase 6

  -- unchanged links become none, and of links, logs and history nothing else moves
  module _ (e : p.collector.phase ≡ 6) (q : Pool) (unmoved : Unmoved p q) (values : (l : LinkNumber) → (value_at q l ≡ value_at p l) ⊎ ((is_unchanged p l ≡ true) × (value_at q l ≡ none))) where
    -- in phase 6 what was seen is the view value
    seen_view : (l : LinkNumber) → seen_in q l ≡ view_value q l
    unfolding uncleared old_in
    seen_view l = ap (λ (n : ℕ). old_in l (uncleared_in n q.collector.position q.history) (view_value q l)) (ap (λ c. c.phase) unmoved.collector ∙ e)

    mark_stays : (l : LinkNumber) → changed_at q l ≡ changed_at p l
    mark_stays l = ap (λ marks. get_or marks l.0 false) unmoved.changed

    emptied-sees : (l : LinkNumber) → l.0 < links s → cond (cleared p q l) (value_at p l) (cond (emptied_by Collect p q l) none (seen l)) ≡ seen_in q l
    unfolding emptied_by old_in view_value
    emptied-sees l h =
        ap (λ b. cond b (value_at p l) (cond (emptied_by Collect p q l) none (seen l))) (not-cleared q l (λ on. mark_stays l ∙ on))
        ∙ ⊎_elim stays (λ z. goes (not-true (changed_at p l) z.0) z.1) (values l)
        ∙ sym (seen_view l)
      where
        -- a link that keeps its value keeps its view value
        stays : value_at q l ≡ value_at p l → cond (emptied_by Collect p q l) none (seen l) ≡ view_value q l
        stays same =
            ap (λ b. cond b none (seen l)) (left_alone p q l same)
            ∙ saw l h
            ∙ seen_in_lem 6 e l
            ∙ sym (λ j. cond (mark_stays l j) (look_up l (unmoved.workers j).log) (same j))

        -- one that is emptied has the view value none; if it held none before, none was seen already
        goes : changed_at p l ≡ false → value_at q l ≡ none → cond (emptied_by Collect p q l) none (seen l) ≡ view_value q l
        goes off nothing =
            ap (λ a. cond (not (eqb (value_at p l).0 0) && eqb a.0 0) none (seen l)) nothing
            ∙ by_value (eqb (value_at p l).0 0) refl
            ∙ sym (view_unmarked q l (mark_stays l ∙ off) ∙ nothing)
          where
            by_value : (b : Bool) → eqb (value_at p l).0 0 ≡ b → cond (not b && true) none (seen l) ≡ none
            by_value true z = saw l h ∙ seen_in_lem 6 e l ∙ view_unmarked p l off ∙ record_same (value_at p l) none (eqb-true (value_at p l).0 0 z)
            by_value false z = refl

  closes-sees : p.collector.phase ≡ 6 → Sees Collect (stepped (closes p))
  unfolding closes uncleared view_value
  closes-sees e = quiet Collect (stepped (closes p)) (λ l. left_alone p (closes p) l refl) (record { marks = λ l h. h; same = λ l h. sym (seen_in_lem 6 e l) })

  reclaims-sees : p.collector.phase ≡ 6 → Sees Collect (reclaims s p)
  unfolding becomes_free empties
  reclaims-sees e =
      reclaims_cases s p (Sees Collect) (λ z. closes-sees e)
      (λ y some low pass off.
      let unmoved = empties_unmoved s y p in
      emptied-sees e (becomes_free y (empties s y p))
      (record { collector = unmoved.collector; history = unmoved.history; workers = unmoved.workers; changed = unmoved.changed })
      (emptied_values (is_unchanged p) s y 0 s.k p))
      (λ y some low pass on. emptied-sees e (empties s y p) (empties_unmoved s y p) (emptied_values (is_unchanged p) s y 0 s.k p))

  -- ---- every event

  refused-sees : (e : Event) (why : Refusal) → Sees e (refused why p)
  refused-sees e why = quiet e (refused why p) (refused-empties p e) unchanged

  pub event_sees : (e : Event) → Sees e (outcome s p e)
  unfolding outcome does makes moves drops register_takes loads looks stores posts view_value uncleared emptied_by
  event_sees (Make w r) = decided_outcome (Sees (Make w r)) p (refused-sees (Make w r)) _ _ (λ t. quiet (Make w r) (makes w r p) (λ l. refl) (record { marks = λ l h. h; same = λ l h. refl }))
  event_sees (Move w r q) = decided_outcome (Sees (Move w r q)) p (refused-sees (Move w r q)) _ _ (λ t. quiet (Move w r q) (moves w r q p) (λ l. refl) (record { marks = λ l h. h; same = λ l h. refl }))
  event_sees (Drop w r) = decided_outcome (Sees (Drop w r)) p (refused-sees (Drop w r)) _ _ (λ t. quiet (Drop w r) (drops w r p) (λ l. refl) (record { marks = λ l h. h; same = λ l h. refl }))
  event_sees (Load w r q f) = decided_outcome (Sees (Load w r q f)) p (refused-sees (Load w r q f)) _ _ (λ t. quiet (Load w r q f) (loads s w r q f p) (λ l. refl) (record { marks = λ l h. h; same = λ l h. refl }))
  event_sees (Store w q f r) =
      decided_outcome (Sees (Store w q f r)) p (refused-sees (Store w q f r)) _ _ (λ t.
      let k = can_store s p w q f r t in
      quiet (Store w q f r) (stores s w q f r p) (λ l. refl)
      (stored_quiet w (link_number s (register_at p w q) f) r k.0.worker (link_below sound w q f k.2.holds k.2.link)))
  event_sees (Look w r e) = decided_outcome (Sees (Look w r e)) p (refused-sees (Look w r e)) _ _ (λ t. quiet (Look w r e) (looks s w r e p) (λ l. refl) (record { marks = λ l h. h; same = λ l h. refl }))
  event_sees (Post w e r) =
      decided_outcome (Sees (Post w e r)) p (refused-sees (Post w e r)) _ _ (λ t.
      let k = can_post s p w e r t in
      quiet (Post w e r) (posts s w e r p) (λ l. refl) (stored_quiet w (board_number s e) r k.0.worker (board_inside s e k.1)))
  event_sees Collect =
      decided_outcome (Sees Collect) p (refused-sees Collect) _ _ (λ t.
      by_phase s p (Sees Collect) sound.phase opens-sees snoops-sees takes-sees clears-sees scans-sees counts-sees reclaims-sees)

-- ---- a run

run_saw : (s : Sizes) → in_range s ≡ true → (p : Pool) → Sound s p → (seen : LinkNumber → RecordNumber)
    → ((l : LinkNumber) → l.0 < links s → seen l ≡ seen_in p l)
    → (events : List Event) (l : LinkNumber) → l.0 < links s → last_seen s p seen events l ≡ seen_in (after s p events) l
unfolding last_seen after seen_after
run_saw s r p h seen saw [] = saw
run_saw s r p h seen saw (e ∷ events) =
    run_saw s r (outcome s p e).pool (event_keeps_sound s r p h e) (seen_after s p e seen) (event_sees h seen saw e) events

-- from the fresh pool, of which nothing was seen
pub fresh_run_saw : (s : Sizes) → in_range s ≡ true → (events : List Event) (l : LinkNumber) → l.0 < links s
    → last_seen s (fresh s) (λ l. none) events l ≡ seen_in (after s (fresh s) events) l
unfolding fresh uncleared old_in
fresh_run_saw s r =
    run_saw s r (fresh s) (fresh_is_sound s) (λ l. none) (λ l h. sym (view_unmarked (fresh s) l (unmarked s l) ∙ empty s l))

-- in phase 0 nothing is left to be cleared or counted: the counts are those of what was seen
pub counts_of_seen : (s : Sizes) (p : Pool) → Sound s p → p.collector.phase ≡ 0 → (seen : LinkNumber → RecordNumber)
    → ((l : LinkNumber) → l.0 < links s → seen l ≡ seen_in p l)
    → (a : RecordNumber) → 1 ≤ a.0 → a.0 ≤ s.n → count_at p a ≡ tally seen (links s) a
unfolding uncleared
counts_of_seen s p h e seen saw a some low =
    (core_in h 0 e).counts a some low
    ∙ sym (tally_same seen (λ l. old_in l [] (view_value p l)) (links s) a (λ l k.
    saw l k ∙ ap (λ (n : ℕ). old_in l (uncleared_in n p.collector.position p.history) (view_value p l)) e))
