-- "From a fresh pool the used records are the makes answered with 0 less the records freed."
--     used_set       a table of used marks of which one is written
--     used_event     what an event does to a record's used mark is told by its answer
--     used_run       so is what a run does, from any sound pool
--     used_are_made_less_freed     and from the fresh pool
--     freed_passed   a record that an event frees passed the search of phase 6
--     made_was_free, freed_was_used     a make answers a record that was free, and a record freed was used
-- Assumes nothing.
use Prim.Native.Nat.{ℕ, ◌≤◌}
use mathlib.Core.Path.{◌≡◌, refl, sym, ap, ◌∙◌, subst}
use mathlib.Core.Logic.{⊎_elim}
use mathlib.Core.Bool.{Bool, true, false, cond, ◌&&◌, true≢false}
use mathlib.Core.List.{List, [], ◌∷◌}
use native.Mathlib.Omega.{arith}
use borrow.Author.Tests.{ne_eqb, eqb-true}
use lib.Dec.{eqb}
use lib.ListN.{length}
use Rattle.rules.specs.declared.Sizes.{Sizes}
use Rattle.rules.specs.declared.RecordNumber.{RecordNumber}
use Rattle.rules.specs.declared.Refusal.{Refusal}
use Rattle.rules.specs.declared.Refusal.TheVariants.{WrongSize, NotSound, NoSuchWorker, HoldsNone, NoneFree, WrongTag, WrongLength, StopsShort, WrongStep, ExtraByte, WrongCount, NoSuchRegister, NoSuchLink, SizesDiffer, OutputShort}
use Rattle.rules.specs.declared.Answer.TheVariants.{Refused}
use Rattle.rules.specs.declared.Event.{Event}
use Rattle.rules.specs.declared.Event.TheVariants.{Make, Move, Drop, Load, Store, Look, Post, Collect}
use Rattle.rules.specs.declared.LinkNumber.{LinkNumber}
use Rattle.rules.specs.Size.{in_range, link_number, board_number}
use Rattle.rules.specs.Pool.{Pool, of_record, with_record, used_at, register_at, fresh}
use Rattle.rules.specs.Reply.{refusal_number, number, value, Outcome}
use Rattle.rules.specs.Worker.{chosen, makes, moves, drops, register_takes, loads, looks, added, link_takes, stores, posts}
use Rattle.rules.specs.Collect.{onward, stepped, opens, snoops, made_by, takes, clears, scans, falls, rises, counted, counts, is_unchanged, emptied, becomes_free, empties, closes, collects}
use Rattle.rules.specs.Outcome.{refused, does, outcome, answers, after, answers_made, answers_freed, used_after, in_use}
use Rattle.rules.specs.Sound.{Sound}
use Rattle.laws.proofs.Tests.{eqb_cases, and_left, and_right}
use Rattle.laws.proofs.Number.{record_same}
use Rattle.laws.proofs.Lists.{of_record_same, of_record_other}
use Rattle.laws.proofs.Chosen.{chosen-low, chosen_free}
use Rattle.laws.proofs.Change.{stored_has, emptied_keeps}
use Rattle.laws.proofs.Search.{Passed, reclaims_cases}
use Rattle.laws.proofs.Refusals.{decided_outcome, can_make}
use Rattle.laws.proofs.Phases.{by_phase}
use Rattle.soundness.proofs.Fresh.{of_record_all}
use Rattle.soundness.proofs.Kept.{event_keeps_sound, fresh_is_sound}

-- a table of used marks of which one is written
used_set : (table : List Bool) (a b : RecordNumber) (x : Bool) → 1 ≤ b.0 → b.0 ≤ length table
    → of_record (with_record table b.0 x) a.0 false ≡ cond (eqb b.0 a.0) x (of_record table a.0 false)
used_set table a b x some low =
    ⊎_elim
    (λ e.
    ap (λ (c : RecordNumber). of_record (with_record table b.0 x) c.0 false) (sym (record_same b a e.0)) ∙ of_record_same table b.0 x false some low
    ∙ sym (ap (λ t. cond t x (of_record table a.0 false)) e.1))
    (λ e. of_record_other table b.0 a.0 x false e.0 ∙ sym (ap (λ t. cond t x (of_record table a.0 false)) e.1))
    (eqb_cases b.0 a.0)

-- a refusal has a number that is not 0
refusal_number_lem : (why : Refusal) → eqb (number (Refused why)) 0 ≡ false
unfolding number refusal_number
refusal_number_lem WrongSize = refl
refusal_number_lem NotSound = refl
refusal_number_lem NoSuchWorker = refl
refusal_number_lem HoldsNone = refl
refusal_number_lem NoneFree = refl
refusal_number_lem WrongTag = refl
refusal_number_lem WrongLength = refl
refusal_number_lem StopsShort = refl
refusal_number_lem WrongStep = refl
refusal_number_lem ExtraByte = refl
refusal_number_lem WrongCount = refl
refusal_number_lem NoSuchRegister = refl
refusal_number_lem NoSuchLink = refl
refusal_number_lem SizesDiffer = refl
refusal_number_lem OutputShort = refl

module _ (s : Sizes) (p : Pool) (h : Sound s p) (a : RecordNumber) (some : 1 ≤ a.0) where
  -- the mark after an outcome is the one that its answer tells
  abbrev Told : Event → Outcome → Type 0
  Told e o = used_at o.pool a ≡ used_after a (used_at p a) e o.answer

  -- a step that frees nothing answers no record
  stepped_told : (q : Pool) → used_at q a ≡ used_at p a → Told Collect (stepped q)
  unfolding used_after answers_made answers_freed value
  stepped_told q e = e ∙ sym (ap (λ t. cond t false (used_at p a)) (ne_eqb 0 a.0 (λ z. omega arith)))

  -- a record whose links are emptied stays used, and so do all others
  empties_used : (y : RecordNumber) → (empties s y p).records.used ≡ p.records.used
  unfolding empties emptied falls
  empties_used y = emptied_keeps (is_unchanged p) s y (λ q. q.records.used) (λ l q. refl) 0 s.k p

  collects_told : Told Collect (collects s p)
  unfolding opens onward snoops made_by takes clears scans counted falls rises counts closes becomes_free empties emptied used_after answers_made answers_freed value
  collects_told =
      by_phase s p (Told Collect) h.phase
      (λ e. stepped_told (opens s p).pool refl)
      (λ e. stepped_told (snoops s p).pool refl)
      (λ e. stepped_told (takes s p).pool refl)
      (λ e. stepped_told (clears s p).pool refl)
      (λ e. stepped_told (scans s p).pool refl)
      (λ e. stepped_told (counts s p).pool refl)
      (λ e.
      reclaims_cases s p (Told Collect) (λ z. stepped_told (closes p) refl)
      (λ y some-y low pass off.
      ap (λ table. of_record (with_record table y.0 false) a.0 false) (empties_used y)
      ∙ used_set p.records.used a y false some-y (omega (arith, h.shaped.records.used)))
      (λ y some-y low pass on. stepped_told (empties s y p) (ap (λ table. of_record table a.0 false) (empties_used y))))

  link_takes_used : (w : ℕ) (l : LinkNumber) (r : ℕ) → used_at (link_takes w l r p).pool a ≡ used_at p a
  unfolding added
  link_takes_used w l r = stored_has p w l r (λ t. used_at t a ≡ used_at p a) (λ on t e. e) (λ off. refl) (λ on. refl)

  refused_told : (e : Event) (why : Refusal) → Told e (refused why p)
  unfolding used_after answers_made answers_freed value
  refused_told (Make w r) why = sym (ap (λ t. cond (t && eqb (value (Refused why)) a.0) true (used_at p a)) (refusal_number_lem why))
  refused_told (Move w r q) why = refl
  refused_told (Drop w r) why = refl
  refused_told (Load w r q f) why = refl
  refused_told (Store w q f r) why = refl
  refused_told (Look w r e) why = refl
  refused_told (Post w e r) why = refl
  refused_told Collect why = sym (ap (λ t. cond t false (used_at p a)) (ne_eqb 0 a.0 (λ z. omega arith)))

  pub used_event : (e : Event) → Told e (outcome s p e)
  unfolding outcome does makes moves drops register_takes loads looks stores posts used_after answers_made answers_freed number value
  used_event (Make w r) =
      decided_outcome (Told (Make w r)) p (refused_told (Make w r)) _ _ (λ t.
      used_set p.records.used a (chosen p) true (can_make s p w r t).1 (chosen-low p))
  used_event (Move w r q) = decided_outcome (Told (Move w r q)) p (refused_told (Move w r q)) _ _ (λ t. refl)
  used_event (Drop w r) = decided_outcome (Told (Drop w r)) p (refused_told (Drop w r)) _ _ (λ t. refl)
  used_event (Load w r q f) = decided_outcome (Told (Load w r q f)) p (refused_told (Load w r q f)) _ _ (λ t. refl)
  used_event (Store w q f r) = decided_outcome (Told (Store w q f r)) p (refused_told (Store w q f r)) _ _ (λ t. link_takes_used w (link_number s (register_at p w q) f) r)
  used_event (Look w r e) = decided_outcome (Told (Look w r e)) p (refused_told (Look w r e)) _ _ (λ t. refl)
  used_event (Post w e r) = decided_outcome (Told (Post w e r)) p (refused_told (Post w e r)) _ _ (λ t. link_takes_used w (board_number s e) r)
  used_event Collect = decided_outcome (Told Collect) p (refused_told Collect) _ _ (λ t. collects_told)

-- ---- a run

used_run : (s : Sizes) → in_range s ≡ true → (p : Pool) → Sound s p → (a : RecordNumber) → 1 ≤ a.0 → (events : List Event)
    → used_at (after s p events) a ≡ in_use a (used_at p a) events (answers s p events)
unfolding after answers in_use
used_run s r p h a some [] = refl
used_run s r p h a some (e ∷ events) =
    used_run s r (outcome s p e).pool (event_keeps_sound s r p h e) a some events
    ∙ ap (λ before. in_use a before events (answers s (outcome s p e).pool events)) (used_event s p h a some e)

pub used_are_made_less_freed : (s : Sizes) → in_range s ≡ true → (events : List Event) (a : RecordNumber) → 1 ≤ a.0
    → used_at (after s (fresh s) events) a ≡ in_use a false events (answers s (fresh s) events)
unfolding fresh
used_are_made_less_freed s r events a some =
    used_run s r (fresh s) (fresh_is_sound s) a some events
    ∙ ap (λ before. in_use a before events (answers s (fresh s) events)) (of_record_all s.n false a.0)

-- ---- a make answers a record that was free, and a record freed was used: so each make adds one and each freeing takes one away

module _ (s : Sizes) (p : Pool) (h : Sound s p) (a : RecordNumber) where
  made_of : (x : Bool) → (x && eqb (chosen p).0 a.0) ≡ true → chosen p ≡ a
  made_of x e = record_same (chosen p) a (eqb-true (chosen p).0 a.0 (and_right x (eqb (chosen p).0 a.0) e))

  pub made_was_free : (e : Event) → answers_made a e (outcome s p e).answer ≡ true → used_at p a ≡ false
  unfolding outcome does makes answers_made number value
  made_was_free (Make w r) =
      decided_outcome (λ o. answers_made a (Make w r) o.answer ≡ true → used_at p a ≡ false) p
      (λ why z. absurd (true≢false (sym (and_left (eqb (number (Refused why)) 0) (eqb (value (Refused why)) a.0) z) ∙ refusal_number_lem why)))
      _
      _
      (λ t z. ap (λ (b : RecordNumber). used_at p b) (sym (made_of true z)) ∙ chosen_free p (can_make s p w r t).1)
  made_was_free (Move w r q) = λ z. absurd (true≢false (sym z))
  made_was_free (Drop w r) = λ z. absurd (true≢false (sym z))
  made_was_free (Load w r q f) = λ z. absurd (true≢false (sym z))
  made_was_free (Store w q f r) = λ z. absurd (true≢false (sym z))
  made_was_free (Look w r e) = λ z. absurd (true≢false (sym z))
  made_was_free (Post w e r) = λ z. absurd (true≢false (sym z))
  made_was_free Collect = λ z. absurd (true≢false (sym z))

  -- only the step of phase 6 frees, and what it frees passed the search
  pub freed_passed : (e : Event) → 1 ≤ a.0 → answers_freed a e (outcome s p e).answer ≡ true → (p.collector.phase ≡ 6) × (a.0 ≤ s.n) × Passed p a
  unfolding outcome does answers_freed value opens snoops takes clears scans counts
  freed_passed (Make w r) some = λ z. absurd (true≢false (sym z))
  freed_passed (Move w r q) some = λ z. absurd (true≢false (sym z))
  freed_passed (Drop w r) some = λ z. absurd (true≢false (sym z))
  freed_passed (Load w r q f) some = λ z. absurd (true≢false (sym z))
  freed_passed (Store w q f r) some = λ z. absurd (true≢false (sym z))
  freed_passed (Look w r e) some = λ z. absurd (true≢false (sym z))
  freed_passed (Post w e r) some = λ z. absurd (true≢false (sym z))
  freed_passed Collect some =
      decided_outcome Took p (λ why. no_record) _ _ (λ t.
      by_phase s p Took h.phase (λ e. no_record) (λ e. no_record) (λ e. no_record) (λ e. no_record) (λ e. no_record) (λ e. no_record)
      (λ e.
      reclaims_cases s p Took (λ z. no_record)
      (λ y some-y low pass off z.
      subst (λ (b : RecordNumber). (p.collector.phase ≡ 6) × (b.0 ≤ s.n) × Passed p b) (record_same y a (eqb-true y.0 a.0 z)) (e, low, pass))
      (λ y some-y low pass on. no_record)))
    where
      Took : Outcome → Type 0
      Took o = answers_freed a Collect o.answer ≡ true → (p.collector.phase ≡ 6) × (a.0 ≤ s.n) × Passed p a

      -- a step that frees nothing answers no record
      no_record : eqb 0 a.0 ≡ true → (p.collector.phase ≡ 6) × (a.0 ≤ s.n) × Passed p a
      no_record z = absurd (let e = eqb-true 0 a.0 z in omega arith)

  pub freed_was_used : (e : Event) → 1 ≤ a.0 → answers_freed a e (outcome s p e).answer ≡ true → used_at p a ≡ true
  freed_was_used e some z = (freed_passed e some z).2.used
