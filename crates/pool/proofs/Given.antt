-- No event on a sound pool is answered with 1 or 2: these are the call's own.
--     decided_by         what holds of each refusal that a test gives, and of what is done, holds of the outcome
--     never_one_or_two   so an event's number is none of these
-- Assumes nothing.
use Prim.Native.Nat.{ℕ}
use mathlib.Core.Path.{◌≡◌, refl}
use mathlib.Core.Bool.{Bool, true, false, cond}
use mathlib.Core.List.{List, [], ◌∷◌}
use native.Mathlib.Omega.{arith}
use borrow.Author.Tests.{eqb-false}
use lib.Dec.{eqb}
use Rattle.rules.specs.declared.Sizes.{Sizes}
use Rattle.rules.specs.declared.Event.{Event}
use Rattle.rules.specs.declared.Event.TheVariants.{Make, Move, Drop, Load, Store, Look, Post, Collect}
use Rattle.rules.specs.Pool.{Pool}
use Rattle.rules.specs.Reply.{Outcome, number, refusal_number}
use Rattle.rules.specs.Worker.{makes, moves, drops, register_takes, loads, looks, link_takes, stores, posts}
use Rattle.rules.specs.Collect.{opens, snoops, takes, clears, scans, counts, collects}
use Rattle.rules.specs.Outcome.{Test, none_free, refusals, refused, decide, does, outcome}
use Rattle.rules.specs.Sound.{Each, Sound}
use Rattle.laws.proofs.Phases.{by_phase}
use Rattle.laws.proofs.Search.{reclaims_cases}

-- a number that an event may answer
abbrev pub OfAnEvent : ℕ → Type 0
OfAnEvent n = (n ≡ 1 → ⊥) × (n ≡ 2 → ⊥)

abbrev Fair : Outcome → Type 0
Fair o = OfAnEvent (number o.answer)

-- what holds of every refusal that a test gives, and of what is done, holds of the outcome
decided_by : (P : Outcome → Type 0) (p : Pool) (tests : List Test) (done : Outcome) → Each (λ t. P (refused t.why p)) tests → P done → P (decide p tests done)
unfolding decide
decided_by P p [] done all h = h
decided_by P p (t ∷ tests) done all h = by_test t.when (decided_by P p tests done all.1 h)
  where
    by_test : (b : Bool) → P (decide p tests done) → P (cond b (refused t.why p) (decide p tests done))
    by_test true later = all.0
    by_test false later = later

-- ---- event by event

-- a number that is neither
other : (n : ℕ) → (eqb n 1 ≡ false) → (eqb n 2 ≡ false) → OfAnEvent n
other n one two = (eqb-false n 1 one, eqb-false n 2 two)

module _ {s : Sizes} {p : Pool} (sound : Sound s p) where
  done_fair : (o : Outcome) → number o.answer ≡ 0 → Fair o
  done_fair o e = (λ h. omega arith, λ h. omega arith)

  collect_done : number (collects s p).answer ≡ 0
  unfolding number opens snoops takes clears scans counts
  collect_done =
      by_phase s p (λ o. number o.answer ≡ 0) sound.phase (λ e. refl) (λ e. refl) (λ e. refl) (λ e. refl) (λ e. refl) (λ e. refl)
      (λ e. reclaims_cases s p (λ o. number o.answer ≡ 0) (λ z. refl) (λ y some low pass off. refl) (λ y some low pass on. refl))

  pub never_one_or_two : (e : Event) → OfAnEvent (number (outcome s p e).answer)
  unfolding outcome refusals does none_free makes moves drops register_takes loads looks link_takes stores posts number refusal_number
  never_one_or_two (Make w r) =
      decided_by Fair p (refusals s p (Make w r)) (makes w r p) (other 3 refl refl, (other 13 refl refl, (other 14 refl refl, (other 5 refl refl, tt)))) (done_fair (makes w r p) refl)
  never_one_or_two (Move w r q) =
      decided_by Fair p (refusals s p (Move w r q)) (moves w r q p) (other 3 refl refl, (other 13 refl refl, (other 14 refl refl, tt))) (done_fair (moves w r q p) refl)
  never_one_or_two (Drop w r) =
      decided_by Fair p (refusals s p (Drop w r)) (drops w r p) (other 3 refl refl, (other 13 refl refl, (other 14 refl refl, tt))) (done_fair (drops w r p) refl)
  never_one_or_two (Load w r q f) =
      decided_by Fair p (refusals s p (Load w r q f)) (loads s w r q f p) (other 3 refl refl, (other 13 refl refl, (other 14 refl refl, (other 4 refl refl, tt)))) (done_fair (loads s w r q f p) refl)
  never_one_or_two (Store w q f r) =
      decided_by Fair p (refusals s p (Store w q f r)) (stores s w q f r p) (other 3 refl refl, (other 13 refl refl, (other 14 refl refl, (other 4 refl refl, tt)))) (done_fair (stores s w q f r p) refl)
  never_one_or_two (Look w r e) =
      decided_by Fair p (refusals s p (Look w r e)) (looks s w r e p) (other 3 refl refl, (other 13 refl refl, (other 14 refl refl, tt))) (done_fair (looks s w r e p) refl)
  never_one_or_two (Post w e r) =
      decided_by Fair p (refusals s p (Post w e r)) (posts s w e r p) (other 3 refl refl, (other 13 refl refl, (other 14 refl refl, tt))) (done_fair (posts s w e r p) refl)
  never_one_or_two Collect = decided_by Fair p [] (collects s p) tt (done_fair (collects s p) collect_done)
