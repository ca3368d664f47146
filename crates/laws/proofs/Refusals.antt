-- What is known of an event that is not refused, and of one that is.
--     Unrefused               no test is true
--     decided_outcome, decided     what holds of a refusal, and of what is done where no test is true, holds of the outcome
--     decide_first, decide_next, decide_all     the outcome itself, test by test
--     RegisterThere, LinkThere     the worker and its register, the link of the record that a register holds are there
--     has_numbers              every number of a load or a store is there
--     register_there, registers_there, numbers_there, entry_there     the test of an event that they are
--     can_make, can_load, can_store, can_look, can_post     what is known where none of the tests of an event is true
-- Assumes nothing.
use Prim.Native.Nat.{ℕ, ◌≤◌, ◌<◌}
use mathlib.Core.Path.{◌≡◌, refl, ap, ◌∙◌}
use mathlib.Core.Bool.{Bool, true, false, cond, ◌&&◌}
use mathlib.Core.List.{List, [], ◌∷◌, ◌++◌}
use native.Mathlib.Omega.{arith}
use borrow.Author.Tests.{ltb-true, eqb-false, not-false}
use Rattle.rules.specs.declared.Sizes.{Sizes}
use Rattle.rules.specs.declared.Refusal.{Refusal}
use Rattle.rules.specs.declared.Event.TheVariants.{Make, Load, Store, Look, Post}
use Rattle.rules.specs.Pool.{Pool, register_at}
use Rattle.rules.specs.Reply.{Outcome}
use Rattle.rules.specs.Worker.{chosen}
use Rattle.rules.specs.Outcome.{Test, no_such, has_worker, has_register, has_link, has_entry, holds_none, none_free, refusals, refused, decide}
use Rattle.rules.specs.Sound.{Each}
use Rattle.laws.proofs.Tests.{and_left, and_right}

-- ---- refused or not

-- no test is true
abbrev pub Unrefused : List Test → Type 0
Unrefused tests = Each (λ t. t.when ≡ false) tests

-- what holds of every refusal, and of what is done where no test is true, holds of the outcome
pub decided_outcome : (P : Outcome → Type 0) (p : Pool) → ((why : Refusal) → P (refused why p)) → (tests : List Test) (done : Outcome) → (Unrefused tests → P done)
    → P (decide p tests done)
unfolding decide
decided_outcome P p h [] done f = f tt
decided_outcome P p h (t ∷ tests) done f = by_test t.when (λ e. decided_outcome P p h tests done (λ rest. f (e, rest)))
  where
    by_test : (b : Bool) → (b ≡ false → P (decide p tests done)) → P (cond b (refused t.why p) (decide p tests done))
    by_test true next = h t.why
    by_test false next = next refl

-- what holds of the pool before, and of the pool after where no test is true, holds of the pool after
pub decided : (P : Pool → Type 0) (p : Pool) → P p → (tests : List Test) (done : Outcome) → (Unrefused tests → P done.pool) → P (decide p tests done).pool
decided P p h tests done f = decided_outcome (λ o. P o.pool) p (λ why. h) tests done f

-- the outcome, test by test
pub decide_first : (p : Pool) (t : Test) (tests : List Test) (done : Outcome) → t.when ≡ true → decide p (t ∷ tests) done ≡ refused t.why p
unfolding decide
decide_first p t tests done e = ap (λ b. cond b (refused t.why p) (decide p tests done)) e

pub decide_next : (p : Pool) (t : Test) (tests : List Test) (done : Outcome) → t.when ≡ false → decide p (t ∷ tests) done ≡ decide p tests done
unfolding decide
decide_next p t tests done e = ap (λ b. cond b (refused t.why p) (decide p tests done)) e

pub decide_all : (p : Pool) (tests : List Test) (done : Outcome) → Unrefused tests → decide p tests done ≡ done
unfolding decide
decide_all p [] done h = refl
decide_all p (t ∷ tests) done h = decide_next p t tests done h.0 ∙ decide_all p tests done h.1

-- ---- what is known of an event that is not refused

pub record RegisterThere (s : Sizes) (w r : ℕ) : Type 0 where
  pub worker : w < s.w
  pub register : r < s.r

pub record LinkThere (s : Sizes) (p : Pool) (w q f : ℕ) : Type 0 where
  pub link : f < s.k
  pub holds : 1 ≤ (register_at p w q).0

there : (s : Sizes) (w r : ℕ) → has_worker s w ≡ true → has_register s r ≡ true → RegisterThere s w r
there s w r x y = record { worker = ltb-true w s.w x; register = ltb-true r s.r y }

pub register_there : (s : Sizes) (w r : ℕ) → (has_worker s w && has_register s r) ≡ true → RegisterThere s w r
register_there s w r h = there s w r (and_left (has_worker s w) (has_register s r) h) (and_right (has_worker s w) (has_register s r) h)

pub registers_there : (s : Sizes) (w r q : ℕ) → (has_worker s w && (has_register s r && has_register s q)) ≡ true → RegisterThere s w r × (q < s.r)
registers_there s w r q all =
    let both = and_right (has_worker s w) (has_register s r && has_register s q) all in
    (there s w r (and_left _ (has_register s r && has_register s q) all) (and_left _ (has_register s q) both), ltb-true q s.r (and_right (has_register s r) _ both))

-- every number of a load or a store is there: q's record has the link, and r is the other register
abbrev pub has_numbers : Sizes → (w q r f : ℕ) → Bool
has_numbers s w q r f = has_worker s w && (has_register s q && has_register s r) && has_link s f

pub numbers_there : (s : Sizes) (w q r f : ℕ) → has_numbers s w q r f ≡ true → RegisterThere s w q × (r < s.r) × (f < s.k)
numbers_there s w q r f all =
    let both = registers_there s w q r (and_left _ (has_link s f) all) in
    (both.0, both.1, ltb-true f s.k (and_right (has_worker s w && (has_register s q && has_register s r)) _ all))

-- every number of a look or a post is there
pub entry_there : (s : Sizes) (w r e : ℕ) → (has_worker s w && has_register s r && has_entry s e) ≡ true → RegisterThere s w r × (e < s.b)
entry_there s w r e all =
    (register_there s w r (and_left _ (has_entry s e) all), ltb-true e s.b (and_right (has_worker s w && has_register s r) _ all))

module _ (s : Sizes) (p : Pool) where
  -- "holds none" is not so
  holds : (w q : ℕ) → ((register_at p w q).0 ≡ 0 → ⊥) → 1 ≤ (register_at p w q).0
  holds w q full = omega arith

  pub can_make : (w r : ℕ) → Unrefused (refusals s p (Make w r)) → RegisterThere s w r × (1 ≤ (chosen p).0)
  unfolding refusals none_free
  can_make w r t =
      let full = eqb-false (chosen p).0 0 t.1.1.1.0 in
      (there s w r (not-false _ t.0) (not-false _ t.1.0), omega arith)

  -- the tests of a load and of a store
  can_reach : (w q r f : ℕ)
      → Unrefused (no_such (has_worker s w) (has_register s q && has_register s r) (has_link s f) ++ (holds_none p w q ∷ []))
      → RegisterThere s w q × (r < s.r) × LinkThere s p w q f
  can_reach w q r f t =
      let both = not-false _ t.1.0 in (
        there s w q (not-false _ t.0) (and_left _ (has_register s r) both),
        ltb-true r s.r (and_right (has_register s q) _ both),
        record { link = ltb-true f s.k (not-false _ t.1.1.0); holds = holds w q (eqb-false (register_at p w q).0 0 t.1.1.1.0) },
      )

  pub can_load : (w r q f : ℕ) → Unrefused (refusals s p (Load w r q f)) → RegisterThere s w q × (r < s.r) × LinkThere s p w q f
  unfolding refusals
  can_load w r q f t = can_reach w q r f t

  pub can_store : (w q f r : ℕ) → Unrefused (refusals s p (Store w q f r)) → RegisterThere s w q × (r < s.r) × LinkThere s p w q f
  unfolding refusals
  can_store w q f r t = can_reach w q r f t

  -- the tests of a look and of a post
  can_enter : (w r e : ℕ) → Unrefused (no_such (has_worker s w) (has_register s r) (has_entry s e)) → RegisterThere s w r × (e < s.b)
  can_enter w r e t = (there s w r (not-false _ t.0) (not-false _ t.1.0), ltb-true e s.b (not-false _ t.1.1.0))

  pub can_look : (w r e : ℕ) → Unrefused (refusals s p (Look w r e)) → RegisterThere s w r × (e < s.b)
  unfolding refusals
  can_look w r e t = can_enter w r e t

  pub can_post : (w e r : ℕ) → Unrefused (refusals s p (Post w e r)) → RegisterThere s w r × (e < s.b)
  unfolding refusals
  can_post w e r t = can_enter w r e t
