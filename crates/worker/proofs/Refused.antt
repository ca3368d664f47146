-- The worker events that are refused, on known tables.
--     all_true, both_true                   the numbers of an event are there
--     no_such_lem, no_such_register         "3 means no such worker. Refusals: 13 register, 14 link, in the order 3, 13, 14 where 3 stood"
--     load_holds-none, store_holds-none     "4: load or store through a register that holds none"
--     make_none_free                        "5: make, and no record is free"
--     unrefused                             an event that no test refuses does what it does
-- Assumes nothing.
use Prim.Native.Nat.{ℕ}
use mathlib.Core.Path.{◌≡◌, refl, sym, ap, ◌∙◌}
use mathlib.Core.Bool.{Bool, true, false, ◌&&◌}
use mathlib.Core.List.{List, [], ◌++◌}
use borrow.Author.Tests.{eq-eqb}
use Rattle.std.proofs.Common.{Ok, Err}
use Rattle.rules.specs.declared.Sizes.{Sizes}
use Rattle.rules.specs.declared.Event.{Event}
use Rattle.rules.specs.declared.Event.TheVariants.{Make, Load, Store}
use Rattle.rules.specs.declared.Refusal.{Refusal}
use Rattle.rules.specs.declared.Refusal.TheVariants.{NoSuchWorker, NoSuchRegister, NoSuchLink, HoldsNone, NoneFree}
use Rattle.rules.specs.declared.Answer.TheVariants.{Refused}
use Rattle.rules.specs.declared.Collector.{Collector}
use Rattle.rules.specs.Pool.{Pool, register_at}
use Rattle.rules.specs.Reply.{Outcome}
use Rattle.rules.specs.Worker.{chosen}
use Rattle.rules.specs.Outcome.{Test, no_such, has_worker, has_register, has_link, holds_none, none_free, refusals, refused, decide, does, outcome}
use Rattle.laws.proofs.Tests.{never}
use Rattle.laws.proofs.Refusals.{Unrefused, has_numbers, decide_first, decide_all}
use Rattle.tables.specs.Tables.{Tables}
use Rattle.tables.specs.Lie.{pool_of}
use Rattle.tables.specs.Known.{Known}
use Rattle.tables.specs.Event.{event_on}
use Rattle.tables.proofs.Done.{refused_on_lem}
use Rattle.worker.specs.Raw.{all_there}

-- ---- the tests of an event's numbers, and those behind them

-- all are there, as tests of equal result say; of an event that names no link, both are
module _ {x y worker registers : Bool} (same-worker : x ≡ worker) (same-registers : y ≡ registers) where
  pub all_true : {z last : Bool} → z ≡ last → Ok tt ≡ all_there x y z → (worker && registers && last) ≡ true
  all_true {z} {last} same_last e = (λ j. sym same-worker j && sym same-registers j && sym same_last j) ∙ by_cases x y z e
    where
      by_cases : (x y z : Bool) → Ok tt ≡ all_there x y z → (x && y && z) ≡ true
      by_cases true true true e = refl
      by_cases true true false e = absurd (cc)
      by_cases true false z e = absurd (cc)
      by_cases false y z e = absurd (cc)

  pub both_true : Ok tt ≡ all_there x y true → (worker && registers) ≡ true
  both_true e = (λ j. sym same-worker j && sym same-registers j) ∙ by_cases x y e
    where
      by_cases : (x y : Bool) → Ok tt ≡ all_there x y true → (x && y) ≡ true
      by_cases true true e = refl
      by_cases true false e = absurd (cc)
      by_cases false y e = absurd (cc)

module _ (p : Pool) (tests : List Test) (done : Outcome) where
  decide_wrong : (worker registers links : Bool) (why : Refusal) → Err why ≡ all_there worker registers links
      → decide p (no_such worker registers links ++ tests) done ≡ refused why p
  unfolding decide
  decide_wrong true true true why e = absurd (cc)
  decide_wrong true true false why e = let same : why ≡ NoSuchLink = cc in ap (λ w. refused w p) (sym same)
  decide_wrong true false links why e = let same : why ≡ NoSuchRegister = cc in ap (λ w. refused w p) (sym same)
  decide_wrong false registers links why e = let same : why ≡ NoSuchWorker = cc in ap (λ w. refused w p) (sym same)

  decide_there : (worker registers links : Bool) → (worker && registers && links) ≡ true → decide p (no_such worker registers links ++ tests) done ≡ decide p tests done
  unfolding decide
  decide_there true true true on = refl
  decide_there true true false on = absurd (never on)
  decide_there true false links on = absurd (never on)
  decide_there false registers links on = absurd (never on)

module _ {s : Sizes} {t : Tables} {c : Collector} (known : Known s t c) where
  abbrev p : Pool
  p = pool_of s t c

  abbrev RefusedOn : Event → Refusal → Type 0
  RefusedOn e why = event_on s t c e ≡ record { answer = Refused why; collector = c; tables = t }

  -- one of the numbers is not there, as tests of equal result say
  pub no_such_lem : (e : Event) {x y z worker registers links : Bool} {tests : List Test} {why : Refusal} → x ≡ worker → y ≡ registers → z ≡ links
      → refusals s p e ≡ no_such worker registers links ++ tests → Err why ≡ all_there x y z → RefusedOn e why
  unfolding outcome
  no_such_lem e {x} {y} {z} {worker} {registers} {links} {tests} {why} same-worker same-registers same_links h which =
      refused_on_lem known e why
      (ap (λ ts. decide p ts (does s p e)) h
      ∙ (λ j. decide p (no_such (sym same-worker j) (sym same-registers j) (sym same_links j) ++ tests) (does s p e))
      ∙ decide_wrong p tests (does s p e) x y z why which)

  -- the same of an event that names no link
  pub no_such_register : (e : Event) {x y worker registers : Bool} {tests : List Test} {why : Refusal} → x ≡ worker → y ≡ registers
      → refusals s p e ≡ no_such worker registers true ++ tests → Err why ≡ all_there x y true → RefusedOn e why
  no_such_register e same-worker same-registers h which = no_such_lem e {z = true} same-worker same-registers refl h which

  module _ (e : Event) (worker registers links : Bool) {tests : List Test} (h : refusals s p e ≡ no_such worker registers links ++ tests) where
    -- all are there, and the other tests decide
    numbered : (worker && registers && links) ≡ true → outcome s p e ≡ decide p tests (does s p e)
    unfolding outcome
    numbered on = ap (λ ts. decide p ts (does s p e)) h ∙ decide_there p tests (does s p e) worker registers links on

    refused-behind : (worker && registers && links) ≡ true → (why : Refusal) → decide p tests (does s p e) ≡ refused why p → RefusedOn e why
    refused-behind on why given = refused_on_lem known e why (numbered on ∙ given)

    pub unrefused : (worker && registers && links) ≡ true → Unrefused tests → outcome s p e ≡ does s p e
    unrefused on none = numbered on ∙ decide_all p tests (does s p e) none

  -- ---- event by event

  pub make_none_free : (w r : ℕ) → (has_worker s w && has_register s r) ≡ true → (chosen p).0 ≡ 0 → RefusedOn (Make w r) NoneFree
  unfolding refusals none_free
  make_none_free w r here full =
      refused-behind (Make w r) (has_worker s w) (has_register s r) true refl (ap (λ (b : Bool). b && true) here) NoneFree
      (decide_first p (none_free p) [] (does s p (Make w r)) (eq-eqb (chosen p).0 0 full))

  pub load_holds-none : (w r q f : ℕ) → has_numbers s w q r f ≡ true → (register_at p w q).0 ≡ 0 → RefusedOn (Load w r q f) HoldsNone
  unfolding refusals
  load_holds-none w r q f here empty =
      refused-behind (Load w r q f) (has_worker s w) (has_register s q && has_register s r) (has_link s f) refl here HoldsNone
      (decide_first p (holds_none p w q) [] (does s p (Load w r q f)) (eq-eqb (register_at p w q).0 0 empty))

  pub store_holds-none : (w q f r : ℕ) → has_numbers s w q r f ≡ true → (register_at p w q).0 ≡ 0 → RefusedOn (Store w q f r) HoldsNone
  unfolding refusals
  store_holds-none w q f r here empty =
      refused-behind (Store w q f r) (has_worker s w) (has_register s q && has_register s r) (has_link s f) refl here HoldsNone
      (decide_first p (holds_none p w q) [] (does s p (Store w q f r)) (eq-eqb (register_at p w q).0 0 empty))
