-- What the search of phase 6 finds, from what its tests say of each record.
--     search_finds, search_finds_none     the record that passes where none below it does; none where none does
--     link_from, links_end                the links of a record stand one after another
--     links-unchanged, link_changed       a record's changed marks, by the table
--     link_holds, links_hold              its unchanged links that hold a record, by the tables
--     Fails                               why a record does not pass, by the tables that the search reads
--     record_fails, record_passes, record_sits     so it does not; and where it does
-- Assumes nothing.
use Prim.Native.Nat.{ℕ, ◌+◌, ◌-◌, ◌≤◌, ◌<◌}
use mathlib.Core.Path.{◌≡◌, refl, sym, ap, ◌∙◌}
use mathlib.Core.Logic.{◌⊎◌, inl, inr, ⊎_elim}
use mathlib.Core.Bool.{Bool, true, false, not, ◌&&◌, true≢false}
use mathlib.Core.List.{List}
use native.Mathlib.Omega.{arith}
use native.Mathlib.Nat.{eq-or-lt_of_le}
use lib.Dec.{eqb}
use lib.ListN.{get_or}
use Rattle.std.proofs.Common.{Some, None}
use Rattle.rules.specs.declared.Sizes.{Sizes}
use Rattle.rules.specs.declared.RecordNumber.{RecordNumber}
use Rattle.rules.specs.declared.Collector.{Collector}
use Rattle.rules.specs.Size.{links, link_number}
use Rattle.rules.specs.Pool.{Pool, none, changed_at}
use Rattle.rules.specs.Collect.{unchanged, holds_unchanged, has_child, passes, reclaimed}
use Rattle.tables.specs.Tables.{Tables, put_values, put_changed}
use Rattle.tables.specs.Bits.{mark_at}
use Rattle.tables.specs.Lie.{is_on, pool_of}
use Rattle.tables.specs.There.{record_there}
use Rattle.tables.proofs.There.{there_some}
use Rattle.tables.proofs.Stand.{count_stands, used_stands, held_stands, candidate_stands, value-stands, changed_stands}
use Rattle.laws.proofs.Tests.{below_or_not}
use Rattle.laws.proofs.Number.{record_same, link_inside}
use Rattle.laws.proofs.Search.{unchanged_each, unchanged_all, child_here, child_none, Passed, asked, asked_passed, passed_asked, passed, passes-unchanged, passes_child, passes_neither, reclaimed-passes, reclaimed-lowest, reclaimed-none}
use Rattle.reclaim.specs.Raw.{waits}

-- ---- what is found

not-both : {b : Bool} → b ≡ true → b ≡ false → ⊥
not-both on off = true≢false (sym on ∙ off)

module _ (s : Sizes) (p : Pool) where
  pub search_finds : (a : RecordNumber) → 1 ≤ a.0 → a.0 ≤ s.n → passes s p a ≡ true → ((b : RecordNumber) → 1 ≤ b.0 → b.0 < a.0 → passes s p b ≡ false)
      → Some a ≡ record_there (reclaimed s p)
  search_finds a some low pass below =
      let r : RecordNumber = reclaimed s p in
      there_some a some
      ∙ ap record_there
      (record_same a r
      (⊎_elim
      (λ nothing. absurd (not-both pass (reclaimed-none s p nothing a some low)))
      (λ x.
      ⊎_elim
      (λ (above : a.0 < r.0). absurd (not-both pass (reclaimed-lowest s p a some above)))
      (λ (here : r.0 ≤ a.0). ⊎_elim (λ e. sym e) (λ (lt : r.0 < a.0). absurd (not-both x.0 (below r x.1 lt))) (eq-or-lt_of_le here))
      (below_or_not a.0 r.0))
      (reclaimed-passes s p)))

  pub search_finds_none : ((b : RecordNumber) → 1 ≤ b.0 → b.0 ≤ s.n → passes s p b ≡ false) → None ≡ record_there (reclaimed s p)
  search_finds_none all =
      let r : RecordNumber = reclaimed s p in
      ap record_there (record_same none r (⊎_elim (λ nothing. sym nothing) (λ x. absurd (not-both x.0 (all r x.1 x.2))) (reclaimed-passes s p)))

-- ---- one record

pub link_from : (s : Sizes) (a : RecordNumber) (f : ℕ) → (link_number s a 0).0 + f ≡ (link_number s a f).0
unfolding link_number
link_from s a f = omega arith

pub links_end : (s : Sizes) (a : RecordNumber) → 1 ≤ a.0 → a.0 ≤ s.n → 1 ≤ s.k → (link_number s a 0).0 + s.k ≤ links s
unfolding link_number
links_end s a some low least = omega (arith, link_inside s a (s.k - 1) some low (omega arith))

-- it does not wait, or the changed mark of one of its links is on and no unchanged one holds a record
abbrev pub Fails : Sizes → (used counts held candidates values changed : List ℕ) → RecordNumber → Type 0
Fails s used counts held candidates values changed a =
    (waits used counts held candidates (a.0 - 1) ≡ false)
    ⊎ ((f : ℕ) × (f < s.k) × (mark_at changed (link_number s a f).0 ≡ true)
    × ((t : Tables) (c : Collector) → has_child s (pool_of s (put_values values (put_changed changed t)) c) a ≡ false))

module _ (s : Sizes) (t : Tables) (c : Collector) (a : RecordNumber) (some : 1 ≤ a.0) (low : a.0 ≤ s.n) where
  abbrev p : Pool
  p = pool_of s t c

  -- the changed mark of link f, by the table
  abbrev mark : ℕ → Bool
  mark f = mark_at t.changed (link_number s a f).0

  mark_stands : (f : ℕ) → f < s.k → changed_at p (link_number s a f) ≡ mark f
  mark_stands f k = changed_stands s t c (link_number s a f) (link_inside s a f some low k)

  pub links-unchanged : ((f : ℕ) → f < s.k → mark f ≡ false) → unchanged s p a ≡ true
  links-unchanged off = unchanged_all s p a (λ f k. mark_stands f k ∙ off f k)

  pub link_changed : (f : ℕ) → f < s.k → mark f ≡ true → unchanged s p a ≡ false
  link_changed f k on = by_test (unchanged s p a) refl
    where
      by_test : (b : Bool) → unchanged s p a ≡ b → b ≡ false
      by_test false e = refl
      by_test true e = absurd (not-both (mark_stands f k ∙ on) (unchanged_each s p a e f k))

  -- link f is unchanged and holds a record, by the tables
  abbrev holds : ℕ → Bool
  holds f = not (mark f) && is_on (get_or t.values (link_number s a f).0 0)

  holds-stands : (f : ℕ) → f < s.k → holds_unchanged p (link_number s a f) ≡ holds f
  unfolding holds_unchanged
  holds-stands f k = λ j. not (mark_stands f k j) && is_on (value-stands s t c (link_number s a f) j).0

  pub link_holds : (f : ℕ) → f < s.k → holds f ≡ true → has_child s p a ≡ true
  link_holds f k on = child_here s p a f k (holds-stands f k ∙ on)

  pub links_hold : ((f : ℕ) → f < s.k → holds f ≡ false) → has_child s p a ≡ false
  links_hold off = child_none s p a (λ f k. holds-stands f k ∙ off f k)

  -- ---- and the record itself

  abbrev waiting : Bool
  waiting = waits t.used t.counts t.held t.candidates (a.0 - 1)

  waits-stands : waiting ≡ asked p a
  unfolding waits
  waits-stands =
      sym
      (λ j.
      used_stands s t c a some low j && candidate_stands s t c a some low j && eqb (count_stands s t c a some j) 0 && not (held_stands s t c a some low j))

  pub record_fails : Fails s t.used t.counts t.held t.candidates t.values t.changed a → passes s p a ≡ false
  record_fails (inl idle) = by_test (passes s p a) refl
    where
      by_test : (b : Bool) → passes s p a ≡ b → b ≡ false
      by_test false e = refl
      by_test true e = absurd (not-both (waits-stands ∙ passed_asked p a (passed s p a e)) idle)
  record_fails (inr x) = passes_neither s p a (link_changed x.0 x.1 x.2) (x.3 t c)

  waiting_passed : waiting ≡ true → Passed p a
  waiting_passed on = asked_passed p a (sym waits-stands ∙ on)

  pub record_passes : waiting ≡ true → ((f : ℕ) → f < s.k → mark f ≡ false) → passes s p a ≡ true
  record_passes on off = passes-unchanged s p a (waiting_passed on) (links-unchanged off)

  pub record_sits : waiting ≡ true → has_child s p a ≡ true → passes s p a ≡ true
  record_sits on child = passes_child s p a (waiting_passed on) child
