-- What phase 6 takes next.
--     unchanged_each, unchanged_all     a record has all changed marks off: each of its links has
--     child_here, child_none            a record has an unchanged link that holds a record: one of its links is such a link
--     Passed, asked_passed, passed_asked, passed     what is known of every record that passes, by what the search asks of the record itself
--     passes-unchanged, passes_child, passes_neither     it passes by the one or by the other, and not without either
--     reclaimed-passes      the search finds none, or a record that passes
--     reclaimed-lowest      "the lowest": no record below it passes
--     reclaimed-none        it finds none only where no record passes
--     frees_is, empties-none     freeing a record that has all changed marks off: its unchanged links, which are all, are emptied, and it becomes free
--     reclaims_cases        so phase 6 closes the cycle, or empties the unchanged links of a record that passes, which becomes free if it has all changed marks off
-- Assumes nothing.
use Prim.Native.Nat.{ℕ, zero, suc, ◌+◌, ◌≤◌, ◌<◌, zero-le}
use mathlib.Core.Path.{◌≡◌, refl, sym, ap, ◌∙◌, subst}
use mathlib.Core.Logic.{◌⊎◌, inl, inr, ⊎_elim}
use mathlib.Core.Bool.{Bool, true, false, cond, not, ◌&&◌, ◌||◌}
use native.Mathlib.Omega.{arith}
use native.Mathlib.Nat.{eq-or-lt_of_le}
use borrow.Author.Tests.{not-true, eqb-true, eq-eqb}
use lib.Dec.{eqb}
use lib.ListN.{length}
use Rattle.rules.specs.declared.Sizes.{Sizes}
use Rattle.rules.specs.declared.RecordNumber.{RecordNumber}
use Rattle.rules.specs.declared.Answer.TheVariants.{Freed}
use Rattle.rules.specs.Size.{links, link_number}
use Rattle.rules.specs.Pool.{Pool, none, used_at, count_at, held_at, candidate_at, value_at, changed_at}
use Rattle.rules.specs.Collect.{stepped, is_unchanged, unchanged_from, unchanged, holds_unchanged, child_from, has_child, passes, first_passing, reclaimed, becomes_free, frees, empties, closes, frees_or_empties, reclaims_or_closes, reclaims}
use Rattle.rules.specs.Reply.{Outcome}
use Rattle.laws.proofs.Number.{record_same, link_inside}
use Rattle.laws.proofs.Tests.{and_left, and_right, and_both}
use Rattle.laws.proofs.Change.{emptied-none, emptied_same}

-- ---- the links of a record

module _ (s : Sizes) (p : Pool) (a : RecordNumber) where
  unchanged_at : (f left : ℕ) → unchanged_from s p a f left ≡ true → (g : ℕ) → f ≤ g → g < f + left → changed_at p (link_number s a g) ≡ false
  unfolding unchanged_from
  unchanged_at f zero h g k q = absurd (omega arith)
  unchanged_at f (suc left) h g k q =
      ⊎_elim
      (λ e.
      ap (λ (i : ℕ). changed_at p (link_number s a i)) (sym e)
      ∙ not-true (changed_at p (link_number s a f)) (and_left (is_unchanged p (link_number s a f)) (unchanged_from s p a (suc f) left) h))
      (λ (lt : f < g).
      unchanged_at (suc f) left (and_right (is_unchanged p (link_number s a f)) (unchanged_from s p a (suc f) left) h) g lt (omega arith))
      (eq-or-lt_of_le k)

  pub unchanged_each : unchanged s p a ≡ true → (f : ℕ) → f < s.k → changed_at p (link_number s a f) ≡ false
  unfolding unchanged
  unchanged_each h f k = unchanged_at 0 s.k h f zero-le (omega arith)

  unchanged_from_lem : (f left : ℕ) → ((g : ℕ) → f ≤ g → g < f + left → changed_at p (link_number s a g) ≡ false) → unchanged_from s p a f left ≡ true
  unfolding unchanged_from
  unchanged_from_lem f zero h = refl
  unchanged_from_lem f (suc left) h =
      and_both (is_unchanged p (link_number s a f)) (unchanged_from s p a (suc f) left) (ap not (h f (omega arith) (omega arith)))
      (unchanged_from_lem (suc f) left (λ g i j. h g (omega arith) (omega arith)))

  pub unchanged_all : ((f : ℕ) → f < s.k → changed_at p (link_number s a f) ≡ false) → unchanged s p a ≡ true
  unfolding unchanged
  unchanged_all h = unchanged_from_lem 0 s.k (λ g i j. h g (omega arith))

  child_from_lem : (f left g : ℕ) → f ≤ g → g < f + left → holds_unchanged p (link_number s a g) ≡ true → child_from s p a f left ≡ true
  unfolding child_from
  child_from_lem f zero g k q e = absurd (omega arith)
  child_from_lem f (suc left) g k q e =
      ⊎_elim
      (λ here. ap (λ b. b || child_from s p a (suc f) left) (ap (λ (i : ℕ). holds_unchanged p (link_number s a i)) here ∙ e))
      (λ (lt : f < g). or_right (holds_unchanged p (link_number s a f)) (child_from s p a (suc f) left) (child_from_lem (suc f) left g lt (omega arith) e))
      (eq-or-lt_of_le k)
    where
      or_right : (b c : Bool) → c ≡ true → (b || c) ≡ true
      or_right true c h = refl
      or_right false c h = h

  pub child_here : (f : ℕ) → f < s.k → holds_unchanged p (link_number s a f) ≡ true → has_child s p a ≡ true
  unfolding has_child
  child_here f k e = child_from_lem 0 s.k f zero-le (omega arith) e

  none_from : (f left : ℕ) → ((g : ℕ) → f ≤ g → g < f + left → holds_unchanged p (link_number s a g) ≡ false) → child_from s p a f left ≡ false
  unfolding child_from
  none_from f zero h = refl
  none_from f (suc left) h =
      λ j. h f (omega arith) (omega arith) j || none_from (suc f) left (λ g i k. h g (omega arith) (omega arith)) j

  pub child_none : ((f : ℕ) → f < s.k → holds_unchanged p (link_number s a f) ≡ false) → has_child s p a ≡ false
  unfolding has_child
  child_none h = none_from 0 s.k (λ g i j. h g (omega arith))

-- ---- a record that passes

-- "used candidate, count 0, not held"
pub record Passed (p : Pool) (a : RecordNumber) : Type 0 where
  pub used : used_at p a ≡ true
  pub candidate : candidate_at p a ≡ true
  pub count : count_at p a ≡ 0
  pub held : held_at p a ≡ false

-- what the search asks of the record itself
abbrev pub asked : Pool → RecordNumber → Bool
asked p a = used_at p a && candidate_at p a && eqb (count_at p a) 0 && not (held_at p a)

module _ (p : Pool) (a : RecordNumber) where
  pub asked_passed : asked p a ≡ true → Passed p a
  asked_passed h =
      let used : Bool = used_at p a in
      let candidate : Bool = candidate_at p a in
      let count : Bool = eqb (count_at p a) 0 in
      let held : Bool = not (held_at p a) in
      let to-count : (used && candidate && count) ≡ true = and_left (used && candidate && count) held h in
      let to-candidate : (used && candidate) ≡ true = and_left (used && candidate) count to-count in
      record {
        used = and_left used candidate to-candidate;
        candidate = and_right used candidate to-candidate;
        count = eqb-true (count_at p a) 0 (and_right (used && candidate) count to-count);
        held = not-true (held_at p a) (and_right (used && candidate && count) held h);
      }

  pub passed_asked : Passed p a → asked p a ≡ true
  passed_asked h = and_both _ _ (and_both _ _ (and_both _ _ h.used h.candidate) (eq-eqb (count_at p a) 0 h.count)) (ap not h.held)

module _ (s : Sizes) (p : Pool) (a : RecordNumber) where
  pub passed : passes s p a ≡ true → Passed p a
  unfolding passes
  passed h = asked_passed p a (and_left (asked p a) (unchanged s p a || not (unchanged s p a) && has_child s p a) h)

  pub passes-unchanged : Passed p a → unchanged s p a ≡ true → passes s p a ≡ true
  unfolding passes
  passes-unchanged h e = λ j. passed_asked p a h j && (e j || not (e j) && has_child s p a)

  pub passes_child : Passed p a → has_child s p a ≡ true → passes s p a ≡ true
  unfolding passes
  passes_child h e = (λ j. passed_asked p a h j && (unchanged s p a || not (unchanged s p a) && e j)) ∙ either (unchanged s p a)
    where
      either : (b : Bool) → (b || not b && true) ≡ true
      either true = refl
      either false = refl

  pub passes_neither : unchanged s p a ≡ false → has_child s p a ≡ false → passes s p a ≡ false
  unfolding passes
  passes_neither e f = (λ j. asked p a && (e j || not (e j) && f j)) ∙ and_no (asked p a)
    where
      and_no : (b : Bool) → (b && false) ≡ false
      and_no true = refl
      and_no false = refl

-- ---- freeing

-- all of its links are unchanged
pub frees_is : (s : Sizes) (p : Pool) (a : RecordNumber) → unchanged s p a ≡ true → frees s a p ≡ becomes_free a (empties s a p)
unfolding frees empties
frees_is s p a h =
    ap (becomes_free a) (emptied_same (λ l. true) (is_unchanged p) s a 0 s.k (λ g i j. sym (ap not (unchanged_each s p a h g (omega arith)))) p)

-- and all of them then hold none
pub empties-none : (s : Sizes) (p : Pool) (a : RecordNumber) → length p.links.value ≡ links s → 1 ≤ a.0 → a.0 ≤ s.n → unchanged s p a ≡ true
    → (f : ℕ) → f < s.k → value_at (empties s a p) (link_number s a f) ≡ none
unfolding empties
empties-none s p a shaped some low h f k =
    emptied-none (is_unchanged p) s a 0 s.k p (λ g i j. omega (arith, link_inside s a g some low (omega arith))) f zero-le (omega arith) (ap not (unchanged_each s p a h f k))

-- ---- the search

module _ (s : Sizes) (p : Pool) where
  -- of the `left` records from a on: none passes and none is found, or the lowest that passes is found
  Searched : ℕ → ℕ → RecordNumber → Type 0
  Searched a left r =
      ((r.0 ≡ 0) × ((i : ℕ) → a ≤ i → i < a + left → passes s p (record { 0 = i }) ≡ false))
      ⊎ ((passes s p r ≡ true) × (a ≤ r.0) × (r.0 < a + left) × ((i : ℕ) → a ≤ i → i < r.0 → passes s p (record { 0 = i }) ≡ false))

  searched : (a left : ℕ) → Searched a left (first_passing s p a left)
  unfolding Searched first_passing
  searched a zero = inl (refl, λ i h k. absurd (omega arith))
  searched a (suc left) = by_test (passes s p here) refl (searched (suc a) left)
    where
      here : RecordNumber
      here = record { 0 = a }

      rest : RecordNumber
      rest = first_passing s p (suc a) left

      more : (to : ℕ) → passes s p here ≡ false → ((i : ℕ) → suc a ≤ i → i < to → passes s p (record { 0 = i }) ≡ false)
          → (i : ℕ) → a ≤ i → i < to → passes s p (record { 0 = i }) ≡ false
      more to off all i h k =
          ⊎_elim (λ e. ap (λ (j : ℕ). passes s p (record { 0 = j })) (sym e) ∙ off) (λ (lt : a < i). all i lt k) (eq-or-lt_of_le h)

      by_test : (b : Bool) → passes s p here ≡ b → Searched (suc a) left rest → Searched a (suc left) (cond b here rest)
      by_test true e next = inr (e, omega arith, omega arith, λ i h k. absurd (omega arith))
      by_test false e (inl x) = inl (x.0, λ i h k. more (suc a + left) e x.1 i h (omega arith))
      by_test false e (inr x) = inr (x.0, omega (arith, x.1), omega (arith, x.2), more rest.0 e x.3)

  pub reclaimed-passes : ((reclaimed s p).0 ≡ 0) ⊎ ((passes s p (reclaimed s p) ≡ true) × (1 ≤ (reclaimed s p).0) × ((reclaimed s p).0 ≤ s.n))
  unfolding Searched reclaimed
  reclaimed-passes = ⊎_elim (λ x. inl x.0) (λ x. inr (x.0, x.1, omega (arith, x.2))) (searched 1 s.n)

  pub reclaimed-lowest : (a : RecordNumber) → 1 ≤ a.0 → a.0 < (reclaimed s p).0 → passes s p a ≡ false
  unfolding Searched reclaimed
  reclaimed-lowest a h k = ⊎_elim (λ x. absurd (omega (arith, x.0))) (λ x. x.3 a.0 h k) (searched 1 s.n)

  pub reclaimed-none : (reclaimed s p).0 ≡ 0 → (a : RecordNumber) → 1 ≤ a.0 → a.0 ≤ s.n → passes s p a ≡ false
  unfolding Searched reclaimed
  reclaimed-none z a h k = ⊎_elim (λ x. x.1 a.0 h (omega arith)) (λ x. absurd (omega (arith, x.1))) (searched 1 s.n)

  -- phase 6 closes the cycle where no record passes; else it empties the unchanged links of one that passes, and frees it if it has no others
  pub reclaims_cases : (P : Outcome → Type 0) → ((reclaimed s p).0 ≡ 0 → P (stepped (closes p)))
      → ((y : RecordNumber) → 1 ≤ y.0 → y.0 ≤ s.n → Passed p y → unchanged s p y ≡ true → P (record { answer = Freed y; pool = becomes_free y (empties s y p) }))
      → ((y : RecordNumber) → 1 ≤ y.0 → y.0 ≤ s.n → Passed p y → unchanged s p y ≡ false → P (stepped (empties s y p)))
      → P (reclaims s p)
  unfolding reclaims reclaims_or_closes frees_or_empties
  reclaims_cases P close free empty = by_number (reclaimed s p).0 refl reclaimed-passes
    where
      by_marks : (y : RecordNumber) → 1 ≤ y.0 → y.0 ≤ s.n → Passed p y → (b : Bool) → unchanged s p y ≡ b
          → P (cond b (record { answer = Freed y; pool = frees s y p }) (stepped (empties s y p)))
      by_marks y some low pass true e = subst (λ (q : Pool). P (record { answer = Freed y; pool = q })) (sym (frees_is s p y e)) (free y some low pass e)
      by_marks y some low pass false e = empty y some low pass e

      by_number : (k : ℕ) → (reclaimed s p).0 ≡ k → ((reclaimed s p).0 ≡ 0) ⊎ ((passes s p (reclaimed s p) ≡ true) × (1 ≤ (reclaimed s p).0) × ((reclaimed s p).0 ≤ s.n)) → P (reclaims_or_closes s p k)
      by_number zero f x = close f
      by_number (suc i) f (inl z) = absurd (omega arith)
      by_number (suc i) f (inr x) =
          let y : RecordNumber = record { 0 = suc i } in
          let pass : passes s p y ≡ true = subst (λ (b : RecordNumber). passes s p b ≡ true) (record_same (reclaimed s p) y f) x.0 in
          by_marks y (omega arith) (omega (arith, x.2)) (passed s p y pass) (unchanged s p y) refl
