-- Phase 6 keeps the core: it empties links whose marks are off, each of which counts for its present value and moves from that to none. Nothing is asked of the
-- record whose links they are: a changed link of it stays, with its entry and what it counts for.
--     core_emptied_has, core_emptied_from     some of a record's unchanged links are emptied
--     core_empties                    all of them are
--     core_free                       the record becomes free
--     core_closed                     the marks at the close
-- Assumes nothing.
use Prim.Native.Nat.{ℕ, ◌≤◌}
use mathlib.Core.Path.{◌≡◌, refl, sym, ap, ◌∙◌}
use mathlib.Core.Bool.{false, ◌&&◌}
use mathlib.Core.List.{List, [], map, zip_with}
use native.Mathlib.Omega.{arith}
use borrow.Author.Tests.{not-true}
use lib.Dec.{eqb}
use lib.ListN.{get_or, length-map}
use Rattle.rules.specs.declared.Sizes.{Sizes}
use Rattle.rules.specs.declared.RecordNumber.{RecordNumber}
use Rattle.rules.specs.declared.LinkNumber.{LinkNumber}
use Rattle.rules.specs.Size.{link_number}
use Rattle.rules.specs.Pool.{Entry, Pool, with_record, changed_at, with_held, with_candidate}
use Rattle.rules.specs.Collect.{falls, is_unchanged, emptied, emptied_from, becomes_free, empties}
use Rattle.laws.proofs.Number.{link_inside}
use Rattle.laws.proofs.Change.{emptied_has}
use Rattle.laws.proofs.Lists.{length-with_record, length-zip_with}
use Rattle.soundness.proofs.Core.{Core}
use Rattle.soundness.proofs.Parts.{core_records}
use Rattle.soundness.proofs.Count.{core_emptied}

-- ---- emptying

module _ (s : Sizes) (a : RecordNumber) (p : Pool) (c : Core s p [] []) (some : 1 ≤ a.0) (low : a.0 ≤ s.n) where
  -- of the lowest m of its links the unchanged ones are emptied: the core stays, and so does what emptying one link keeps where the core is there
  pub core_emptied_has : (P : Pool → Type 0) → ((l : LinkNumber) (q : Pool) → Core s q [] [] → P q → P (emptied l q)) → (m : ℕ) → m ≤ s.k → P p
      → Core s (emptied_from (is_unchanged p) s a 0 m p) [] [] × P (emptied_from (is_unchanged p) s a 0 m p)
  unfolding emptied falls
  core_emptied_has P step m most start =
      (emptied_has (is_unchanged p) s a (λ q. (Core s q [] [] × P q) × (q.links.changed ≡ p.links.changed)) 0 m
      (λ g i j off q x.
      let l : LinkNumber = link_number s a g in
      let still-off : changed_at q l ≡ false = ap (λ marks. get_or marks l.0 false) x.1 ∙ not-true (changed_at p l) off in
      ((core_emptied x.0.0 l (link_inside s a g some low (omega arith)) still-off, step l q x.0.0 x.0.1), x.1))
      p
      ((c, start), refl)).0

  pub core_emptied_from : (m : ℕ) → m ≤ s.k → Core s (emptied_from (is_unchanged p) s a 0 m p) [] []
  core_emptied_from m most = (core_emptied_has (λ q. Unit {0}) (λ l q x y. tt) m most tt).0

  pub core_empties : Core s (empties s a p) [] []
  unfolding empties
  core_empties = core_emptied_from s.k (omega arith)

-- ---- freeing

-- "then the record is free and no candidate"
pub core_free : {s : Sizes} {p : Pool} {clear count : List Entry} (a : RecordNumber) → Core s p clear count → Core s (becomes_free a p) clear count
unfolding becomes_free
core_free {s} {p} a c =
    core_records c (with_record p.records.used a.0 false) p.records.held (with_record p.records.candidate a.0 false) p.records.maker
    (length-with_record p.records.used a.0 false ∙ c.shaped.records.used)
    c.shaped.records.held
    (length-with_record p.records.candidate a.0 false ∙ c.shaped.records.candidate)
    c.shaped.records.maker
    c.makers

-- ---- the close

-- "all held marks off, candidate marks off where the count is not 0"
pub core_closed : {s : Sizes} {p : Pool} {clear count : List Entry} → Core s p clear count
    → Core s (with_held (map (λ h. false) p.records.held) (with_candidate (zip_with (λ x n. x && eqb n 0) p.records.candidate p.records.count) p)) clear count
core_closed {s} {p} c =
    core_records c p.records.used (map (λ h. false) p.records.held) (zip_with (λ x n. x && eqb n 0) p.records.candidate p.records.count) p.records.maker
    c.shaped.records.used
    (length-map p.records.held (λ h. false) ∙ c.shaped.records.held)
    (length-zip_with (λ x n. x && eqb n 0) p.records.candidate p.records.count (c.shaped.records.candidate ∙ sym c.shaped.records.count)
    ∙ c.shaped.records.candidate)
    c.shaped.records.maker
    c.makers
