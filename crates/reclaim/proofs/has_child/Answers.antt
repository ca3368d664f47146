-- `reclaim::has_child` meets its contract: a link of the record is unchanged and holds a record, or none is. Assumes nothing.
use Prim.Native.Nat.{ℕ, ◌+◌, ◌≤◌, ◌<◌}
use mathlib.Core.Path.{◌≡◌, refl, sym, ap, ◌∙◌}
use mathlib.Core.Bool.{Bool, true, false, not, ◌&&◌}
use native.Mathlib.Omega.{arith}
use borrow.Author.Rules.{rules}
use borrow.Author.Tests.{tests}
use lib.ListN.{get_or}
use Rattle.std.proofs.lemmas.Iterator.{serves_from_Range, cases_from_any, YieldsList-from_range}
use Rattle.rules.specs.Size.{links, link_number}
use Rattle.laws.proofs.Number.{bounds, links_most}
use Rattle.tables.specs.Bits.{digits, mark_at}
use Rattle.tables.specs.Lie.{is_on}
use Rattle.reclaim.proofs.Found.{link_from, links_end, link_holds, links_hold}
use Rattle.reclaim.proofs.Ranges.{any_below}
use Rattle.reclaim.proofs.has_child.Goals as goal
use Rattle.reclaim.proofs.has_child.Goals.{After-link_marks-marks}

pub link_number-requires : goal.link_number-requires
link_number-requires c = let of-pool = c.requires.0 in (of-pool.sizes, of-pool.some, of-pool.low, (bounds c.args.s of-pool.sizes).k_least)

-- where the first link stands
first_is : (c : After-link_marks-marks) → c.from-from.result ≡ (link_number c.args.s c.args.a 0).0
first_is c = c.from-from.ensures ∙ ap (λ l. l.0) c.link_number.ensures.0

-- a link of the record is in the table, and its mark in the word
inside : (c : After-link_marks-marks) (f : ℕ) → f < c.args.s.k → (c.from-from.result + f < links c.args.s) × (links c.args.s ≤ 8208) × (f < 64)
inside c f low =
    let of-pool = c.requires.0 in
    let b = bounds c.args.s of-pool.sizes in
    (omega (arith, low, first_is c, links_end c.args.s c.args.a of-pool.some of-pool.low b.k_least), links_most c.args.s of-pool.sizes, omega (arith, low, b.k_most))

-- a link is unchanged and holds a record, by the word of the marks and by where the record's links begin
abbrev holds : After-link_marks-marks → ℕ → Bool
holds c f = not (get_or (digits 64 c.link_marks-marks.result) f false) && is_on (get_or c.args.values.now (c.from-from.result + f) 0)

-- and by the tables
holds_is : (c : After-link_marks-marks) (f : ℕ) → let l : ℕ = (link_number c.args.s c.args.a f).0 in
    f < c.args.s.k → holds c f ≡ (not (mark_at c.args.changed.now l) && is_on (get_or c.args.values.now l 0))
holds_is c f low =
    λ j.
    not (c.link_marks-marks.ensures f low j)
    && is_on (get_or c.args.values.now ((ap (λ (n : ℕ). n + f) (first_is c) ∙ link_from c.args.s c.args.a f) j) 0)

pub any-requires-clause-callable : goal.any-requires-clause-callable
any-requires-clause-callable c =
    let at = (goal.at.any-requires-clause-callable c).After-link_marks-marks in
    serves_from_Range (λ x q k. search (rules, tests)) (λ x low high. let i = inside at x (omega (arith, high, c.from.ensures)) in (
      λ κ p g e o l u v. omega (arith, i),
      λ κ p g e o l u v. omega (arith, i),
      λ κ p g e o l u v w. omega (arith, i, c.requires.1),
      λ κ p g e o l u v w x y z a. i.2,
    ))

pub returns : goal.returns
returns c t c' =
    let at = (goal.at.returns c).After-link_marks-marks in
    let of-pool = c.requires.0 in
    let on = λ (f : ℕ). holds at f ≡ true in
    let off = λ (f : ℕ). holds at f ≡ false in
    any_below c.args.s.k on off _ _
    (cases_from_any _ _ _ on off
    c.any.ensures.ran (YieldsList-from_range 0 c.from.result c.args.s.k refl (omega (arith, c.from.ensures))) (λ x q k. search (rules, tests)) (λ x q k. search (rules, tests)))
    (λ f low h. link_holds c.args.s _ c' c.args.a of-pool.some of-pool.low f low (sym (holds_is at f low) ∙ h))
    (λ h. links_hold c.args.s _ c' c.args.a of-pool.some of-pool.low (λ f low. sym (holds_is at f low) ∙ h f low))
