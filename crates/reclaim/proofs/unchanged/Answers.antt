-- `reclaim::unchanged` meets its contract: a mark of the record's word is on, or none is. Assumes nothing.
use Prim.Native.Nat.{ℕ}
use mathlib.Core.Path.{◌≡◌, refl, sym, ◌∙◌}
use mathlib.Core.Bool.{true, false}
use native.Mathlib.Omega.{arith}
use lib.ListN.{get_or}
use borrow.Author.Rules.{rules}
use borrow.Author.Tests.{tests}
use Rattle.std.proofs.lemmas.Iterator.{serves_from_Range, cases_from_all, YieldsList-from_range}
use Rattle.tables.specs.Bits.{digits}
use Rattle.laws.proofs.Number.{bounds}
use Rattle.reclaim.proofs.Found.{links-unchanged, link_changed}
use Rattle.reclaim.proofs.Ranges.{all_below}
use Rattle.reclaim.proofs.unchanged.Goals as goal

pub all-requires-clause-callable : goal.all-requires-clause-callable
all-requires-clause-callable c =
    serves_from_Range (λ x q k. search (rules, tests)) (λ x low high. omega (arith, high, c.from.ensures, (bounds c.args.s c.requires.0.sizes).k_most))

pub returns : goal.returns
returns c t c' =
    let of-pool = c.requires.0 in
    let marks = c.link_marks-marks in
    let off = λ (f : ℕ). get_or (digits 64 marks.result) f false ≡ false in
    let on = λ (f : ℕ). get_or (digits 64 marks.result) f false ≡ true in
    all_below c.args.s.k off on _ _
    (cases_from_all _ _ _ off on
    c.all.ensures.ran (YieldsList-from_range 0 c.from.result c.args.s.k refl (omega (arith, c.from.ensures))) (λ x q k. search (rules, tests)) (λ x q k. search (rules, tests)))
    (λ h. links-unchanged c.args.s _ c' c.args.a of-pool.some of-pool.low (λ f low. sym (marks.ensures f low) ∙ h f low))
    (λ f low h. link_changed c.args.s _ c' c.args.a of-pool.some of-pool.low f low (sym (marks.ensures f low) ∙ h))
