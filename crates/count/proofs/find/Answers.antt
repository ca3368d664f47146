-- `count::find` meets its contract: the last pair of numbers that is for the link is the one entry for it, and where there is none no entry is. Assumes nothing.
use Prim.Native.Nat.{ℕ, ◌/◌}
use mathlib.Core.Path.{◌≡◌, refl, sym, ap, ◌∙◌}
use mathlib.Core.List.{[], ◌∷◌, reverse}
use native.Mathlib.Omega.{arith}
use native.Mathlib.Nat.{le_refl}
use borrow.Author.Rules.{rules}
use borrow.Author.Tests.{tests}
use lib.ListN.{length}
use Rattle.std.specs.Simd.{first_chunks}
use Rattle.std.specs.Option.{option_map, unwrap_or}
use Rattle.std.specs.List.{find}
use Rattle.std.specs.Slice.Iter.{iter_rest, iter_steps_back}
use Rattle.std.proofs.lemmas.List.{length-reverse, reverse-append}
use Rattle.std.proofs.lemmas.Iterator.Consumers.{YieldsList-from_shown}
use Rattle.std.proofs.lemmas.Iterator.Search.{find_from_yields_List}
use Rattle.count.proofs.Search.{is_for, old_of, from_newest}
use Rattle.count.proofs.find.Goals as goal

pub returns : goal.returns
returns c n whole a =
    let log = c.args.log.now in
    let pairs : iter_rest c.iter.result ≡ first_chunks 2 n log =
    c.iter.ensures.rest ∙ c.as_chunks.ensures.front ∙ ap (λ (k : ℕ). first_chunks 2 k log) (let half : length log / 2 ≡ n = omega arith in half) in
    let found =
    find_from_yields_List (is_for c.args.l) _ _ c.rfind.result c.rfind.ensures.ran
    (YieldsList-from_shown iter_steps_back (λ y. y.now) (λ u. reverse (iter_rest u)) (λ u t p. length-reverse _ ∙ p.0)
    (λ u x t p. ap reverse p ∙ reverse-append (iter_rest t) (x.now ∷ [])) c.iter.result)
    (λ x b q k. search (rules, tests)) in
    let mapped : c.map.result ≡ option_map old_of (option_map (λ x. x.now) c.rfind.result) = search (rules, tests) in
    from_newest c.args.l log n n (le_refl n) refl (c.requires n whole) a
    ∙ sym (ap (λ r. unwrap_or r a) (mapped ∙ ap (option_map old_of) (found ∙ ap (λ xs. find (is_for c.args.l) (reverse xs)) pairs)))
