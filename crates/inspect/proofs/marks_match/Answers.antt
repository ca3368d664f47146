-- `inspect::marks_match` meets its contract. The loop's invariant: the marks of the words passed are tested. Assumes nothing.
use Prim.Native.Nat.{ℕ, ◌+◌, ◌*◌, ◌/◌, ◌%◌, ◌≤◌, ◌<◌}
use mathlib.Core.Path.{◌≡◌, refl, sym, ap, ◌∙◌}
use mathlib.Core.Bool.{◌&&◌}
use mathlib.Core.List.{[], ◌∷◌, ◌++◌}
use native.Mathlib.Omega.{arith}
use native.Mathlib.Nat.{div-add-mod'}
use borrow.Author.Tests.{eqb-true, eqb-false}
use lib.ListN.{length, length-append, get_or, take}
use borrow.Author.Rules.{rules}
use Rattle.std.proofs.lemmas.Slice.Zip.{zip_turn, zip_end}
use Rattle.clauses.specs.IsSound.{below}
use Rattle.clauses.specs.Inspected.{marks_match}
use Rattle.inspect.specs.Parts.{matches}
use Rattle.inspect.proofs.Chunks.{part_long, part_at, rest_at}
use Rattle.inspect.proofs.Seen.{link_matches, marked_in}
use Rattle.inspect.proofs.Tested.{below_parts}
use Rattle.inspect.proofs.marks_match.Goals as goal
use Rattle.inspect.proofs.marks_match.Goals.{After-is_empty}

pub loop-times-preserved : goal.loop-times-preserved
loop-times-preserved c =
    let at = length c.loop-times.yielded in
    let changed = c.args.changed.now in
    let seen = c.args.seen.now in
    let test = link_matches changed seen in
    let short : c.from.result ≤ length seen = omega (arith, c.from.ensures, c.requires.0, c.told-seen) in
    let turn =
    zip_turn c.as_chunks.result.0.now changed c.loop-times.yielded c.into_iter-times-iterator.result c.loop-times.times-iterator c.next.new.self _
    (search rules) (search rules) c.loop-times.yielded_by _ c.in-Some.is c.next.ensures.steps in
    let inside : at < c.args.links / 64 = omega (arith, turn.0, c.as_chunks.ensures.front_len, part_long 64 c.from.result seen short, c.from.ensures) in
    (λ j.
    c.loop-times.invariant j
    && (c.whole_matches-ok.ensures
    ∙ (λ j. below 64 (matches (turn.3 0 j) (turn.2 [] j)))
    ∙ marked_in changed seen _ at 64 turn.1 (omega arith)
    (λ i h. part_at 64 c.from.result seen short at i c.as_chunks.ensures.front (omega (arith, c.from.ensures)) h refl (omega (arith, c.from.ensures)))) j)
    ∙ sym (below_parts test (at * 64) 64)
    ∙ ap (λ (n : ℕ). below n test)
    (let e : at * 64 + 64 ≡ length (c.loop-times.yielded ++ ((c.in-Some.times, c.in-Some.word) ∷ [])) * 64 =
    omega (arith, length-append c.loop-times.yielded ((c.in-Some.times, c.in-Some.word) ∷ [])) in e)

-- behind the loop all whole words are passed
module _ (c : After-is_empty) where
  long : length (take c.from.result c.args.seen.now) ≡ c.args.links
  long = part_long 64 c.from.result c.args.seen.now (omega (arith, c.from.ensures, c.requires.0, c.told-seen)) ∙ c.from.ensures

  passed : length c.loop-times.yielded ≡ c.args.links / 64
  passed =
      let ended =
      zip_end c.as_chunks.result.0.now c.args.changed.now c.loop-times.yielded c.into_iter-times-iterator.result c.loop-times.times-iterator c.next.new.self _
      (search rules) (search rules) c.loop-times.yielded_by c.in-None.is c.next.ensures.steps in
      omega (arith, c.requires.1, ended, c.as_chunks.ensures.front_len, long)

pub returns-then-is_empty : goal.returns-then-is_empty
unfolding marks_match
returns-then-is_empty c =
    let at = (goal.at.returns-then-is_empty c).After-is_empty in
    let none = eqb-true (length c.as_chunks.result.1.now) 0 (sym c.is_empty.ensures ∙ c.if-is_empty.true) in
    c.loop-times.invariant
    ∙ ap (λ (n : ℕ). below n (link_matches c.args.changed.now c.args.seen.now))
    (let all : length c.loop-times.yielded * 64 ≡ c.args.links = omega (arith, passed at, none, c.as_chunks.ensures.back_len, long at) in all)

pub rest_matches-requires : goal.rest_matches-requires
rest_matches-requires c = omega (arith, c.as_chunks.ensures.back_len)

pub returns : goal.returns
unfolding marks_match
returns c =
    let at = (goal.at.returns c).After-is_empty in
    let links = c.args.links in
    let changed = c.args.changed.now in
    let seen = c.args.seen.now in
    let chunks = c.as_chunks.ensures in
    let test = link_matches changed seen in
    let short : c.from.result ≤ length seen = omega (arith, c.from.ensures, c.requires.0, c.told-seen) in
    let whole : length c.as_chunks.result.0.now ≡ links / 64 = omega (arith, chunks.front_len, long at) in
    let many : length c.as_chunks.result.1.now ≡ links % 64 = omega (arith, chunks.back_len, long at) in
    let some = eqb-false (length c.as_chunks.result.1.now) 0 (sym c.is_empty.ensures ∙ c.if-is_empty.false) in
    let inside : links / 64 < length changed = omega (arith, c.requires.1, many, some) in
    (λ j.
    (c.loop-times.invariant ∙ ap (λ (n : ℕ). below (n * 64) test) (passed at)) j
    && (c.rest_matches.ensures
    ∙ (λ j. below (many j) (matches (get_or changed (whole j) 0) c.as_chunks.result.1.now))
    ∙ marked_in changed seen _ (links / 64) (links % 64) inside (omega arith)
    (λ i h. rest_at 64 c.from.result seen short i chunks.back (omega (arith, c.from.ensures)) (omega (arith, c.from.ensures)))) j)
    ∙ sym (below_parts test (links / 64 * 64) (links % 64))
    ∙ ap (λ (n : ℕ). below n test) (div-add-mod' links 64)
