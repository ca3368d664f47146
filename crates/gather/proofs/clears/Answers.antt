-- `gather::clears` meets its contract: the position has a history entry, whose link's mark is written. Assumes nothing.
use Prim.Native.Nat.{ℕ, ◌*◌, ◌/◌, ◌<◌}
use mathlib.Core.Path.{◌≡◌, refl, ap, ◌∙◌, subst}
use mathlib.Core.Logic.{inl}
use native.Mathlib.Omega.{arith}
use lib.ListN.{length, get_or}
use mathlib.Core.Bool.{false}
use Rattle.tables.specs.Bits.{marked}
use Rattle.gather.proofs.Here.{onward_asks, entry_inside, entry_known}
use Rattle.gather.proofs.Moves.{Onward, onward-answers, clears_on_lem}
use Rattle.tables.proofs.Chunks.{chunk_at}
use Rattle.gather.proofs.clears.Goals as goal
use Rattle.gather.proofs.clears.Goals.{After-from-2, After-from-3}

-- the entry's pair is there
inside : (c : After-from-2) → c.from-2.result < length c.args.history.now / 2
inside c = omega (arith, c.from-2.ensures, entry_inside c.requires.1 (inl c.requires.2), c.requires.1.exact.history)

-- its link
link_is : (c : After-from-3) → c.from-3.result ≡ get_or c.args.history.now (c.args.c.position * 2) 0
link_is c =
    c.from-3.ensures
    ∙ chunk_at 2 _ c.args.history.now c.from-2.result 0 c.as_chunks.ensures.front (inside (goal.at.After-from-3 c).After-from-2) (omega arith)
    (omega (arith, c.from-2.ensures))

pub bounds-as_chunks-from : goal.bounds-as_chunks-from
bounds-as_chunks-from c = omega (arith, inside (goal.at.bounds-as_chunks-from c).After-from-2, c.as_chunks.ensures.front_len)

pub set_mark-requires : goal.set_mark-requires
set_mark-requires c =
    omega (
      arith,
      (entry_known c.requires.1 (inl c.requires.2)).1.link,
      c.requires.1.exact.changed,
      link_is (goal.at.set_mark-requires c).After-from-3,
    )

pub onward-requires : goal.onward-requires
onward-requires c = onward_asks c.requires.1 3 (omega arith) c.requires.2

pub returns : goal.returns
returns c t known e =
    let at = c.args in
    clears_on_lem known e
    (c.set_mark.ensures ∙ ap (λ (l : ℕ). marked at.changed.now l false) (link_is (goal.at.returns c).After-from-3))
    (subst (λ (n : ℕ). Onward n n at.c c.stepped.result)
    (ap (λ (i : ℕ). get_or at.lengths.now i 0) c.from.ensures)
    (onward-answers _ at.c (omega arith) c.stepped.ensures c.onward.ensures refl))
