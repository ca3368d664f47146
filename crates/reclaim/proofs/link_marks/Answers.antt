-- `reclaim::link_marks` meets its contract: the links of a record stand one after another. Assumes nothing.
use Prim.Native.Nat.{ℕ, ◌+◌}
use mathlib.Core.Path.{◌≡◌, ap, ◌∙◌}
use native.Mathlib.Omega.{arith}
use Rattle.rules.specs.Size.{link_number}
use Rattle.tables.specs.Bits.{mark_at}
use Rattle.laws.proofs.Number.{bounds, links_most}
use Rattle.reclaim.proofs.Found.{link_from, links_end}
use Rattle.reclaim.proofs.link_marks.Goals as goal
use Rattle.reclaim.proofs.link_marks.Goals.{After-from}

pub link_number-requires : goal.link_number-requires
link_number-requires c = let of-pool = c.requires.0 in (of-pool.sizes, of-pool.some, of-pool.low, (bounds c.args.s of-pool.sizes).k_least)

-- where the first link stands
first_is : (c : After-from) → c.from.result ≡ (link_number c.args.s c.args.a 0).0
first_is c = c.from.ensures ∙ ap (λ l. l.0) c.link_number.ensures.0

pub marks_from-requires : goal.marks_from-requires
marks_from-requires c =
    let s = c.args.s in
    let of-pool = c.requires.0 in
    let b = bounds s of-pool.sizes in
    let all = c.from-2.ensures in
    let end = links_end s c.args.a of-pool.some of-pool.low b.k_least in (
      omega (arith, c.requires.1, links_most s of-pool.sizes),
      omega (arith, all, b.k_least),
      omega (arith, all, b.k_most),
      omega (arith, all, first_is (goal.at.marks_from-requires c).After-from, end, c.requires.1),
    )

pub returns : goal.returns
returns c f low =
    c.marks_from.ensures f (omega (arith, c.from-2.ensures))
    ∙ ap (mark_at c.args.changed.now) (ap (λ (n : ℕ). n + f) (first_is (goal.at.returns c).After-from) ∙ link_from c.args.s c.args.a f)
