-- `worker::logged` meets its contract: where the mark is on nothing changes, else the entry goes behind the last, where there is room. Assumes nothing.
use Prim.Native.Nat.{ℕ, ◌+◌, ◌*◌}
use mathlib.Core.Path.{◌≡◌, refl, sym, ap, ◌∙◌}
use mathlib.Core.Bool.{true}
use native.Mathlib.Omega.{arith}
use lib.ListN.{get_or, set}
use Rattle.laws.proofs.Number.{links_most}
use Rattle.tables.specs.Bits.{marked}
use Rattle.tables.specs.Lie.{room}
use Rattle.worker.specs.Lent.{logs_on, logged_on}
use Rattle.worker.proofs.logged.Goals as goal
use Rattle.worker.proofs.logged.Goals.{After-from-2}

-- how many entries there are, by the worker's own number
entries : (c : After-from-2) → c.from-2.result ≡ get_or c.args.lengths.now c.args.w 0
entries c = c.from-2.ensures ∙ ap (λ (i : ℕ). get_or c.args.lengths.now i 0) c.from-worker.ensures

pub returns-then-marked : goal.returns-then-marked
unfolding logged_on
returns-then-marked c t = rw (sym c.requires.mark ∙ c.if-marked.true) refl

pub overflow_add-lengths : goal.overflow_add-lengths
overflow_add-lengths c = omega (arith, c.requires.free c.if-marked.false, entries c, links_most c.args.s c.requires.sizes)

pub returns : goal.returns
unfolding logged_on
returns c t =
    let at = c.args in
    let place : c.log_place.result + c.from-2.result * 2 ≡ at.w * room at.s + get_or at.lengths.now at.w 0 * 2 =
    omega (arith, c.log_place.ensures.0, ap (λ (i : ℕ). i * room at.s) c.from.ensures, entries (goal.at.returns c).After-from-2) in
    rw (sym c.requires.mark ∙ c.if-marked.false)
    (λ j.
    logs_on
    ((c.set_mark.ensures ∙ ap (λ (i : ℕ). marked at.changed.now i true) c.from-link.ensures) j)
    (set (set at.logs.now (place j) at.l.0) (place j + 1) at.old.0)
    (set at.lengths.now (c.from-worker.ensures j) (get_or at.lengths.now (c.from-worker.ensures j) 0 + 1))
    t)
