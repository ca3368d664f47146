-- `Tally::closed` meets its contract: both sums have 31 bits, and so has their difference. Assumes nothing.
use Rattle.std.proofs.Common.{arith, ◌≡◌, ◌∙◌, sym, ap, ℤ, pos, ◌-ℤ◌, [], ◌∷◌, to_z, of_z, w32}
use Rattle.std.proofs.iter.runs.Sources.{halves_Small}
use Rattle.std.proofs.lemmas.Int.{ints}
use mathlib.Core.Bool.{cond}
use Rattle.cycles.specs.Cycles.{sum}
use Rattle.cycles.specs.Tally.{closed_as}
use Rattle.cycles.proofs.Tally.closed.Goals as goal

pub overflow_cast-result : goal.overflow_cast-result
overflow_cast-result c = omega (arith, ints, halves_Small c.args.counts.now c.type_inv.counts, c.count_sum.ensures, c.requires.1)

pub overflow_sub-result : goal.overflow_sub-result
overflow_sub-result c = omega (arith, ints, halves_Small c.args.counts.now c.type_inv.counts, c.count_sum.ensures, c.requires.1, c.requires.0.opening)

pub returns-clause-closed : goal.returns-clause-closed
returns-clause-closed c =
    let t = c.args.self in
    let all = sum c.args.counts.now in
    let net : to_z w32 (of_z w32 (to_z w32 c.count_sum.result -ℤ to_z w32 t.opening)) ≡ pos all -ℤ pos t.opening =
    omega (arith, ints, halves_Small c.args.counts.now c.type_inv.counts, c.count_sum.ensures, c.requires.1, c.requires.0.opening) in
    ap (λ (z : ℤ). record { taken = t.taken; freed = t.freed; net = z } ∷ []) net
    ∙ ap (λ closes. cond closes (closed_as t all ∷ []) []) (sym c.if-not-closes.false ∙ c.closes.ensures)
