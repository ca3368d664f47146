-- The call of `fresh`, in numbers.
use mathlib.Core.Path.{sym, ap, ◌∙◌}
use Rattle.std.proofs.Common.{rules}
use Rattle.rules.specs.Reply.{value}
use Rattle.tables.specs.Tables.{lent}
use Rattle.tables.specs.Lent.{contents}
use Rattle.fresh.specs.Fresh.{made_fresh}
use Rattle.yuyarisun.specs.Exported.{sizes_of}
use Rattle.yuyarisun.proofs.InNumbers.{in_numbers, fresh-value}
use Rattle.yuyarisun.proofs.yuyarisun_fresh.Goals as goal

pub returns : goal.returns
returns c =
    let at = c.args in
    let tables = lent at.used.now at.counts.now at.held.now at.candidates.now at.makers.now at.values.now at.changed.now at.registers.now at.snoops.now at.logs.now at.history.now at.lengths.now in
    let done =
    in_numbers (λ k. made_fresh (sizes_of at.n at.k at.w at.r at.b) tables k) c.fresh-x.result (contents c.fresh-x.new.t) c.number_of.result 0
    c.set.new.self c.get.ensures c.fresh-x.ensures.made c.number_of.ensures
    (sym (ap (λ z. value z.answer) (sym c.fresh-x.ensures.made) ∙ fresh-value (sizes_of at.n at.k at.w at.r at.b) tables c.get.result))
    c.set.ensures.set in
    search rules
