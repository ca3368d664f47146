-- `count::view_value` meets its contract: the mark that is tested is the link's, and each arm is the definition's. Assumes nothing.
use Prim.Native.Nat.{ℕ}
use mathlib.Core.Path.{◌≡◌, sym, ap, ◌∙◌}
use mathlib.Core.Bool.{Bool, true, false}
use lib.ListN.{get_or}
use Rattle.tables.specs.Bits.{mark_at}
use Rattle.tables.specs.Lie.{record_number}
use Rattle.count.specs.Lent.{views_on}
use Rattle.count.proofs.Logs.{view_logged, view_plain}
use Rattle.count.proofs.view_value.Goals as goal
use Rattle.count.proofs.view_value.Goals.{After-is_on}

-- the mark that is tested is the link's
marked : (c : After-is_on) (b : Bool) → c.is_on.result ≡ b → mark_at c.args.changed.now c.args.l.0 ≡ b
marked c b e = sym (c.is_on.ensures ∙ ap (mark_at c.args.changed.now) c.from-link.ensures) ∙ e

pub returns-then-is_on : goal.returns-then-is_on
returns-then-is_on c t x =
    let at = c.args in
    rw (view_logged at.s (views_on at.values.now at.changed.now at.logs.now at.lengths.now t) x at.l c.requires.0 (marked (goal.at.returns-then-is_on c).After-is_on true c.if-is_on.true)) c.look_up.ensures

pub returns : goal.returns
returns c t x =
    let at = c.args in
    rw (view_plain at.s (views_on at.values.now at.changed.now at.logs.now at.lengths.now t) x at.l c.requires.0 (marked (goal.at.returns c).After-is_on false c.if-is_on.false))
    (ap (λ (i : ℕ). record_number (get_or at.values.now i 0)) c.from-link.ensures)
