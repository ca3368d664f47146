-- The call of `join`, in numbers.
use mathlib.Core.Path.{sym, ap, ◌∙◌}
use Rattle.yuyarisun.specs.Join.{join_numbers}
use Rattle.yuyarisun.proofs.yuyarisun_join.Goals as goal

pub returns-in-Ok : goal.returns-in-Ok
unfolding join_numbers
returns-in-Ok c = ap join_numbers c.join.ensures ∙ (λ j. join_numbers (record { joined = c.in-Ok.is j; out = c.join.new.out }))

pub returns-in-Err : goal.returns-in-Err
unfolding join_numbers
returns-in-Err c =
    ap join_numbers c.join.ensures
    ∙ (λ j. join_numbers (record { joined = c.in-Err.is j; out = c.join.new.out }))
    ∙ (λ j. record { number = sym c.refused.ensures.number j; length = 0; place = sym c.refused.ensures.place j; out = c.join.new.out })
