-- `fresh::fresh` meets its contract: what is refused changes nothing, and tables that are cleared are those of a fresh pool. Assumes nothing.
use mathlib.Core.Path.{◌≡◌, sym, ap, ◌∙◌}
use Rattle.rules.specs.declared.Answer.TheVariants.{Fresh}
use Rattle.rules.specs.declared.Collector.{Collector}
use Rattle.rules.specs.Size.{in_range}
use Rattle.rules.specs.Pool.{fresh}
use Rattle.laws.proofs.Tests.{and_right}
use Rattle.tables.specs.Lent.{contents}
use Rattle.tables.specs.Event.{written}
use Rattle.fresh.specs.Fits.{fits}
use Rattle.fresh.specs.Fresh.{made_fresh}
use Rattle.fresh.proofs.Exact.{exact_tells}
use Rattle.fresh.proofs.Zero.{Cleared, zero_tables, cleared_all, fresh-zero}
use Rattle.fresh.proofs.fresh.Goals as goal

pub returns-clause-made : goal.returns-clause-made
unfolding made_fresh written fresh
returns-clause-made c =
    let at = c.args in
    let fit = ap (fits at.s) (sym c.to_read.ensures) ∙ sym c.has_shape.ensures ∙ c.if-not-has_shape.false in
    let none = c.default.ensures in
    let collector : record { phase = 0; position = 0; closed = 0 } ≡ c.default.result = λ j. record { phase = sym none.0 j; position = sym none.1.0 j; closed = sym none.1.1 j } in
    let cleared : Cleared (contents at.t.now) _ = record {
      used = c.fill.ensures.after (λ y e. e);
      counts = c.fill-2.ensures.after (λ y e. e);
      held = c.fill-3.ensures.after (λ y e. e);
      candidates = c.fill-4.ensures.after (λ y e. e);
      makers = c.fill-5.ensures.after (λ y e. e);
      values = c.fill-6.ensures.after (λ y e. e);
      changed = c.fill-7.ensures.after (λ y e. e);
      registers = c.fill-8.ensures.after (λ y e. e);
      snoops = c.fill-9.ensures.after (λ y e. e);
      logs = c.fill-10.ensures.after (λ y e. e);
      history = c.fill-11.ensures.after (λ y e. e);
      lengths = c.fill-12.ensures.after (λ y e. e);
    } in
    rw (fit, fresh-zero at.s, cleared_all at.s (exact_tells at.s (contents at.t.now) (and_right (in_range at.s) _ fit)) cleared) (ap (λ (x : Collector). record { answer = Fresh; collector = x; tables = zero_tables at.s }) collector)
