-- `join::check_part` meets its contract: the sizes field, and the events behind it. Assumes nothing.
use native.Mathlib.Omega.{arith}
use borrow.Author.Rules.{rules}
use mathlib.Core.Path.{◌≡◌, sym, ap, ◌∙◌}
use Rattle.std.specs.Prelude.{Result, Ok, Err}
use Rattle.fields.specs.declared.RefusedAt.{RefusedAt}
use Rattle.join.specs.Joined.{equal_sizes}
use Rattle.join.specs.Merge.{seen_part}
use Rattle.join.proofs.Reading.{and_seen, part_by, part_seen}
use Rattle.join.proofs.Whole.{opened_inside}
use Rattle.join.proofs.Laid.{equal_is}
use Rattle.join.proofs.check_part.Goals as goal

pub returns-in_err-opening : goal.returns-in_err-opening
returns-in_err-opening c =
    let at = c.args in
    let refused : c.from_residual.result ≡ Err c.in_err-opening.field-0.0 = search rules in
    refused ∙ sym (ap (seen_part at.first) (part_by at.bytes.now at.start (sym c.in_err-opening.ensures)))

pub check_events-requires : goal.check_events-requires
check_events-requires c =
    let lies = opened_inside c.args.bytes.now c.args.start (sym c.in_ok-opening.ensures) in
    (omega (arith, lies.least), lies.inside)

pub returns-in_err-check_events : goal.returns-in_err-check_events
returns-in_err-check_events c =
    let at = c.args in
    let refused : c.from_residual-in_err-check_events.result ≡ Err c.in_err-check_events.field-0.0 = search rules in
    refused
    ∙ sym
    (part_seen at.bytes.now at.start at.first (sym c.in_ok-opening.ensures)
    ∙ ap (λ (u : Result (Unit {0}) RefusedAt). and_seen u (equal_sizes at.first c.in_ok-opening.opening.sizes)) (sym c.in_err-check_events.ensures))

pub returns : goal.returns
returns c =
    let at = c.args in
    ap Ok (c.eq.ensures ∙ equal_is at.first c.in_ok-opening.opening.sizes)
    ∙ sym
    (part_seen at.bytes.now at.start at.first (sym c.in_ok-opening.ensures)
    ∙ ap (λ (u : Result (Unit {0}) RefusedAt). and_seen u (equal_sizes at.first c.in_ok-opening.opening.sizes)) (sym c.in_ok-check_events.ensures))
