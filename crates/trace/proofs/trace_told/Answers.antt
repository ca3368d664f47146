-- `trace::trace_told` meets its contract: an accepted sizes field goes to `trace_sized`, and anything else is refused with no table changed. Assumes nothing.
use mathlib.Core.Path.{sym, ap, ◌∙◌}
use mathlib.Core.List.{[]}
use Rattle.tables.specs.Lent.{contents}
use Rattle.trace.proofs.FirstField.{first_only, first_sizes, traced-sized, traced-refused, refused_told, sizes_told}
use Rattle.trace.proofs.trace_told.Goals as goal

pub trace_sized-requires-clause-range : goal.trace_sized-requires-clause-range
trace_sized-requires-clause-range g c = (first_sizes c.args.bytes.now (sym c.read_at.ensures ∙ c.in-Ok.is) c.in-Sizes.is).1

pub returns-in-Err-clause-done : goal.returns-in-Err-clause-done
returns-in-Err-clause-done g c = traced-refused (contents c.args.t.now) c.args.c c.args.bytes.now [] (sym c.read_at.ensures ∙ c.in-Err.is)
    ∙ ap (λ r. record { replay = r; tables = contents c.args.t.now; answers = [] }) (sym c.stops.ensures)

pub returns-in-Err-clause-told : goal.returns-in-Err-clause-told
returns-in-Err-clause-told g c = refused_told g.T.Teller.told (contents c.args.t.now) c.args.bytes.now c.args.teller.now (sym c.read_at.ensures ∙ c.in-Err.is)

pub returns-in-Sizes-clause-done : goal.returns-in-Sizes-clause-done
returns-in-Sizes-clause-done g c =
    traced-sized (contents c.args.t.now) c.args.c c.args.bytes.now [] (sym c.read_at.ensures ∙ c.in-Ok.is) c.in-Sizes.is ∙ c.trace_sized.ensures.done

pub returns-in-Sizes-clause-told : goal.returns-in-Sizes-clause-told
returns-in-Sizes-clause-told g c =
    c.trace_sized.ensures.told
    ∙ sizes_told g.T.Teller.told (contents c.args.t.now) c.args.bytes.now c.args.teller.now (sym c.read_at.ensures ∙ c.in-Ok.is) c.in-Sizes.is

pub returns-in_default : goal.returns-in_default
returns-in_default g c = absurd (first_only c.args.bytes.now (sym c.read_at.ensures ∙ c.in-Ok.is) c.in_default.not-Sizes)
