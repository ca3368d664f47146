-- The loop of `enter`.
use mathlib.Core.Path.{◌≡◌}
use Rattle.rules.specs.Size.{links}
use Rattle.tables.specs.Lie.{entries}
use Rattle.clauses.specs.Entered.{entered_all}
use Rattle.inspect.specs.Parts.{noted}
use Rattle.inspect.proofs.Notes.enter.Given as goal

abbrev pub invariant-loop-link : goal.invariant-loop-link
invariant-loop-link l =
    entered_all (links l.s) l.s.n l.by (entries l.link-index l.list) (noted l.fn.self) ≡ record { ok = l.ok; seen = l.self.seen; last = l.self.last }
