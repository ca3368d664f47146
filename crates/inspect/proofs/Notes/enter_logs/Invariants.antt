-- The loop of `enter_logs`.
use Rattle.inspect.specs.Parts.{noted}
use Rattle.inspect.proofs.Logs.{LogsEntered}
use Rattle.inspect.proofs.Notes.enter_logs.Given as goal

abbrev pub invariant-loop-w : goal.invariant-loop-w
invariant-loop-w l = LogsEntered l.s l.logs l.lengths (noted l.fn.self) l.w l.padded (noted l.self)
