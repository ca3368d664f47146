-- The loop of `check`.
use mathlib.Core.Path.{◌≡◌}
use mathlib.Core.Bool.{true}
use lib.ListN.{drop}
use Rattle.join.specs.Part.{parts_told}
use Rattle.join.specs.Merge.{seen_parts, start_of}
use Rattle.join.proofs.check.Given as goal

abbrev pub invariant-loop-length : goal.invariant-loop-length
invariant-loop-length l =
    (l.start ≡ start_of l.lain.lengths.now l.length-index)
    × (seen_parts l.first true (parts_told l.lain.parts.now 0 l.lain.lengths.now) ≡ seen_parts l.first l.same (parts_told l.lain.parts.now l.start (drop l.length-index l.lain.lengths.now)))
