-- The loop of `take_parts`: fewer than 13 bytes are left of the part before, a part is ready, its text has room, and a part has at most 16384 bytes.
use Rattle.std.proofs.Common.{◌*◌, ◌≤◌, ◌<◌, length}
use Rattle.input.proofs.take_parts.Given as goal

abbrev pub invariant-loop : goal.invariant-loop
invariant-loop g l = (l.left < 13) × (l.base ≤ l.counter * 16384) × g.P.Parts.ready l.parts × (g.P.Parts.room ≤ length l.text)
