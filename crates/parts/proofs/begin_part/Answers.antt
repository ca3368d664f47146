-- `parts::begin_part` meets its contract, by what may come: the sizes, events, or nothing behind the end field. Assumes nothing.
use mathlib.Core.Path.{sym, ap, ◌∙◌}
use mathlib.Core.List.{List}
use Prim.Native.Nat.{ℕ}
use lib.ListN.{take}
use Rattle.tables.specs.Bits.{word_count}
use Rattle.fresh.specs.Free.{free_in}
use Rattle.trace.specs.Stand.{stand_behind}
use Rattle.parts.specs.Arrays.{part_of}
use Rattle.parts.proofs.First.{later_events, later_ended}
use Rattle.parts.proofs.begin_part.Goals as goal

pub returns-in-Events : goal.returns-in-Events
returns-in-Events c = λ t same set. later_events set c.args.last c.args.bytes.now c.in-Events.is

pub returns-in-Ended : goal.returns-in-Ended
returns-in-Ended c =
    let at = c.args in
    λ t same set.
    later_ended set at.last at.bytes.now c.in-Ended.is
    (c.end_part.ensures
    ∙ ap (λ (used : List ℕ). part_of at.x (stand_behind at.last (free_in at.x.sizes.n (take (word_count at.x.sizes.n) used)) at.x.collector.closed at.bytes.now 0 at.x.reader) 0)
    (sym same))
