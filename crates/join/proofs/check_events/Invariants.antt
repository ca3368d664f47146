-- The loop of `check_events`.
use Prim.Native.Nat.{ℕ, suc, ◌+◌, ◌-◌, ◌≤◌, ◌<◌}
use mathlib.Core.Path.{◌≡◌}
use lib.ListN.{length}
use Rattle.join.specs.Part.{expected, events_told}
use Rattle.join.specs.Merge.{seen}
use Rattle.join.proofs.check_events.Given as goal

-- behind the event with the number `last`
abbrev pub invariant-loop-size : goal.invariant-loop-size
invariant-loop-size l = record {
  inside : l.place ≤ length l.bytes;
  least : 0 < l.place;
  last : (last : ℕ) × (l.events ≤ last) × (last < 4294967296) × (l.step ≡ expected l.bytes l.place last l.events)
      × ((turns : ℕ) × (length l.bytes < suc turns + l.place)
      × (seen (events_told (length l.bytes) l.bytes l.start 0 0) ≡ seen (events_told (suc turns) l.bytes l.place last l.events)));
}

abbrev pub decreases-loop-size : goal.decreases-loop-size
decreases-loop-size l = length l.bytes - l.place
