-- The loop of `mark.count_off`.
use Prim.Native.Nat.{◌-◌}
use mathlib.Core.Path.{◌≡◌}
use lib.ListN.{drop}
use Rattle.tables.specs.Bits.{bits_of, ones_of}
use Rattle.tables.proofs.mark.count_off.Given as goal

abbrev pub invariant-loop-word : goal.invariant-loop-word
invariant-loop-word l = l.n - ones_of (bits_of l.words) ≡ l.off - ones_of (bits_of (drop l.word-index l.words))
