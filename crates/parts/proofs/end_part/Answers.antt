-- `parts::end_part` meets its contract: the words of the used marks are within the array. Assumes nothing.
use mathlib.Core.Path.{sym}
use native.Mathlib.Omega.{arith}
use lib.Seq.{length-take-le}
use Rattle.parts.proofs.Front.{small}
use Rattle.parts.proofs.end_part.Goals as goal

pub slice_bounds-stand_behind-end : goal.slice_bounds-stand_behind-end
slice_bounds-stand_behind-end c =
    sym (length-take-le _ _ (omega (arith, c.word_count.ensures, c.requires.used_len, (small c.args.x.sizes c.requires.sizes_value).n)))
