-- `tables::mark::has_bit` meets its contract: the word is shifted until the bit is the lowest. Assumes nothing.
use Prim.Native.Nat.{ℕ, ◌/◌, ◌^◌}
use mathlib.Core.Path.{sym, ap, ◌∙◌}
use lib.Dec.{eqb}
use lib.Bits.{and_mask}
use Rattle.tables.proofs.Digits.{shifted_bit}
use Rattle.tables.proofs.mark.has_bit.Goals as goal

pub returns : goal.returns
returns c =
    ap (λ (r : ℕ). eqb r 1) (and_mask (c.args.word / 2 ^ c.args.place) 1) ∙ sym (shifted_bit 64 c.args.word c.args.place c.requires)
