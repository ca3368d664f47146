-- `tables::mark::with_bit` meets its contract: or with the one bit, and with all others. Assumes nothing.
use Prim.Native.Nat.{ℕ, ◌-◌, ◌^◌}
use mathlib.Core.Path.{sym, ap, ◌∙◌}
use lib.Bits.{bit_and, bit_or}
use lib.ListN.{set}
use Rattle.tables.specs.Bits.{digits}
use Rattle.tables.proofs.Digits.{mask_is, or_set, and_set}
use Rattle.tables.proofs.mark.with_bit.Goals as goal

pub returns-then-on : goal.returns-then-on
returns-then-on c =
    let word = c.args.word in
    let place = c.args.place in
    ap (λ (m : ℕ). digits 64 (bit_or word m)) (mask_is 64 place c.requires)
    ∙ or_set 64 word place c.requires
    ∙ ap (set (digits 64 word) place) (sym c.if-on.true)

pub returns : goal.returns
returns c =
    let word = c.args.word in
    let place = c.args.place in
    ap (λ (m : ℕ). digits 64 (bit_and word ((2 ^ 64 - 1) - m))) (mask_is 64 place c.requires)
    ∙ and_set 64 word place c.ranges.word.fits c.requires
    ∙ ap (set (digits 64 word) place) (sym c.if-on.false)
