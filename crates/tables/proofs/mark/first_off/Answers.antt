-- `tables::mark::first_off` meets its contract. The loop's invariant: what is left to look at, the bits passed over in its first word, gives the same place.
-- Assumes nothing.
use Prim.Native.Nat.{ℕ, ◌+◌, ◌*◌, ◌/◌, ◌%◌, ◌-◌, ◌^◌, ◌<◌}
use mathlib.Core.Path.{◌≡◌, sym, ap, ◌∙◌}
use native.Mathlib.Omega.{arith}
use native.Mathlib.Nat.{mod-lt, zero-lt-suc}
use lib.Bits.{or_lt}
use lib.Dec.{lit<}
use lib.Pow.{pow_mono}
use lib.ListN.{get_or, drop}
use Rattle.tables.proofs.Digits.{mask_is}
use Rattle.tables.proofs.Searched.{left, left_from, left-ends, left-goes, left_past}
use Rattle.tables.proofs.mark.first_off.Goals as goal

pub loop-i-init : goal.loop-i-init
loop-i-init c =
    let words = c.args.words.now in
    let from = c.args.from in
    let small : from % 64 < 64 = mod-lt from (zero-lt-suc 63) in
    let mask : 1 * 2 ^ (from % 64) % 2 ^ 64 ≡ 2 ^ (from % 64) = mask_is 64 (from % 64) small in (
      omega (arith, mask, pow_mono {i = from % 64} {j = 64} (omega arith)),
      left_from words from c.requires.1 ∙ ap (λ (m : ℕ). from / 64 * 64 + left 64 (drop (from / 64) words) (m - 1)) (sym mask),
    )

pub returns-then-zeros-lt64 : goal.returns-then-zeros-lt64
returns-then-zeros-lt64 c =
    let at = c.loop-i in
    let words = c.args.words.now in
    let low = or_lt 64 (get_or words at.i 0) at.passed (c.type_inv.words at.i).fits at.invariant.0 in
    omega (arith, at.invariant.1, left-ends words at.i at.passed (omega arith) low (omega arith))

pub loop-i-preserved : goal.loop-i-preserved
loop-i-preserved c =
    let at = c.loop-i in
    let words = c.args.words.now in
    let low = or_lt 64 (get_or words at.i 0) at.passed (c.type_inv.words at.i).fits at.invariant.0 in (
      lit< tt,
      omega (arith, at.invariant.1, left-goes words at.i at.passed (omega arith) low (omega arith)),
    )

pub returns : goal.returns
returns c =
    let at = c.loop-i in
    let words = c.args.words.now in
    omega (arith, at.invariant.1, left_past words at.i at.passed (omega arith))
