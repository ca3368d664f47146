-- `gather::scans` meets its contract: the position is a worker, whose flag is written and whose registers are a part of their table. Assumes nothing.
use Prim.Native.Nat.{ℕ, ◌+◌, ◌*◌, ◌≤◌}
use mathlib.Core.Path.{sym, ap, ◌∙◌, subst}
use mathlib.Core.List.{List}
use native.Mathlib.Omega.{arith}
use lib.ListN.{length, get_or, set}
use Rattle.rules.specs.Sound.{Each}
use Rattle.laws.proofs.Lists.{Each-map}
use Rattle.laws.proofs.Number.{bounds, block_end}
use Rattle.gather.specs.Raw.{held_in}
use Rattle.gather.proofs.Part.{part_is}
use Rattle.gather.proofs.Here.{position_known, row_known}
use Rattle.gather.proofs.Moves.{onward-answers, scans_on_lem}
use Rattle.gather.proofs.scans.Goals as goal

pub set_flag-requires : goal.set_flag-requires
set_flag-requires c = omega (arith, position_known c.requires.1 4 c.requires.2, c.requires.1.exact.snoops)

pub register_place-from-requires : goal.register_place-from-requires
register_place-from-requires c =
    let known = c.requires.1 in
    (known.sizes, position_known known 4 c.requires.2, (bounds c.args.s known.sizes).r_least)

pub slice_bounds-held_by-end : goal.slice_bounds-held_by-end
slice_bounds-held_by-end c =
    let known = c.requires.1 in
    omega (arith, c.register_place-from.ensures.0, block_end c.args.c.position c.args.s.w c.args.s.r (position_known known 4 c.requires.2), known.exact.registers)

pub held_by-requires : goal.held_by-requires
held_by-requires c =
    let known = c.requires.1 in
    let registers = c.args.registers.now in
    let s = c.args.s in
    let from : ℕ = c.register_place-from.result in
    let row = part_is registers from (from + c.from-2.result) (c.args.c.position * s.r) s.r (omega arith) (omega arith) in
    let low : (a : ℕ) → a ≤ s.n → a ≤ length c.args.held.now * 64 = λ a h. omega (arith, known.exact.held) in
    subst (Each (λ a. a ≤ length c.args.held.now * 64)) (sym row) (Each-map _ low (row_known known c.requires.2))

pub returns : goal.returns
returns c t known e =
    let registers = c.args.registers.now in
    let s = c.args.s in
    let from : ℕ = c.register_place-from.result in
    let row = part_is registers from (from + c.from-2.result) (c.args.c.position * s.r) s.r (omega arith) (omega arith) in
    scans_on_lem known e
    (c.set_flag.ensures ∙ ap (λ (i : ℕ). set c.args.snoops.now i 0) c.from.ensures)
    (c.held_by.ensures ∙ ap (λ (part : List ℕ). held_in part c.args.held.now) row)
    (onward-answers s.w c.args.c (omega arith) c.stepped.ensures c.onward.ensures (ap (λ (i : ℕ). get_or c.args.lengths.now i 0) c.from-3.ensures))
