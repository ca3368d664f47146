-- `tables::mark::marks_from` meets its contract: `marks_one`, or `marks_two`. Assumes nothing.
use Prim.Native.Nat.{ℕ, ◌+◌, ◌/◌, ◌%◌}
use mathlib.Core.Path.{ap, ◌∙◌}
use native.Mathlib.Omega.{arith}
use native.Mathlib.Nat.{mod-lt, zero-lt-suc, div-add-mod'}
use Rattle.tables.specs.Bits.{mark_at}
use Rattle.tables.proofs.Row.{marks_one, marks_two}
use Rattle.tables.proofs.mark.marks_from.Goals as goal

pub returns-then-first-many-le64 : goal.returns-then-first-many-le64
returns-then-first-many-le64 c i h =
    let words = c.args.words.now in
    let from = c.args.from in
    marks_one words (from / 64) (from % 64) (omega (arith, c.requires)) i (omega arith) ∙ ap (λ (n : ℕ). mark_at words (n + i)) (div-add-mod' from 64)

pub returns : goal.returns
returns c i h =
    let words = c.args.words.now in
    let from = c.args.from in
    marks_two words (from / 64) (from % 64) (mod-lt from (zero-lt-suc 63)) (omega (arith, c.requires)) (c.shared_slice_known-1.given (from / 64)).fits i (omega (arith, c.requires.2))
    ∙ ap (λ (n : ℕ). mark_at words (n + i)) (div-add-mod' from 64)
