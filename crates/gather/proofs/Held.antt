-- The held marks of the records in some registers, in their words.
--     held_next      one register more
--     held_marks     the words of the marks of the pool
-- Assumes nothing.
use Prim.Native.Nat.{ℕ, ◌+◌, ◌≤◌, ◌<◌}
use mathlib.Core.Path.{◌≡◌, refl, ap, ◌∙◌}
use mathlib.Core.Bool.{Bool, true}
use mathlib.Core.List.{List, [], ◌∷◌}
use native.Mathlib.Omega.{arith}
use native.Mathlib.Numerals.{add-one}
use lib.ListN.{length, get_or, drop}
use lib.Seq.{drop-cons}
use Rattle.rules.specs.Pool.{with_record}
use Rattle.rules.specs.Collect.{held_by}
use Rattle.rules.specs.Sound.{Each}
use Rattle.laws.proofs.Lists.{length-with_record}
use Rattle.tables.specs.Bits.{words_of, mark_record}
use Rattle.tables.specs.Lie.{record_numbers}
use Rattle.tables.proofs.Packed.{record_written}
use Rattle.gather.specs.Raw.{held_in}

pub held_next : (registers held : List ℕ) (r : ℕ) → r < length registers
    → held_in (drop (r + 1) registers) (mark_record held (get_or registers r 0) true) ≡ held_in (drop r registers) held
unfolding held_in
held_next registers held r h = rw (add-one, drop-cons registers r 0)

pub held_marks : (n : ℕ) (registers : List ℕ) (on : List Bool) → length on ≡ n → Each (λ a. a ≤ n) registers
    → words_of (held_by (record_numbers registers) on) ≡ held_in registers (words_of on)
unfolding held_in held_by
held_marks n [] on e low = refl
held_marks n (a ∷ registers) on e low =
    held_marks n registers (with_record on a true) (length-with_record on a true ∙ e) low.1
    ∙ ap (held_in registers) (record_written on a true (omega (arith, low.0)))
