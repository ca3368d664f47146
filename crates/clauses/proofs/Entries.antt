-- Laws on entries that the check rests on.
--     times-length       no link stands more often among entries than there are entries
--     times_later        a later part of a list has no more entries for a link
--     old_in_swapped     two lists of entries of which at most one says something of a link
-- Assumes nothing.
use Prim.Native.Nat.{ℕ, ◌+◌, ◌-◌, ◌≤◌, ◌<◌}
use mathlib.Core.Path.{◌≡◌, sym, ap, ◌∙◌}
use mathlib.Core.Logic.{⊎_elim}
use mathlib.Core.List.{List, [], ◌∷◌}
use native.Mathlib.Omega.{arith}
use native.Mathlib.Nat.{eq-zero-or-pos}
use lib.ListN.{length, drop}
use lib.Seq.{drop-drop}
use Rattle.rules.specs.declared.LinkNumber.{LinkNumber}
use Rattle.rules.specs.declared.RecordNumber.{RecordNumber}
use Rattle.rules.specs.Pool.{Entry}
use Rattle.rules.specs.View.{stands_for, times, old_in}
use Rattle.laws.proofs.Tests.{bit_most}
use Rattle.laws.proofs.Entries.{times_from, old_in_absent}

pub times-length : (l : LinkNumber) (xs : List Entry) → times l xs ≤ length xs
unfolding times
times-length l [] = omega arith
times-length l (e ∷ xs) = omega (arith, bit_most (stands_for l e), times-length l xs)

pub times_later : (l : LinkNumber) (xs : List Entry) (to from : ℕ) → to ≤ from → times l (drop from xs) ≤ times l (drop to xs)
times_later l xs to from h =
    omega (
      arith,
      ap (times l) (drop-drop (from - to) to xs ∙ ap (λ (i : ℕ). drop i xs) (let e : to + (from - to) ≡ from = omega arith in e)),
      times_from l (drop to xs) (from - to),
    )

pub old_in_swapped : (l : LinkNumber) (xs ys : List Entry) (a : RecordNumber) → times l xs + times l ys ≤ 1 → old_in l ys (old_in l xs a) ≡ old_in l xs (old_in l ys a)
old_in_swapped l xs ys a h =
    ⊎_elim
    (λ z. ap (old_in l ys) (old_in_absent l xs a z) ∙ sym (old_in_absent l xs (old_in l ys a) z))
    (λ (q : 0 < times l xs).
    let z : times l ys ≡ 0 = omega arith in
    old_in_absent l ys (old_in l xs a) z ∙ ap (old_in l xs) (sym (old_in_absent l ys a z)))
    (eq-zero-or-pos (times l xs))
