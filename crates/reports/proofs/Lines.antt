-- The lines of a part's cycles as text, from the numbers that were put into the slice.
--     cycles_text_lem    the text of the numbers is the text of the cycles, and can be printed
--     kept_printable, kept_printed     of numbers that were left in the slice
--     lines_append       the lines of some cycles, and then of others
-- Assumes nothing.
use Prim.Native.Nat.{ℕ, suc, ◌+◌, ◌*◌, ◌≤◌}
use mathlib.Core.Path.{◌≡◌, refl, sym, ap, ◌∙◌, subst}
use mathlib.Core.List.{List, [], ◌∷◌, ◌++◌, append_assoc}
use native.Mathlib.Omega.{arith}
use native.Mathlib.Nat.{add-zero}
use lib.IntN.{ℤ, pos}
use lib.ListN.{length, take}
use Rattle.rules.specs.Sound.{Each}
use Rattle.text.specs.Text.{StartsWith}
use Rattle.text.specs.Cycle.{cycle_text, cycles_text, Printable}
use Rattle.cycles.specs.declared.Cycle.{Cycle}
use Rattle.cycles.specs.Slice.{put_cycles}
use Rattle.cycles.proofs.Small.{SmallNet}
use Rattle.reports.specs.Printed.{cycles_printed}

pub cycles_text_lem : (before : ℕ) (cycles : List Cycle) (room : List ℤ) → length cycles * 3 ≤ length room → Each SmallNet cycles
    → let numbers = take (length cycles * 3) (put_cycles room cycles) in Printable numbers × (cycles_text before numbers ≡ cycles_printed before cycles)
unfolding cycles_text cycles_printed put_cycles
cycles_text_lem before [] room fits small = (tt, refl)
cycles_text_lem before (c ∷ cycles) [] fits small = absurd (omega arith)
cycles_text_lem before (c ∷ cycles) (x ∷ []) fits small = absurd (omega arith)
cycles_text_lem before (c ∷ cycles) (x ∷ y ∷ []) fits small = absurd (omega arith)
cycles_text_lem before (c ∷ cycles) (x ∷ y ∷ z ∷ room) fits small =
    let three : suc (suc (suc (length cycles * 3))) ≡ suc (length cycles) * 3 = omega arith in
    let rest : List ℤ = put_cycles room cycles in
    let more = cycles_text_lem (suc before) cycles room (omega arith) small.1 in
    let first : ℕ → List ℤ = (λ n. take n (pos c.taken ∷ pos c.freed ∷ c.net ∷ rest)) in (
      subst (λ (n : ℕ). Printable (first n)) three (tt, tt, omega (arith, small.0), more.0),
      ap (λ (n : ℕ). cycles_text before (first n)) (sym three)
          ∙ ap (λ (text : List ℕ). cycle_text (suc before) c.taken c.freed c.net ++ text) more.1,
    )

-- so many numbers of a slice that was left so
module _ (before : ℕ) (cycles : List Cycle) (room : List ℤ) {n : ℕ} {filled kept : List ℤ} (same : filled ≡ kept) (put_there : kept ≡ put_cycles room cycles)
    (count : n ≡ length cycles) (fits : n * 3 ≤ length room) (small : Each SmallNet cycles) where
  abbrev numbers : List ℤ
  numbers = take (n * 3) filled

  lines_kept : Printable numbers × (cycles_text before numbers ≡ cycles_printed before cycles)
  lines_kept =
      subst (λ (xs : List ℤ). Printable xs × (cycles_text before xs ≡ cycles_printed before cycles))
      (λ j. take (sym count j * 3) (sym (same ∙ put_there) j))
      (cycles_text_lem before cycles room (omega (arith, count, fits)) small)

  pub kept_printable : Printable numbers
  kept_printable = lines_kept.0

  pub kept_printed : {out : List ℕ} {size : ℕ} → StartsWith out size (cycles_text before numbers) → StartsWith out size (cycles_printed before cycles)
  kept_printed {out} {size} starts = subst (StartsWith out size) lines_kept.1 starts

pub lines_append : (before : ℕ) (first second : List Cycle) → cycles_printed before (first ++ second) ≡ cycles_printed before first ++ cycles_printed (before + length first) second
unfolding cycles_printed
lines_append before [] second = ap (λ (n : ℕ). cycles_printed n second) (sym (add-zero before))
lines_append before (c ∷ first) second =
    let line : List ℕ = cycle_text (suc before) c.taken c.freed c.net in
    let count : suc before + length first ≡ before + suc (length first) = omega arith in
    ap (λ (text : List ℕ). line ++ text) (lines_append (suc before) first second ∙ ap (λ (n : ℕ). cycles_printed (suc before) first ++ cycles_printed n second) count)
    ∙ sym (append_assoc line (cycles_printed (suc before) first) (cycles_printed (before + suc (length first)) second))
