-- The logs in their table.
--     LogTables                              the logs and the lengths, of the right size
--     length_logs                            how many logs there are
--     joined_most, all_joined_most           how many entries the first of them have, and all of them
--     part_inside, length_part, log_part     the part of the table that is one log
-- Assumes nothing.
use Prim.Native.Nat.{ℕ, zero, suc, ◌+◌, ◌-◌, ◌*◌, ◌≤◌, ◌<◌}
use mathlib.Core.Path.{◌≡◌, sym, ap, ◌∙◌, subst}
use mathlib.Core.Bool.{true}
use mathlib.Core.List.{List, [], ◌∷◌, zip_with, flatten}
use native.Mathlib.Omega.{arith}
use native.Mathlib.Nat.{suc-mul}
use lib.ListN.{length, get_or, take, drop, length-append, length-drop}
use lib.Seq.{length-take-le, take-take, take_all}
use Rattle.rules.specs.declared.Sizes.{Sizes}
use Rattle.rules.specs.Size.{in_range, links}
use Rattle.rules.specs.Pool.{Entry}
use Rattle.rules.specs.Sound.{Each}
use Rattle.tables.specs.Lie.{cut, entries, room, logs_in}
use Rattle.tables.proofs.Blocks.{length_cut, cut_at}
use Rattle.tables.proofs.Entered.{length-entries}
use Rattle.tables.proofs.Rooms.{entries_part}
use Rattle.laws.proofs.Number.{block_end}
use Rattle.laws.proofs.Lists.{Each-at, length_zipped, zip_with_at}

pub record LogTables (s : Sizes) (logs lengths : List ℕ) : Type 0 where
  pub sizes : in_range s ≡ true
  pub exact : length logs ≡ s.w * room s
  pub counted : length lengths ≡ s.w + 1
  pub low : Each (λ n. n ≤ links s) lengths

-- the first lists of some whose lengths are at most m, joined
pub joined_most : (m k : ℕ) (ns : List ℕ) (rooms : List (List ℕ)) → Each (λ n. n ≤ m) ns → length (flatten (take k (zip_with entries ns rooms))) ≤ k * m
unfolding zip_with flatten
joined_most m zero ns rooms h = omega arith
joined_most m (suc k) [] rooms h = omega arith
joined_most m (suc k) (n ∷ ns) [] h = omega arith
joined_most m (suc k) (n ∷ ns) (r ∷ rooms) h =
    omega (
      arith,
      length-append (entries n r) (flatten (take k (zip_with entries ns rooms))),
      length-entries n r,
      joined_most m k ns rooms h.1,
      suc-mul k m,
      h.0,
    )

pub length_logs : (s : Sizes) (logs lengths : List ℕ) → length lengths ≡ s.w + 1 → length (logs_in s logs lengths) ≡ s.w
length_logs s logs lengths counted =
    length_zipped entries lengths (cut s.w (room s) logs) (omega (arith, length_cut s.w (room s) logs, counted)) ∙ length_cut s.w (room s) logs

pub all_joined_most : (s : Sizes) (logs lengths : List ℕ) → length lengths ≡ s.w + 1 → Each (λ n. n ≤ links s) lengths → length (flatten (logs_in s logs lengths)) ≤ s.w * links s
all_joined_most s logs lengths counted low =
    subst (λ (all : List (List Entry)). length (flatten all) ≤ s.w * links s)
    (take_all s.w (logs_in s logs lengths) (omega (arith, length_logs s logs lengths counted)))
    (joined_most (links s) s.w lengths (cut s.w (room s) logs) low)

-- the n entries of a log from its place on, as code cuts them out
module _ {s : Sizes} {logs lengths : List ℕ} (right : LogTables s logs lengths) {w from n : ℕ} (here : w < s.w) (place : from ≡ w * room s) (many : n ≡ get_or lengths w 0) where
  pub short : n * 2 ≤ room s
  short = omega (arith, many, Each-at (λ k. k ≤ links s) lengths w 0 (omega (arith, right.counted)) right.low)

  pub part_inside : from + n * 2 ≤ length logs
  part_inside = omega (arith, short, right.exact, block_end w s.w (room s) here, place)

  pub length_part : length (take (from + n * 2 - from) (drop from logs)) ≡ n * 2
  length_part =
      length-take-le (from + n * 2 - from) (drop from logs) (omega (arith, part_inside, length-drop from logs))
      ∙ (let e : from + n * 2 - from ≡ n * 2 = omega arith in e)

  pub log_part : get_or (logs_in s logs lengths) w [] ≡ entries n (take (from + n * 2 - from) (drop from logs))
  log_part =
      zip_with_at entries lengths (cut s.w (room s) logs) w 0 [] [] (omega (arith, right.counted)) (omega (arith, length_cut s.w (room s) logs))
      ∙ ap (entries (get_or lengths w 0)) (cut_at s.w (room s) logs w here)
      ∙ (λ j. entries (sym many j) (take (room s) (drop (sym place j) logs)))
      ∙ sym (entries_part n (take (room s) (drop from logs)))
      ∙ ap (entries n) (take-take (n * 2) (room s) (drop from logs) short)
      ∙ ap (λ (k : ℕ). entries n (take k (drop from logs))) (let e : n * 2 ≡ from + n * 2 - from = omega arith in e)
