-- The look-up in the logs, on their tables.
--     OneEntry     one entry of these logs is for a link
-- Assumes nothing.
use Rattle.std.specs.Prelude.{ℕ, ◌+◌, ◌*◌, ◌≤◌, ◌≡◌, true, length, get_or}
use mathlib.Core.List.{List, flatten}
use Rattle.rules.specs.declared.Sizes.{Sizes}
use Rattle.rules.specs.declared.LinkNumber.{LinkNumber}
use Rattle.rules.specs.Size.{in_range, links}
use Rattle.rules.specs.View.{times}
use Rattle.tables.specs.Lie.{room, logs_in}

pub record OneEntry (s : Sizes) (table ns : List ℕ) (l : LinkNumber) : Type 0 where
  pub sizes : in_range s ≡ true
  pub logs : length table ≡ s.w * room s
  pub lengths : length ns ≡ s.w + 1
  pub low : (w : ℕ) → w ≤ s.w → get_or ns w 0 ≤ links s
  pub one : times l (flatten (logs_in s table ns)) ≡ 1
