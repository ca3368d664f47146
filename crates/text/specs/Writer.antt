-- A buffer that is written from its start on.
--     written     the text that stands in it
--     Room        there is room for so many bytes more
--     Puts        a text was put behind it
-- Assumes nothing.
use Rattle.std.specs.Prelude.{ℕ, ◌+◌, ◌≤◌, ◌≡◌, List, ◌++◌, length, take}
use Rattle.text.specs.declared.writer.Writer.{Writer}

abbrev pub written : Writer → List ℕ
written w = take w.len w.out.now

abbrev pub Room : Writer → ℕ → Type 0
Room w size = w.len + size ≤ length w.out.now

-- into the same buffer
pub record Puts (before : Writer) (text : List ℕ) (after : Writer) : Type 0 where
  pub same : after.out.ghost_name ≡ before.out.ghost_name
  pub room : length after.out.now ≡ length before.out.now
  pub len : after.len ≡ before.len + length text
  pub wrote : written after ≡ written before ++ text
