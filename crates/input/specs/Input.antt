-- The bytes that have been read.
--     Reads     a read puts bytes behind those that are left
--     Keeps     what is left of a part becomes the beginning of the next one
-- Assumes nothing.
use Rattle.std.specs.Prelude.{ℕ, ◌-◌, ◌≤◌, ◌≡◌, List, length, take, drop}

-- n bytes have been read, `left` of them before
pub record Reads (before : List ℕ) (left n : ℕ) (after : List ℕ) : Type 0 where
  pub least : left ≤ n
  pub inside : n ≤ length after
  pub kept : take left after ≡ take left before

-- the bytes from one place up to another stand at the front
pub record Keeps (before : List ℕ) (from to : ℕ) (after : List ℕ) : Type 0 where
  pub bytes : take (to - from) after ≡ take (to - from) (drop from before)
