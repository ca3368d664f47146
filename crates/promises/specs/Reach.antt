-- Reach, of "What the pool is" of document 01 and of document 02's request 5.
--     Reaches     a worker reaches a record
-- Assumes nothing.
use Rattle.std.specs.Prelude.{ℕ, ◌≤◌, ◌<◌, ◌≡◌}
use Rattle.rules.specs.declared.Sizes.{Sizes}
use Rattle.rules.specs.declared.RecordNumber.{RecordNumber}
use Rattle.rules.specs.Size.{link_number, board_number}
use Rattle.rules.specs.Pool.{Pool, value_at, register_at}

-- "A worker reaches what its registers hold and, from a reached record, the present values of its links". "From here "reach" in demand 3 begins at registers and
-- board entries" (document 02, request 5). None is no record
pub data Reaches (s : Sizes) (p : Pool) (w : ℕ) : RecordNumber → Type 0 where
  holds : {a : RecordNumber} (r : ℕ) → register_at p w r ≡ a → 1 ≤ a.0 → Reaches s p w a
  posted : {a : RecordNumber} (e : ℕ) → e < s.b → value_at p (board_number s e) ≡ a → 1 ≤ a.0 → Reaches s p w a
  leads : {a b : RecordNumber} (f : ℕ) → Reaches s p w a → f < s.k → value_at p (link_number s a f) ≡ b → 1 ≤ b.0 → Reaches s p w b
