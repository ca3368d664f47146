-- What is lost, and what of it a closed loop keeps: by present values, as "What the pool is" of document 01 says.
--     Lost          a record that is used and that no worker reaches
--     LeadsTo       from a lost record to a lost record, by the present values of links
--     LoopKeeps     a record is in a closed loop of lost records, or led to from one
-- Assumes nothing.
use Rattle.std.specs.Prelude.{ℕ, ◌<◌, ◌≡◌, true, ◌⊎◌}
use Rattle.rules.specs.declared.Sizes.{Sizes}
use Rattle.rules.specs.declared.RecordNumber.{RecordNumber}
use Rattle.rules.specs.Size.{link_number}
use Rattle.rules.specs.Pool.{Pool, used_at, value_at}
use Rattle.promises.specs.Reach.{Reaches}

pub record Lost (s : Sizes) (p : Pool) (a : RecordNumber) : Type 0 where
  pub used : used_at p a ≡ true
  pub unreached : (w : ℕ) → Reaches s p w a → ⊥

-- in one step or more, through lost records
pub data LeadsTo (s : Sizes) (p : Pool) : RecordNumber → RecordNumber → Type 0 where
  link : {a b : RecordNumber} (f : ℕ) → Lost s p a → Lost s p b → f < s.k → value_at p (link_number s a f) ≡ b → LeadsTo s p a b
  on : {a b c : RecordNumber} → LeadsTo s p a b → LeadsTo s p b c → LeadsTo s p a c

-- a closed loop is a record that leads to itself
pub record LoopKeeps (s : Sizes) (p : Pool) (a : RecordNumber) : Type 0 where
  pub looped : RecordNumber
  pub loop : LeadsTo s p looped looped
  pub keeps : (looped ≡ a) ⊎ LeadsTo s p looped a
