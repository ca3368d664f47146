-- "Numbers a call may answer" of document 01, and those of document 02: what an answer stands for.
--     refusal_number    the number of a refusal
--     number, value     the number and the value of an answer
--     Outcome           an answer, and the pool after it
-- Where a refusal is given exactly is said by the definitions that give it: 3 to 5, 13 and 14 by `refusals` of Outcome, 1 for the sizes by `start` there.
-- Assumes nothing.
use Rattle.std.specs.Prelude.{ℕ}
use Rattle.rules.specs.declared.Refusal.{Refusal}
use Rattle.rules.specs.declared.Refusal.TheVariants.{
  WrongSize,
  NotSound,
  NoSuchWorker,
  HoldsNone,
  NoneFree,
  WrongTag,
  WrongLength,
  StopsShort,
  WrongStep,
  ExtraByte,
  WrongCount,
  NoSuchRegister,
  NoSuchLink,
  SizesDiffer,
  OutputShort,
}
use Rattle.rules.specs.declared.Answer.{Answer}
use Rattle.rules.specs.declared.Answer.TheVariants.{Fresh, Made, Moved, Dropped, Loaded, Stored, Stepped, Freed, Refused}
use Rattle.rules.specs.Pool.{Pool}

-- the table's first column, from its second; "From now on 3 means no such worker. Refusals: 13 register, 14 link" (document 02, request 2)
unfoldable pub refusal_number : Refusal → ℕ
refusal_number WrongSize = 1
refusal_number NotSound = 2
refusal_number NoSuchWorker = 3
refusal_number HoldsNone = 4
refusal_number NoneFree = 5
-- "The number 6 isn't used again." (document 02, request 4)
refusal_number WrongTag = 7
refusal_number WrongLength = 8
refusal_number StopsShort = 9
refusal_number WrongStep = 10
refusal_number ExtraByte = 11
refusal_number WrongCount = 12
refusal_number NoSuchRegister = 13
refusal_number NoSuchLink = 14
refusal_number SizesDiffer = 15
refusal_number OutputShort = 16

-- 0: "done"
unfoldable pub number : Answer → ℕ
number Fresh = 0
number (Made a) = 0
number (Moved a) = 0
number Dropped = 0
number (Loaded a) = 0
number (Stored a) = 0
number Stepped = 0
number (Freed a) = 0
number (Refused why) = refusal_number why

-- the answers of "Worker events" and "Collector steps"; "A refused event has the value 0"
unfoldable pub value : Answer → ℕ
value Fresh = 0
value (Made a) = a.0
value (Moved a) = a.0
value Dropped = 0
value (Loaded a) = a.0
value (Stored a) = a.0
value Stepped = 0
value (Freed a) = a.0
value (Refused why) = 0

pub record Outcome : Type 0 where
  pub answer : Answer
  pub pool : Pool
