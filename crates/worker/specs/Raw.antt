-- Whether the numbers of an event are there; and what a make's search reads, in the words of used marks that it is lent.
--     all_there     that they are, or the refusal, of an event of which a number is not there
--     free_from     the search among the marks from a place on
-- Assumes nothing.
use Rattle.std.specs.Prelude.{ℕ, suc, Bool, cond, List, drop, Result, Ok, Err}
use Rattle.rules.specs.declared.RecordNumber.{RecordNumber}
use Rattle.rules.specs.declared.Refusal.{Refusal}
use Rattle.rules.specs.declared.Refusal.TheVariants.{NoSuchWorker, NoSuchRegister, NoSuchLink}
use Rattle.rules.specs.Worker.{first_free}
use Rattle.tables.specs.Bits.{marks_in}

-- the first of 3, 13 and 14, by whether the worker, the registers and the link or entry are there
abbrev pub all_there : (worker registers last : Bool) → Result Unit Refusal
all_there worker registers last = cond worker (cond registers (cond last (Ok tt) (Err NoSuchLink)) (Err NoSuchRegister)) (Err NoSuchWorker)

-- of n marks, those from place i on are those of the records from i + 1 on
abbrev pub free_from : ℕ → List ℕ → ℕ → RecordNumber
free_from n used i = first_free (suc i) (drop i (marks_in n used))
