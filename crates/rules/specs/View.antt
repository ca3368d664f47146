-- The entries of the logs and the history that stand for a link, and the view value: the end of "Collector steps" of document 01.
--     stands_for    whether an entry is for a link
--     times         how many of some entries are for a link
--     old_in        the old value of the first of some entries that is for a link
--     all_logs      the entries of all logs together
--     look_up       the look-up in the logs
--     view_value    the view value of a link
-- Assumes nothing.
use Rattle.std.specs.Prelude.{ℕ, ◌+◌, Bool, true, false, cond, eqb}
use mathlib.Core.List.{List, [], ◌∷◌, flatten}
use Rattle.rules.specs.declared.RecordNumber.{RecordNumber}
use Rattle.rules.specs.declared.LinkNumber.{LinkNumber}
use Rattle.rules.specs.Pool.{Entry, Pool, none, value_at, changed_at}

abbrev pub stands_for : LinkNumber → Entry → Bool
stands_for l e = eqb e.link.0 l.0

-- a mark as a number
abbrev pub bit : Bool → ℕ
bit true = 1
bit false = 0

unfoldable pub times : LinkNumber → List Entry → ℕ
times l [] = 0
times l (e ∷ entries) = bit (stands_for l e) + times l entries

unfoldable pub old_in : LinkNumber → List Entry → RecordNumber → RecordNumber
old_in l [] otherwise = otherwise
old_in l (e ∷ entries) otherwise = cond (stands_for l e) e.old (old_in l entries otherwise)

unfoldable pub all_logs : Pool → List Entry
all_logs p = flatten p.workers.log

-- the look-up in the logs: "the old value in the one log entry for it"
unfoldable pub look_up : LinkNumber → List (List Entry) → RecordNumber
look_up l logs = old_in l (flatten logs) none

-- "The view value of a link is its value if its changed mark is off, else the old value in the one log entry for it."
unfoldable pub view_value : Pool → LinkNumber → RecordNumber
view_value p l = cond (changed_at p l) (look_up l p.workers.log) (value_at p l)
