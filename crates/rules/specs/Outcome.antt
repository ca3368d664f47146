-- What a call answers and what it leaves: the refusals in the documents' order, the one function `outcome`, and a run from the fresh pool.
--     Test, refusals, decide      the refusals of an event, in their order
--     does                        what an event does where nothing refuses it
--     outcome                     from sizes, pool and event to answer and pool
--     start                       a pool made fresh by its sizes
--     answers, after              a run from a pool: its answers, and the pool at its end
--     answers_made, answers_freed, used_after, in_use     the records made, freed and used, by the answers' numbers and values
--     free_records                 how many records are free
-- Refusal 1 for a lent table's length, and 2, belong to the call on lent tables, which asks for them before it does what `outcome` says. Assumes nothing.
use Rattle.std.specs.Prelude.{ℕ, zero, suc, Bool, true, false, cond, not, ◌&&◌, List, [], ◌∷◌, ◌++◌, eqb, ltb}
use Rattle.rules.specs.declared.Sizes.{Sizes}
use Rattle.rules.specs.declared.RecordNumber.{RecordNumber}
use Rattle.rules.specs.declared.Event.{Event}
use Rattle.rules.specs.declared.Event.TheVariants.{Make, Move, Drop, Load, Store, Look, Post, Collect}
use Rattle.rules.specs.declared.Refusal.{Refusal}
use Rattle.rules.specs.declared.Refusal.TheVariants.{WrongSize, NoSuchWorker, HoldsNone, NoneFree, NoSuchRegister, NoSuchLink}
use Rattle.rules.specs.declared.Answer.{Answer}
use Rattle.rules.specs.declared.Answer.TheVariants.{Fresh, Refused}
use Rattle.rules.specs.Size.{in_range}
use Rattle.rules.specs.Pool.{Pool, register_at, fresh}
use Rattle.rules.specs.Reply.{number, value, Outcome}
use Rattle.rules.specs.Worker.{chosen, makes, moves, drops, loads, looks, stores, posts}
use Rattle.rules.specs.Collect.{collects}

-- ---- the refusals

-- a refusal is given where its test is true and no test before it is
pub record Test : Type 0 where
  pub when : Bool
  pub why : Refusal

-- a number is asked for, and is there or not
abbrev pub asked : Bool → Refusal → Test
asked here why = record { when = not here; why = why }

-- "From now on 3 means no such worker. Refusals: 13 register, 14 link, in the order 3, 13, 14 where 3 stood" (document 02, request 2). "14 also for a board
-- entry that isn't there" (document 02, request 5). An event that names no link has none that is not there
abbrev pub no_such : (worker registers links : Bool) → List Test
no_such worker registers links = asked worker NoSuchWorker ∷ asked registers NoSuchRegister ∷ asked links NoSuchLink ∷ []

abbrev pub has_worker : Sizes → ℕ → Bool
has_worker s w = ltb w s.w

abbrev pub has_register : Sizes → ℕ → Bool
has_register s r = ltb r s.r

abbrev pub has_link : Sizes → ℕ → Bool
has_link s f = ltb f s.k

abbrev pub has_entry : Sizes → ℕ → Bool
has_entry s e = ltb e s.b

-- "4: load or store through a register that holds none"
abbrev pub holds_none : Pool → ℕ → ℕ → Test
holds_none p w q = record { when = eqb (register_at p w q).0 0; why = HoldsNone }

-- "5: make, and no record is free"
unfoldable pub none_free : Pool → Test
none_free p = record { when = eqb (chosen p).0 0; why = NoneFree }

-- "Order for an event: .. 3, 4, then 5 or 6", "3, 13, 14 where 3 stood" (document 02, request 2), and "take the test and the answer out" (request 4): 3, 13, 14, 4,
-- then 5
unfoldable pub refusals : Sizes → Pool → Event → List Test
refusals s p (Make w r) = no_such (has_worker s w) (has_register s r) true ++ (none_free p ∷ [])
refusals s p (Move w r q) = no_such (has_worker s w) (has_register s r && has_register s q) true
refusals s p (Drop w r) = no_such (has_worker s w) (has_register s r) true
refusals s p (Load w r q f) = no_such (has_worker s w) (has_register s q && has_register s r) (has_link s f) ++ (holds_none p w q ∷ [])
refusals s p (Store w q f r) =
    no_such (has_worker s w) (has_register s q && has_register s r) (has_link s f) ++ (holds_none p w q ∷ [])
refusals s p (Look w r e) = no_such (has_worker s w) (has_register s r) (has_entry s e)
refusals s p (Post w e r) = no_such (has_worker s w) (has_register s r) (has_entry s e)
refusals s p Collect = []

-- "A refused event has the value 0 and changes nothing."
abbrev pub refused : Refusal → Pool → Outcome
refused why p = record { answer = Refused why; pool = p }

-- the first refusal whose test is true, else what is done
unfoldable pub decide : Pool → List Test → Outcome → Outcome
decide p [] done = done
decide p (t ∷ tests) done = cond t.when (refused t.why p) (decide p tests done)

-- ---- an event

unfoldable pub does : Sizes → Pool → Event → Outcome
does s p (Make w r) = makes w r p
does s p (Move w r q) = moves w r q p
does s p (Drop w r) = drops w r p
does s p (Load w r q f) = loads s w r q f p
does s p (Store w q f r) = stores s w q f r p
does s p (Look w r e) = looks s w r e p
does s p (Post w e r) = posts s w e r p
does s p Collect = collects s p

unfoldable pub outcome : Sizes → Pool → Event → Outcome
outcome s p e = decide p (refusals s p e) (does s p e)

-- ---- a run

-- "An accepted sizes field makes the pool fresh, whatever the tables held." "1: a size is out of its range"
unfoldable pub start : Sizes → Pool → Outcome
start s p = decide p (record { when = not (in_range s); why = WrongSize } ∷ []) (record { answer = Fresh; pool = fresh s })

-- the answers of a list of events, one after the other, from a pool
unfoldable pub answers : Sizes → Pool → List Event → List Answer
answers s p [] = []
answers s p (e ∷ events) = let o = outcome s p e in o.answer ∷ answers s o.pool events

-- the pool after them
unfoldable pub after : Sizes → Pool → List Event → Pool
after s p [] = p
after s p (e ∷ events) = after s (outcome s p e).pool events

-- a make that is answered with 0, by this record
unfoldable pub answers_made : RecordNumber → Event → Answer → Bool
answers_made a (Make w r) x = eqb (number x) 0 && eqb (value x) a.0
answers_made a (Move w r q) x = false
answers_made a (Drop w r) x = false
answers_made a (Load w r q f) x = false
answers_made a (Store w q f r) x = false
answers_made a (Look w r e) x = false
answers_made a (Post w e r) x = false
answers_made a Collect x = false

-- a collect event that answers this record: "the answer is the record freed, otherwise 0"
unfoldable pub answers_freed : RecordNumber → Event → Answer → Bool
answers_freed a (Make w r) x = false
answers_freed a (Move w r q) x = false
answers_freed a (Drop w r) x = false
answers_freed a (Load w r q f) x = false
answers_freed a (Store w q f r) x = false
answers_freed a (Look w r e) x = false
answers_freed a (Post w e r) x = false
answers_freed a Collect x = eqb (value x) a.0

-- whether a record is used after an event, by its answer
unfoldable pub used_after : RecordNumber → Bool → Event → Answer → Bool
used_after a before e x = cond (answers_made a e x) true (cond (answers_freed a e x) false before)

-- "the makes answered with 0 less the records freed", of events and their answers
unfoldable pub in_use : RecordNumber → Bool → List Event → List Answer → Bool
in_use a before [] rest = before
in_use a before (e ∷ events) [] = before
in_use a before (e ∷ events) (x ∷ rest) = in_use a (used_after a before e x) events rest

-- "how many records are free"
unfoldable pub free_marks : List Bool → ℕ
free_marks [] = zero
free_marks (true ∷ used) = free_marks used
free_marks (false ∷ used) = suc (free_marks used)

unfoldable pub free_records : Pool → ℕ
free_records p = free_marks p.records.used
