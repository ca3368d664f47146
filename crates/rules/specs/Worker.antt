-- "Worker events" of document 01: what each does where nothing refuses it (the refusals are in Outcome).
--     first_free, first_above, lowest, chosen       the record that a make takes
--     makes, moves, drops                           these events
--     register_takes, loads, looks                  a register takes what a link holds: of a record, of the board
--     must_log, added, logged, snooped              the parts of a store
--     link_takes, stores, posts                     a link takes what a register holds: of a record, of the board
-- Assumes nothing.
use Rattle.std.specs.Prelude.{ℕ, suc, ◌+◌, Bool, true, false, cond, not, List, [], ◌∷◌, ◌++◌, eqb, drop}
use Rattle.rules.specs.declared.Sizes.{Sizes}
use Rattle.rules.specs.declared.RecordNumber.{RecordNumber}
use Rattle.rules.specs.declared.LinkNumber.{LinkNumber}
use Rattle.rules.specs.declared.Answer.TheVariants.{Made, Moved, Dropped, Loaded, Stored}
use Rattle.rules.specs.Size.{link_number, board_number}
use Rattle.rules.specs.Pool.{Pool, none, with_record, value_at, changed_at, register_at, snoops_at, log_at}
use Rattle.rules.specs.Pool.{with_used, with_held, with_maker, with_value, with_changed, with_register, with_log, with_last}
use Rattle.rules.specs.Reply.{Outcome}

-- ---- make

-- the first record that is free, where the marks are those of the records from a on; none if none is
unfoldable pub first_free : ℕ → List Bool → RecordNumber
first_free a [] = none
first_free a (false ∷ used) = record { 0 = a }
first_free a (true ∷ used) = first_free (suc a) used

-- "the first free record above the last one made" (document 02, request 1)
unfoldable pub first_above : Pool → RecordNumber
first_above p = first_free (suc p.last.0) (drop p.last.0 p.records.used)

-- "the lowest"
unfoldable pub lowest : Pool → RecordNumber
lowest p = first_free 1 p.records.used

-- "A make now takes the first free record above the last one made, else the lowest." (document 02, request 1)
unfoldable pub chosen : Pool → RecordNumber
chosen p = cond (eqb (first_above p).0 0) (lowest p) (first_above p)

-- "make w r: [that record] becomes used, its maker is w + 1, register r holds it. Nothing else of it is touched. Answer: its number." "The pool remembers the
-- last made number" (document 02, request 1)
unfoldable pub makes : ℕ → ℕ → Pool → Outcome
makes w r p =
    let a = chosen p in
    record {
      answer = Made a;
      pool =
          with_register w r a
          (with_last a
          (with_maker (with_record p.records.maker a.0 (w + 1)) (with_used (with_record p.records.used a.0 true) p)));
    }

-- ---- move, drop

-- "move w r q: register r takes what q holds. Answer: that value."
unfoldable pub moves : ℕ → ℕ → ℕ → Pool → Outcome
moves w r q p = let a = register_at p w q in record { answer = Moved a; pool = with_register w r a p }

-- "drop w r: register r becomes none. Answer 0."
unfoldable pub drops : ℕ → ℕ → Pool → Outcome
drops w r p = record { answer = Dropped; pool = with_register w r none p }

-- ---- load, look

-- "register r takes link [l]. Answer: that value."
unfoldable pub register_takes : ℕ → ℕ → LinkNumber → Pool → Outcome
register_takes w r l p = let a = value_at p l in record { answer = Loaded a; pool = with_register w r a p }

-- "load w r q f: register r takes link f of the record in q. Answer: that value."
unfoldable pub loads : Sizes → ℕ → ℕ → ℕ → ℕ → Pool → Outcome
loads s w r q f p = register_takes w r (link_number s (register_at p w q) f) p

-- "look w r e .. with the answers .. of load" (document 02, request 5)
unfoldable pub looks : Sizes → ℕ → ℕ → ℕ → Pool → Outcome
looks s w r e p = register_takes w r (board_number s e) p

-- ---- store, post

-- "if the link's changed mark is off"
abbrev pub must_log : Pool → LinkNumber → Bool
must_log p l = not (changed_at p l)

-- "(link, its value) is added to w's log and the mark goes on"
unfoldable pub added : ℕ → LinkNumber → Pool → Pool
added w l p = with_changed l true (with_log w (log_at p w ++ (record { link = l; old = value_at p l } ∷ [])) p)

-- "if the link's changed mark is off, (link, its value) is added to w's log and the mark goes on"
unfoldable pub logged : ℕ → LinkNumber → Pool → Pool
logged w l p = cond (must_log p l) (added w l p) p

-- "if w snoops and the value is not none, that record is marked held"
unfoldable pub snooped : ℕ → RecordNumber → Pool → Pool
snooped w a p = cond (snoops_at p w) (with_held (with_record p.records.held a.0 true) p) p

-- ".. the link takes what r holds (none is allowed); .. Answer: the value overwritten. A store of an equal value is logged like any other."
unfoldable pub link_takes : ℕ → LinkNumber → ℕ → Pool → Outcome
link_takes w l r p =
    let a = register_at p w r in
    record { answer = Stored (value_at p l); pool = snooped w a (with_value l a (logged w l p)) }

-- "store w q f r": the link is link f of the record in q
unfoldable pub stores : Sizes → ℕ → ℕ → ℕ → ℕ → Pool → Outcome
stores s w q f r p = link_takes w (link_number s (register_at p w q) f) r p

-- "post w e r .., with the answers and the barrier of .. store" (document 02, request 5)
unfoldable pub posts : Sizes → ℕ → ℕ → ℕ → Pool → Outcome
posts s w e r p = link_takes w (board_number s e) r p
