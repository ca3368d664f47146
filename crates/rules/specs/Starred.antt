-- The starred sample runs of document 01, one table, with a row for what each request of document 02 brings.
--     Seen, Row           what a row of the table says
--     runs                the table
--     holds               the test of a row, which antt computes
-- A row marked "own" is not the document's: it is there because none of the document's rows refuses the error that it names. That every row holds is
-- proofs/Starred.antt. Assumes nothing.
use Rattle.std.specs.Prelude.{ℕ, zero, suc, Bool, true, false, ◌&&◌, List, [], ◌∷◌, ◌++◌, map, eqb, replicate}
use Rattle.std.specs.Bool.{beq}
use Rattle.rules.specs.declared.Sizes.{Sizes}
use Rattle.rules.specs.declared.Event.{Event}
use Rattle.rules.specs.declared.Event.TheVariants.{Make, Drop, Load, Store, Look, Post, Collect}
use Rattle.rules.specs.declared.Answer.{Answer}
use Rattle.rules.specs.Pool.{Entry, Pool, used_at, changed_at, log_at, fresh}
use Rattle.rules.specs.Reply.{number, value}
use Rattle.rules.specs.Outcome.{start, answers, after, free_records}

-- ---- rows

-- what is seen of the pool after the last event
pub data Seen : Type 0 where
  -- the log of a worker, as pairs of a link's number and a record's
  log : ℕ → List (ℕ × ℕ) → Seen
  -- a link's changed mark
  changed : ℕ → Bool → Seen
  -- whether a record is used
  used : ℕ → Bool → Seen
  -- what `end` prints: how many records are free, and the closed-cycle number
  end : ℕ → ℕ → Seen

pub record Row : Type 0 where
  -- N, K, W, R and B
  pub sizes : Sizes
  -- 0 where the sizes are taken, else the number of the refusal
  pub taken : ℕ
  pub events : List Event
  -- number and value of the answer to each event
  pub replies : List (ℕ × ℕ)
  pub seen : List Seen

abbrev pub sizes_and_board : ℕ → ℕ → ℕ → ℕ → ℕ → Sizes
sizes_and_board n k w r b = record { n = n; k = k; w = w; r = r; b = b }

-- without a board
abbrev pub sizes_of : ℕ → ℕ → ℕ → ℕ → Sizes
sizes_of n k w r = sizes_and_board n k w r 0

-- rows about the sizes alone: sizes that are taken make the pool fresh, and sizes that are refused leave it as it was, with record 1 used and its link marked
abbrev pub taken_sizes : ℕ → ℕ → ℕ → Row
taken_sizes n k b =
    record { sizes = sizes_and_board n k 1 1 b; taken = 0; events = []; replies = []; seen = used 1 false ∷ changed 0 false ∷ end n 0 ∷ [] }

abbrev pub refused_sizes : ℕ → ℕ → ℕ → Row
refused_sizes n k b = record { sizes = sizes_and_board n k 1 1 b; taken = 1; events = []; replies = []; seen = used 1 true ∷ changed 0 true ∷ [] }

abbrev pub row : Sizes → List Event → List (ℕ × ℕ) → List Seen → Row
row s events replies seen = record { sizes = s; taken = 0; events = events; replies = replies; seen = seen }

-- n collect events, and the replies of n that free nothing
abbrev pub steps : ℕ → List Event
steps n = replicate n Collect

abbrev pub nothing : ℕ → List (ℕ × ℕ)
nothing n = replicate n (0, 0)

-- done, with a value
abbrev pub done : ℕ → ℕ × ℕ
done v = (0, v)

-- `left` replies that are done, from the value v on
unfoldable pub done_from : ℕ → ℕ → List (ℕ × ℕ)
done_from v zero = []
done_from v (suc left) = done v ∷ done_from (suc v) left

-- "N makes answer 1..N, the next 5."
abbrev pub makes_all : ℕ → Row
makes_all n = row (sizes_of n 1 1 1) (replicate (suc n) (Make 0 0)) (done_from 1 n ++ ((5, 0) ∷ [])) (end 0 0 ∷ [])

-- ---- the table

unfoldable pub runs : List Row
runs =
    -- "N = 1024 taken, 1025 and 0 refused 1; K = 8 taken, 9 refused."
    taken_sizes 1024 1 0
    ∷ refused_sizes 1025 1 0
    ∷ refused_sizes 0 1 0
    ∷ taken_sizes 1 8 0
    ∷ refused_sizes 1 9 0
    -- own: "Add B entries, 0 to 16" (document 02, request 5)
    ∷ taken_sizes 1 1 16
    ∷ refused_sizes 1 1 17
    -- "The listing above": the whole case of "The trace file", of which document 02's request 1 says: "In 01's whole case line 9 becomes `9 0 2`"
    ∷ row (sizes_of 2 1 1 1)
    (Make 0 0 ∷ Drop 0 0 ∷ steps 6 ++ (Make 0 0 ∷ []))
    (done 1 ∷ done 0 ∷ nothing 4 ++ (done 1 ∷ done 0 ∷ done 2 ∷ []))
    (end 1 1 ∷ [])
    -- "A make now takes the first free record above the last one made, else the lowest" (document 02, request 1): 2 is freed after it was made, and 3 is above it;
    -- then 2 alone is free, below 3; freed once more it is the last made itself, and alone free
    ∷ row (sizes_of 3 1 1 3)
    (Make 0 0 ∷ Make 0 1 ∷ Drop 0 1 ∷ steps 6 ++ (Make 0 1 ∷ Make 0 2 ∷ Make 0 2 ∷ Drop 0 2 ∷ steps 6 ++ (Make 0 2 ∷ [])))
    (done 1 ∷ done 2 ∷ done 0 ∷ nothing 4 ++ (done 2 ∷ done 0 ∷ done 3 ∷ done 2 ∷ (5, 0) ∷ done 0 ∷ nothing 4 ++ (done 2 ∷ done 0 ∷ done 2 ∷ [])))
    (end 0 2 ∷ [])
    -- "3 means no such worker. Refusals: 13 register, 14 link, in the order 3, 13, 14 where 3 stood" (document 02, request 2): a wrong worker and all else wrong
    -- too; a wrong register and a wrong link; a wrong link through an empty register; an empty register
    ∷ row (sizes_of 1 1 1 2)
    (Drop 1 2 ∷ Store 1 2 1 2 ∷ Make 0 2 ∷ Load 0 2 1 1 ∷ Store 0 2 1 1 ∷ Store 0 1 1 2 ∷ Load 0 0 1 1 ∷ Store 0 1 1 0 ∷ Load 0 0 1 0 ∷ Store 0 1 0 0 ∷ [])
    ((3, 0) ∷ (3, 0) ∷ (13, 0) ∷ (13, 0) ∷ (13, 0) ∷ (13, 0) ∷ (14, 0) ∷ (14, 0) ∷ (4, 0) ∷ (4, 0) ∷ [])
    (end 1 0 ∷ [])
    -- "N makes answer 1..N, the next 5."
    ∷ makes_all 1
    ∷ makes_all 3
    ∷ makes_all 1024
    -- "Three stores into one link: one log entry, old value none." Records 1 and 2; link 0 of record 1 takes 2, then 1, then 2
    ∷ row (sizes_of 2 1 1 2)
    (Make 0 0 ∷ Make 0 1 ∷ Store 0 0 0 1 ∷ Store 0 0 0 0 ∷ Store 0 0 0 1 ∷ [])
    (done 1 ∷ done 2 ∷ done 0 ∷ done 2 ∷ done 1 ∷ [])
    (log 0 ((0, 0) ∷ []) ∷ changed 0 true ∷ [])
    -- "A store after phase 3 cleared the link: a new entry with the value at the clearing." Link 0 held 2 as the fourth step cleared it
    ∷ row (sizes_of 2 1 1 2)
    (Make 0 0 ∷ Make 0 1 ∷ Store 0 0 0 1 ∷ steps 4 ++ (Store 0 0 0 0 ∷ Store 0 0 0 1 ∷ []))
    (done 1 ∷ done 2 ∷ done 0 ∷ nothing 4 ++ (done 2 ∷ done 1 ∷ []))
    (log 0 ((0, 2) ∷ []) ∷ changed 0 true ∷ [])
    -- "Load through an empty register 4; load of an empty link answers 0, number 0."
    ∷ row (sizes_of 1 1 1 2)
    (Make 0 0 ∷ Load 0 0 1 0 ∷ Load 0 1 0 0 ∷ [])
    (done 1 ∷ (4, 0) ∷ done 0 ∷ [])
    (end 0 0 ∷ [])
    -- "Chain 1 to 2 to 3, dropped: freed 1, 2, 3 in successive steps of one cycle."
    ∷ row (sizes_of 3 1 1 3)
    (Make 0 0 ∷ Make 0 1 ∷ Make 0 2 ∷ Store 0 0 0 1 ∷ Store 0 1 0 2 ∷ Drop 0 0 ∷ Drop 0 1 ∷ Drop 0 2 ∷ steps 12)
    (done 1 ∷ done 2 ∷ done 3 ∷ nothing 5 ++ (nothing 8 ++ (done 1 ∷ done 2 ∷ done 3 ∷ done 0 ∷ [])))
    (end 3 1 ∷ [])
    -- "Chain 3 to 2 to 1: freed 3, 2, 1."
    ∷ row (sizes_of 3 1 1 3)
    (Make 0 0 ∷ Make 0 1 ∷ Make 0 2 ∷ Store 0 2 0 1 ∷ Store 0 1 0 0 ∷ Drop 0 0 ∷ Drop 0 1 ∷ Drop 0 2 ∷ steps 12)
    (done 1 ∷ done 2 ∷ done 3 ∷ nothing 5 ++ (nothing 8 ++ (done 3 ∷ done 2 ∷ done 1 ∷ done 0 ∷ [])))
    (end 3 1 ∷ [])
    -- "A record stored and unlinked again while its worker snoops, then dropped: not freed in this cycle, freed in the next." Record 2; the worker snoops
    -- from the second step on
    ∷ row (sizes_of 2 1 1 3)
    (Make 0 0 ∷ Make 0 1 ∷ steps 2 ++ (Store 0 0 0 1 ∷ Store 0 0 0 2 ∷ Drop 0 1 ∷ steps 11))
    (done 1 ∷ done 2 ∷ nothing 2 ++ (done 0 ∷ done 2 ∷ done 0 ∷ nothing 9 ++ (done 2 ∷ done 0 ∷ [])))
    (used 1 true ∷ end 1 2 ∷ [])
    -- "A record whose link is stored none in phase 4 and which is dropped before the scan: it waits, and is freed in the next cycle." Three steps lead to
    -- phase 4, the history being empty
    ∷ row (sizes_of 1 1 1 2)
    (Make 0 0 ∷ steps 3 ++ (Store 0 0 0 1 ∷ Drop 0 0 ∷ steps 10))
    (done 1 ∷ nothing 3 ++ (done 0 ∷ done 0 ∷ nothing 8 ++ (done 1 ∷ done 0 ∷ [])))
    (end 1 2 ∷ [])
    -- own: "In the second case its unchanged links are emptied as in freeing; the record stays used and a candidate, and the answer is 0" (document 02, request 8).
    -- Chain 1 to 2 to 3; link 1 of record 1 holds 4, as the board does, and is stored to in phase 4. Record 1 is dropped before the scan and waits: it gives up 2 with
    -- the answer 0, 2 and 3 are freed in this cycle, and 1 in the next. Its changed link is not emptied, so that 4 stays counted for the board
    ∷ row (sizes_and_board 4 2 1 4 1)
    (Make 0 0 ∷ Make 0 1 ∷ Make 0 2 ∷ Make 0 3 ∷ Store 0 0 0 1 ∷ Store 0 1 0 2 ∷ Store 0 0 1 3 ∷ Post 0 0 3 ∷ Drop 0 1 ∷ Drop 0 2 ∷ steps 7
    ++ (Store 0 0 1 3 ∷ Drop 0 3 ∷ Drop 0 0 ∷ steps 17))
    (done 1 ∷ done 2 ∷ done 3 ∷ done 4 ∷ nothing 6 ++ (nothing 7
    ++ (done 4 ∷ done 0 ∷ done 0 ∷ nothing 6 ++ (done 2 ∷ done 3 ∷ nothing 7 ++ (done 1 ∷ done 0 ∷ [])))))
    (used 4 true ∷ end 3 2 ∷ [])
    -- "A record linked to itself and dropped stays used." Two cycles, of seven and of five steps
    ∷ row (sizes_of 1 1 1 1)
    (Make 0 0 ∷ Store 0 0 0 0 ∷ Drop 0 0 ∷ steps 12)
    (done 1 ∷ done 0 ∷ done 0 ∷ nothing 12)
    (used 1 true ∷ end 0 2 ∷ [])
    -- "A record made in phase 6 is not freed in that cycle." Four steps lead to phase 6, the fifth closes; the next cycle frees it
    ∷ row (sizes_of 1 1 1 1)
    (steps 4 ++ (Make 0 0 ∷ Drop 0 0 ∷ steps 7))
    (nothing 4 ++ (done 1 ∷ done 0 ∷ nothing 5 ++ (done 1 ∷ done 0 ∷ [])))
    (end 1 2 ∷ [])
    -- own, against "Turning snooping off before the registers are scanned": record 2 is stored and unlinked in phase 4 before the scan, then dropped, and
    -- waits for the next cycle. Its link is marked in no log, so that only the snooping holds it
    ∷ row (sizes_of 2 1 1 3)
    (Make 0 0 ∷ Make 0 1 ∷ steps 3 ++ (Store 0 0 0 1 ∷ Store 0 0 0 2 ∷ Drop 0 1 ∷ steps 10))
    (done 1 ∷ done 2 ∷ nothing 3 ++ (done 0 ∷ done 2 ∷ done 0 ∷ nothing 8 ++ (done 2 ∷ done 0 ∷ [])))
    (used 1 true ∷ end 1 2 ∷ [])
    -- own, against "Counting the present value of a link whose changed mark is on again": link 0 of record 1 held 2 at the clearing and takes 3 in phase 4.
    -- The count of that cycle is 2's; the next cycle gives 2 back and counts 3, the third gives 3 back, which nothing holds
    ∷ row (sizes_of 3 1 1 4)
    (Make 0 0 ∷ Make 0 1 ∷ Make 0 2 ∷ Store 0 0 0 1 ∷ steps 4
    ++ (Store 0 0 0 2 ∷ Drop 0 1 ∷ Drop 0 2 ∷ steps 11 ++ (Store 0 0 0 3 ∷ steps 8)))
    (done 1 ∷ done 2 ∷ done 3 ∷ done 0 ∷ nothing 4
    ++ (done 2 ∷ done 0 ∷ done 0 ∷ nothing 9 ++ (done 2 ∷ done 0 ∷ done 3 ∷ nothing 6 ++ (done 3 ∷ done 0 ∷ []))))
    (used 1 true ∷ end 2 3 ∷ [])
    -- own: "15 look w r e, 16 post w e r .., with the answers and the barrier of load and store" (document 02, request 5). Entry 1 is link 3; worker 1 looks at what
    -- worker 0 posted. No entry 2 is there
    ∷ row (sizes_and_board 2 1 2 2 2)
    (Make 0 0 ∷ Look 1 0 0 ∷ Post 0 1 0 ∷ Look 1 0 1 ∷ Look 1 1 0 ∷ Look 1 0 2 ∷ Post 1 2 0 ∷ Post 1 1 0 ∷ Post 0 1 1 ∷ Look 0 0 1 ∷ [])
    (done 1 ∷ done 0 ∷ done 0 ∷ done 1 ∷ done 0 ∷ (14, 0) ∷ (14, 0) ∷ done 1 ∷ done 1 ∷ done 0 ∷ [])
    (log 0 ((3, 0) ∷ []) ∷ log 1 [] ∷ changed 2 false ∷ changed 3 true ∷ end 1 0 ∷ [])
    -- own: "From here "reach" in demand 3 begins at registers and board entries, and board links count" (document 02, request 5). What the board alone holds outlives a
    -- cycle; posted over it is lost, and the next cycle frees it
    ∷ row (sizes_and_board 1 1 1 2 1)
    (Make 0 0 ∷ Post 0 0 0 ∷ Drop 0 0 ∷ steps 7 ++ (Look 0 1 0 ∷ Drop 0 1 ∷ Post 0 0 1 ∷ steps 8))
    (done 1 ∷ done 0 ∷ done 0 ∷ nothing 7 ++ (done 1 ∷ done 0 ∷ done 1 ∷ nothing 6 ++ (done 1 ∷ done 0 ∷ [])))
    (end 1 2 ∷ [])
    -- own, the barrier of a post: a record posted and posted over while its worker snoops, then dropped, is not freed in this cycle, and is freed in the next
    ∷ row (sizes_and_board 1 1 1 2 1)
    (Make 0 0 ∷ steps 2 ++ (Post 0 0 0 ∷ Post 0 0 1 ∷ Drop 0 0 ∷ steps 11))
    (done 1 ∷ nothing 2 ++ (done 0 ∷ done 1 ∷ done 0 ∷ nothing 9 ++ (done 1 ∷ done 0 ∷ [])))
    (end 1 2 ∷ [])
    ∷ []

-- ---- the test

abbrev same_pair : ℕ × ℕ → ℕ × ℕ → Bool
same_pair x y = eqb x.0 y.0 && eqb x.1 y.1

unfoldable pub same_pairs : List (ℕ × ℕ) → List (ℕ × ℕ) → Bool
same_pairs [] [] = true
same_pairs [] (y ∷ ys) = false
same_pairs (x ∷ xs) [] = false
same_pairs (x ∷ xs) (y ∷ ys) = same_pair x y && same_pairs xs ys

abbrev pub entry_pair : Entry → ℕ × ℕ
entry_pair e = (e.link.0, e.old.0)

abbrev pub reply : Answer → ℕ × ℕ
reply a = (number a, value a)

unfoldable pub sees : Pool → Seen → Bool
sees p (log w entries) = same_pairs (map entry_pair (log_at p w)) entries
sees p (changed l mark) = beq (changed_at p (record { 0 = l })) mark
sees p (used a mark) = beq (used_at p (record { 0 = a })) mark
sees p (end free closed) = eqb (free_records p) free && eqb p.collector.closed closed

unfoldable pub sees_all : Pool → List Seen → Bool
sees_all p [] = true
sees_all p (x ∷ xs) = sees p x && sees_all p xs

-- the pool before the sizes: not a fresh one
unfoldable pub another : Pool
another = after (sizes_of 1 1 1 1) (fresh (sizes_of 1 1 1 1)) (Make 0 0 ∷ Store 0 0 0 0 ∷ Collect ∷ [])

-- the sizes are answered as the row says, so is every event, and what the row says is seen at the end
unfoldable pub holds : Row → Bool
holds r =
    let s = r.sizes in
    let o = start s another in
    let p = o.pool in
    eqb (number o.answer) r.taken
    && same_pairs (map reply (answers s p r.events)) r.replies
    && sees_all (after s p r.events) r.seen
