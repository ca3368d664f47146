-- "Collector steps" of document 01, with what document 02's request 8 changes of phase 6.
--     phase_after, advanced, onward   how a step moves the collector's record on
--     opens, snoops, takes, clears, scans, counts, reclaims     the step of each phase, from phase 0 to 6
--     made_by, held_by, falls, rises   what the steps of phases 2, 4 and 5 do to the records
--     entry_here                      the history entry at the position
--     unchanged, has_child, passes, reclaimed     what phase 6 takes
--     emptied, frees, empties, closes            what phase 6 then does
--     phases, collects               the list of the phases, and the one collect event
-- Assumes nothing.
use Rattle.std.specs.Prelude.{ℕ, zero, suc, ◌+◌, ◌-◌, ◌%◌, Bool, true, false, cond, not, ◌&&◌, ◌||◌, eqb, leb, length, get_or}
use mathlib.Core.List.{List, [], ◌∷◌, ◌++◌, map, zip_with}
use Rattle.rules.specs.declared.Sizes.{Sizes}
use Rattle.rules.specs.declared.RecordNumber.{RecordNumber}
use Rattle.rules.specs.declared.LinkNumber.{LinkNumber}
use Rattle.rules.specs.declared.Collector.{Collector}
use Rattle.rules.specs.declared.Answer.TheVariants.{Stepped, Freed}
use Rattle.rules.specs.Size.{link_number}
use Rattle.rules.specs.Pool.{Entry, Pool, none, with_record, used_at, count_at, held_at, candidate_at, value_at, changed_at, registers_at, log_at}
use Rattle.rules.specs.Pool.{with_used, with_count, with_held, with_candidate, with_maker, with_value, with_changed, with_snoop, with_log, with_history, with_collector}
use Rattle.rules.specs.View.{view_value}
use Rattle.rules.specs.Reply.{Outcome}

-- ---- moving on

-- "Phases 3 and 5 are skipped when the history is empty."
abbrev pub skipped : ℕ → List Entry → Bool
skipped phase [] = eqb phase 3 || eqb phase 5
skipped phase (e ∷ history) = false

unfoldable pub phase_after : ℕ → List Entry → ℕ
phase_after phase history = cond (skipped (suc phase) history) (suc (suc phase)) (suc phase)

-- "After the last": the position is the last of n
abbrev pub last_of : ℕ → Pool → Bool
last_of n p = leb n (suc p.collector.position)

-- "The phase changes within the step that did the last position, and the position returns to 0."
abbrev pub advanced : ℕ → List Entry → Collector → Collector
advanced n history c =
    cond (leb n (suc c.position))
    (record { phase = phase_after c.phase history; position = 0; closed = c.closed })
    (record { phase = c.phase; position = suc c.position; closed = c.closed })

unfoldable pub onward : ℕ → Pool → Pool
onward n p = with_collector (advanced n p.history p.collector) p

-- "the answer is the record freed, otherwise 0"
abbrev pub stepped : Pool → Outcome
stepped p = record { answer = Stepped; pool = p }

-- ---- phases 0 to 4

-- "Phase 0: open the cycle: phase 1, position 0."
unfoldable pub opens : Sizes → Pool → Outcome
opens s p = stepped (with_collector (record { phase = 1; position = 0; closed = p.collector.closed }) p)

-- "Phase 1: snoop flag on for the worker at the position. After the last worker, phase 2."
unfoldable pub snoops : Sizes → Pool → Outcome
snoops s p = stepped (onward s.w (with_snoop p.collector.position true p))

-- "every record of which it is maker becomes a candidate with maker 0"
unfoldable pub made_by : ℕ → Pool → Pool
made_by w p =
    with_maker (map (λ m. cond (eqb m (w + 1)) 0 m) p.records.maker)
    (with_candidate (zip_with (λ m c. eqb m (w + 1) || c) p.records.maker p.records.candidate) p)

-- "Phase 2: that worker's log is added at the end of the history and emptied; every record of which it is maker becomes a candidate with maker 0. After
-- the last, phase 3."
unfoldable pub takes : Sizes → Pool → Outcome
takes s p =
    let w = p.collector.position in
    stepped (onward s.w (made_by w (with_log w [] (with_history (p.history ++ log_at p w) p))))

-- the history entry at the position; a sound pool has one there in phases 3 and 5
abbrev pub no_entry : Entry
no_entry = record { link = record { 0 = 0 }; old = none }

abbrev pub entry_here : Pool → Entry
entry_here p = get_or p.history p.collector.position no_entry

-- "Phase 3: changed mark off for the link of the history entry at the position. After the last, phase 4."
unfoldable pub clears : Sizes → Pool → Outcome
clears s p = stepped (onward (length p.history) (with_changed (entry_here p).link false p))

-- the held marks, with those of some records on
unfoldable pub held_by : List RecordNumber → List Bool → List Bool
held_by [] held = held
held_by (a ∷ registers) held = held_by registers (with_record held a.0 true)

-- "Phase 4: that worker's snoop flag off; every record in its registers is held. After the last, phase 5."
unfoldable pub scans : Sizes → Pool → Outcome
scans s p =
    let w = p.collector.position in
    stepped (onward s.w (with_held (held_by (registers_at p w) p.records.held) (with_snoop w false p)))

-- ---- phase 5

-- "the count .. falls by 1, and at 0 it becomes a candidate"
unfoldable pub falls : RecordNumber → Pool → Pool
falls a p =
    let c = count_at p a - 1 in
    with_candidate (cond (eqb c 0) (with_record p.records.candidate a.0 true) p.records.candidate)
    (with_count (with_record p.records.count a.0 c) p)

-- "the count .. rises by 1"
unfoldable pub rises : RecordNumber → Pool → Pool
rises a p = with_count (with_record p.records.count a.0 (count_at p a + 1)) p

-- "for the entry (link, old): first the count of old falls by 1, and at 0 it becomes a candidate; then the count of the link's view value rises by 1"
unfoldable pub counted : Entry → Pool → Pool
counted e p = let q = falls e.old p in rises (view_value q e.link) q

-- "After the last, the history is emptied: phase 6."
unfoldable pub counts : Sizes → Pool → Outcome
counts s p =
    let n = length p.history in
    let q = counted (entry_here p) p in
    stepped (onward n (with_history (cond (last_of n p) [] p.history) q))

-- ---- phase 6

-- "an unchanged link" (document 02, request 8): its changed mark is off
abbrev pub is_unchanged : Pool → LinkNumber → Bool
is_unchanged p l = not (changed_at p l)

-- "all changed marks off", of the `left` links from f on
unfoldable pub unchanged_from : Sizes → Pool → RecordNumber → ℕ → ℕ → Bool
unchanged_from s p a f zero = true
unchanged_from s p a f (suc left) = is_unchanged p (link_number s a f) && unchanged_from s p a (suc f) left

-- a record "has all changed marks off", else it "has a changed link"
unfoldable pub unchanged : Sizes → Pool → RecordNumber → Bool
unchanged s p a = unchanged_from s p a 0 s.k

-- "an unchanged link that holds a record" (document 02, request 8): none is no record
unfoldable pub holds_unchanged : Pool → LinkNumber → Bool
holds_unchanged p l = is_unchanged p l && not (eqb (value_at p l).0 0)

-- one of the `left` links from f on is such a link
unfoldable pub child_from : Sizes → Pool → RecordNumber → ℕ → ℕ → Bool
child_from s p a f zero = false
child_from s p a f (suc left) = holds_unchanged p (link_number s a f) || child_from s p a (suc f) left

-- "has .. also an unchanged link that holds a record" (document 02, request 8)
unfoldable pub has_child : Sizes → Pool → RecordNumber → Bool
has_child s p a = child_from s p a 0 s.k

-- "used candidate, count 0, not held, that either has all changed marks off .. or has a changed link and also an unchanged link that holds a record" (document
-- 02, request 8)
unfoldable pub passes : Sizes → Pool → RecordNumber → Bool
passes s p a =
    used_at p a && candidate_at p a && eqb (count_at p a) 0 && not (held_at p a)
    && (unchanged s p a || not (unchanged s p a) && has_child s p a)

-- "the search goes record by record .. and stops at the first record that passes", of the `left` records from a on; none if none passes
unfoldable pub first_passing : Sizes → Pool → ℕ → ℕ → RecordNumber
first_passing s p a zero = none
first_passing s p a (suc left) = cond (passes s p (record { 0 = a })) (record { 0 = a }) (first_passing s p (suc a) left)

-- "the lowest" that passes
unfoldable pub reclaimed : Sizes → Pool → RecordNumber
reclaimed s p = first_passing s p 1 s.n

-- "the count of the value falls by 1 and at 0 that record becomes a candidate, the link becomes none"
unfoldable pub emptied : LinkNumber → Pool → Pool
emptied l p = with_value l none (falls (value_at p l) p)

-- "links from 0 up": of the `left` links from f on those that are to be emptied
unfoldable pub emptied_from : (LinkNumber → Bool) → Sizes → RecordNumber → ℕ → ℕ → Pool → Pool
emptied_from which s a f zero p = p
emptied_from which s a f (suc left) p =
    let l = link_number s a f in emptied_from which s a (suc f) left (cond (which l) (emptied l p) p)

-- "then the record is free and no candidate"
unfoldable pub becomes_free : RecordNumber → Pool → Pool
becomes_free a p =
    with_candidate (with_record p.records.candidate a.0 false) (with_used (with_record p.records.used a.0 false) p)

-- "Freeing: links from 0 up, ..; then the record is free and no candidate."
unfoldable pub frees : Sizes → RecordNumber → Pool → Pool
frees s a p = becomes_free a (emptied_from (λ l. true) s a 0 s.k p)

-- "its unchanged links are emptied as in freeing; the record stays used and a candidate" (document 02, request 8)
unfoldable pub empties : Sizes → RecordNumber → Pool → Pool
empties s a p = emptied_from (is_unchanged p) s a 0 s.k p

-- "The closed-cycle number has 16 bits: after 65,535 it goes on at 0."
abbrev pub next_closed : ℕ → ℕ
next_closed closed = (closed + 1) % 65536

-- "all held marks off, candidate marks off where the count is not 0, closed-cycle number up by one, phase 0"
unfoldable pub closes : Pool → Pool
closes p =
    with_collector (record { phase = 0; position = 0; closed = next_closed p.collector.closed })
    (with_held (map (λ h. false) p.records.held)
    (with_candidate (zip_with (λ c n. c && eqb n 0) p.records.candidate p.records.count) p))

-- "that either has all changed marks off (it's freed as before) or ..": the answer is the record freed. "In the second case its unchanged links are emptied ..,
-- and the answer is 0" (document 02, request 8)
unfoldable pub frees_or_empties : Sizes → Pool → RecordNumber → Outcome
frees_or_empties s p a = cond (unchanged s p a) (record { answer = Freed a; pool = frees s a p }) (stepped (empties s a p))

-- "Phase 6 now takes the lowest .." (document 02, request 8). "Phase 6 stays. If none passes: .."
unfoldable pub reclaims_or_closes : Sizes → Pool → ℕ → Outcome
reclaims_or_closes s p zero = stepped (closes p)
reclaims_or_closes s p (suc i) = frees_or_empties s p (record { 0 = suc i })

unfoldable pub reclaims : Sizes → Pool → Outcome
reclaims s p = reclaims_or_closes s p (reclaimed s p).0

-- ---- the collect event

-- the phases, from 0 on
unfoldable pub phases : List (Sizes → Pool → Outcome)
phases = opens ∷ snoops ∷ takes ∷ clears ∷ scans ∷ counts ∷ reclaims ∷ []

-- "One collect event does one of these". No sound pool has another phase than 0..6
unfoldable pub collects : Sizes → Pool → Outcome
collects s p = get_or phases p.collector.phase (λ s p. stepped p) s p
