-- "A sound pool" of document 01, each clause a named part of `Sound`.
--     Each                      something holds of each element of a list
--     ShapedRecords, ShapedLinks, ShapedWorkers, Shaped     every list has its length
--     positions                 how many positions the phase has
--     uncleared, uncounted      the entries of the history that are not yet cleared, not yet counted
--     outstanding               all logs together with the history not yet cleared
--     counts_for, tally          the record that a link counts for, and how many links count for a record
--     Sound                     the sound pool
-- Two clauses have no part here, since no pool of these lists breaks them: "marks and flags 0 or 1", and "0 in every entry past a list's length". Of
-- lent tables they are asked where tables are read. Assumes nothing.
use Rattle.std.specs.Prelude.{ℕ, zero, suc, ◌+◌, ◌≤◌, ◌<◌, ◌≡◌, Bool, true, false, ◌||◌, List, [], ◌∷◌, ◌++◌, T, eqb, length, get_or, drop}
use Rattle.rules.specs.declared.Sizes.{Sizes}
use Rattle.rules.specs.declared.RecordNumber.{RecordNumber}
use Rattle.rules.specs.declared.LinkNumber.{LinkNumber}
use Rattle.rules.specs.Size.{links}
use Rattle.rules.specs.Pool.{Entry, Records, Links, Workers, Pool, count_at, maker_at, value_at, changed_at, register_at, log_at}
use Rattle.rules.specs.View.{bit, times, old_in, all_logs, view_value}

abbrev pub Each : {A : Type 0} → (A → Type 0) → List A → Type 0
Each P [] = Unit {0}
Each P (x ∷ xs) = P x × Each P xs

-- ---- the shape

-- "lent tables .. whose lengths must be exact": N of each thing of a record
pub record ShapedRecords (s : Sizes) (r : Records) : Type 0 where
  pub used : length r.used ≡ s.n
  pub count : length r.count ≡ s.n
  pub held : length r.held ≡ s.n
  pub candidate : length r.candidate ≡ s.n
  pub maker : length r.maker ≡ s.n

-- S of each thing of a link
pub record ShapedLinks (s : Sizes) (l : Links) : Type 0 where
  pub value : length l.value ≡ links s
  pub changed : length l.changed ≡ links s

-- W of each thing of a worker, and R registers in each
pub record ShapedWorkers (s : Sizes) (ws : Workers) : Type 0 where
  pub registers : length ws.registers ≡ s.w
  pub each : (w : ℕ) → w < s.w → length (get_or ws.registers w []) ≡ s.r
  pub snoop : length ws.snoop ≡ s.w
  pub log : length ws.log ≡ s.w

pub record Shaped (s : Sizes) (p : Pool) : Type 0 where
  pub records : ShapedRecords s p.records
  pub links : ShapedLinks s p.links
  pub workers : ShapedWorkers s p.workers

-- ---- the phase

-- "position below W in phases 1, 2, 4, below the history's length in 3 and 5, else 0": how many positions each phase has, from phase 0 on. Phases 0
-- and 6 have one, and a number below 1 is 0
unfoldable pub positions : Sizes → Pool → ℕ
positions s p = get_or (1 ∷ s.w ∷ s.w ∷ length p.history ∷ s.w ∷ length p.history ∷ []) p.collector.phase 1

-- "history empty in 0, 1, 6 and not empty in 3, 5"
abbrev pub empty_in : ℕ → Bool
empty_in phase = eqb phase 0 || eqb phase 1 || eqb phase 6

abbrev pub entries_in : ℕ → Bool
entries_in phase = eqb phase 3 || eqb phase 5

-- ---- the entries

-- "record numbers in .. entries 0..N; link numbers in entries below S"
pub record EntryInRange (s : Sizes) (e : Entry) : Type 0 where
  pub link : e.link.0 < links s
  pub old : e.old.0 ≤ s.n

-- "the history not yet cleared (all of it in phase 2, from the position on in phase 3, none otherwise)"
unfoldable pub uncleared : Pool → List Entry
uncleared p = get_or ([] ∷ [] ∷ p.history ∷ drop p.collector.position p.history ∷ []) p.collector.phase []

-- "all logs together with the history not yet cleared"
unfoldable pub outstanding : Pool → List Entry
outstanding p = all_logs p ++ uncleared p

-- ---- the counts

-- "not yet counted (all in phases 2 to 4, from the position on in phase 5)"
unfoldable pub uncounted : Pool → List Entry
uncounted p =
    get_or ([] ∷ [] ∷ p.history ∷ p.history ∷ p.history ∷ drop p.collector.position p.history ∷ []) p.collector.phase []

-- "A link counts for the old value of its history entry while that entry is not yet counted .., else for its view value."
unfoldable pub counts_for : Pool → LinkNumber → RecordNumber
counts_for p l = old_in l (uncounted p) (view_value p l)

-- "the number of links counted for it": of the m lowest links, how many f takes to a
unfoldable pub tally : (LinkNumber → RecordNumber) → ℕ → RecordNumber → ℕ
tally f zero a = 0
tally f (suc m) a = bit (eqb (f (record { 0 = m })).0 a.0) + tally f m a

-- ---- the sound pool

pub record Sound (s : Sizes) (p : Pool) : Type 0 where
  -- every list has its length
  pub shaped : Shaped s p
  -- "phase 0..6"
  pub phase : p.collector.phase ≤ 6
  -- "position below W in phases 1, 2, 4, below the history's length in 3 and 5, else 0"
  pub position : p.collector.position < positions s p
  -- "history empty in 0, 1, 6"
  pub history_empty : T (empty_in p.collector.phase) → p.history ≡ []
  -- "and not empty in 3, 5"
  pub history_entries : T (entries_in p.collector.phase) → 0 < length p.history
  -- "record numbers in registers .. 0..N"
  pub registers : (w r : ℕ) → (register_at p w r).0 ≤ s.n
  -- "The pool remembers the last made number (.. 0..N in a sound pool)" (document 02, request 1)
  pub last : p.last.0 ≤ s.n
  -- "record numbers in .. links .. 0..N"
  pub values : (l : LinkNumber) → (value_at p l).0 ≤ s.n
  -- "record numbers in .. entries 0..N; link numbers in entries below S"
  pub logs : Each (EntryInRange s) (all_logs p)
  pub history : Each (EntryInRange s) p.history
  -- "makers 0..W"
  pub makers : (a : RecordNumber) → maker_at p a ≤ s.w
  -- "list lengths at most S"
  pub log_length : (w : ℕ) → length (log_at p w) ≤ links s
  pub history_length : length p.history ≤ links s
  -- "no link twice in the history"
  pub once : (l : LinkNumber) → l.0 < links s → times l p.history ≤ 1
  -- "a link whose mark is on stands exactly once among all logs together with the history not yet cleared"
  pub marked : (l : LinkNumber) → l.0 < links s → changed_at p l ≡ true → times l (outstanding p) ≡ 1
  -- "a link whose mark is off stands nowhere there"
  pub unmarked : (l : LinkNumber) → l.0 < links s → changed_at p l ≡ false → times l (outstanding p) ≡ 0
  -- "each record's count is the number of links counted for it"
  pub counts : (a : RecordNumber) → 1 ≤ a.0 → a.0 ≤ s.n → count_at p a ≡ tally (counts_for p) (links s) a
