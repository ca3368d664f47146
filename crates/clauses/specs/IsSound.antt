-- "A sound pool" of tables, as a test, clause by clause in the document's order. That it is true exactly where `SoundTables` holds is proofs/Exactly.antt.
--     every, below      a test of each element of a list, and of each number below another
--     is_packed         unused bits 0
--     is_marked         "marks and flags 0 or 1", and unused bits 0
--     is_padded         "0 in every entry past a list's length"
--     is_sound_pool     every clause that a pool of the rules can break
--     is_sound          all of it
-- Assumes nothing.
use Rattle.std.specs.Prelude.{ℕ, zero, suc, ◌*◌, ◌^◌, Bool, true, not, ◌&&◌, ◌||◌, List, [], ◌∷◌, eqb, leb, ltb, length, get_or, drop}
use Rattle.rules.specs.declared.Sizes.{Sizes}
use Rattle.rules.specs.declared.Collector.{Collector}
use Rattle.rules.specs.Size.{links}
use Rattle.rules.specs.Pool.{Entry, Pool, count_at, maker_at, value_at, changed_at, register_at, log_at}
use Rattle.rules.specs.View.{bit, times, all_logs}
use Rattle.rules.specs.Sound.{positions, empty_in, entries_in, outstanding, counts_for, tally}
use Rattle.tables.specs.Bits.{bits_of}
use Rattle.tables.specs.Tables.{Tables}
use Rattle.tables.specs.Lie.{record_number, link_number_of, pool_of}
use Rattle.tables.specs.Known.{block}

unfoldable pub every : {A : Type 0} → (A → Bool) → List A → Bool
every test [] = true
every test (x ∷ xs) = test x && every test xs

unfoldable pub below : ℕ → (ℕ → Bool) → Bool
below zero test = true
below (suc n) test = below n test && test n

abbrev pub is_mark : ℕ → Bool
is_mark x = leb x 1

-- n marks in words of 64 bits: "A sound pool has the unused bits at 0" (document 02, request 9)
unfoldable pub is_packed : ℕ → List ℕ → Bool
is_packed n words = every (λ x. ltb x (2 ^ 64)) words && every not (drop n (bits_of words))

-- "marks and flags 0 or 1"
unfoldable pub is_marked : Sizes → Tables → Bool
is_marked s t =
    is_packed s.n t.used
    && is_packed s.n t.held
    && is_packed s.n t.candidates
    && is_packed (links s) t.changed
    && every is_mark t.snoops

abbrev pub is_zero : ℕ → Bool
is_zero x = eqb x 0

-- "0 in every entry past a list's length"
unfoldable pub is_padded : Sizes → Tables → Bool
is_padded s t =
    below s.w (λ w. every is_zero (drop (get_or t.lengths w 0 * 2) (block s t w)))
    && every is_zero (drop (get_or t.lengths s.w 0 * 2) t.history)

-- "record numbers in .. entries 0..N; link numbers in entries below S"
abbrev pub is_in_range : Sizes → Entry → Bool
is_in_range s e = ltb e.link.0 (links s) && leb e.old.0 s.n

unfoldable pub is_sound_pool : Sizes → Pool → Bool
is_sound_pool s p =
    -- "phase 0..6; position below W in phases 1, 2, 4, below the history's length in 3 and 5, else 0"
    leb p.collector.phase 6
    && ltb p.collector.position (positions s p)
    -- "history empty in 0, 1, 6 and not empty in 3, 5"
    && (not (empty_in p.collector.phase) || eqb (length p.history) 0)
    && (not (entries_in p.collector.phase) || ltb 0 (length p.history))
    -- "record numbers in registers, links and entries 0..N; link numbers in entries below S; makers 0..W; list lengths at most S"
    && below s.w (λ w. below s.r (λ r. leb (register_at p w r).0 s.n))
    -- "The pool remembers the last made number (.. 0..N in a sound pool)" (document 02, request 1)
    && leb p.last.0 s.n
    && below (links s) (λ l. leb (value_at p (link_number_of l)).0 s.n)
    && every (is_in_range s) (all_logs p)
    && every (is_in_range s) p.history
    && below s.n (λ a. leb (maker_at p (record_number (suc a))) s.w)
    && below s.w (λ w. leb (length (log_at p w)) (links s))
    && leb (length p.history) (links s)
    -- "no link twice in the history"
    && below (links s) (λ l. leb (times (link_number_of l) p.history) 1)
    -- "a link whose mark is on stands exactly once among all logs together with the history not yet cleared ..; a link whose mark is off stands nowhere there"
    && below (links s) (λ l. eqb (times (link_number_of l) (outstanding p)) (bit (changed_at p (link_number_of l))))
    -- "each record's count is the number of links counted for it"
    && below s.n (λ a. eqb (count_at p (record_number (suc a))) (tally (counts_for p) (links s) (record_number (suc a))))

unfoldable pub is_sound : Sizes → Tables → Collector → Bool
is_sound s t c = is_marked s t && is_padded s t && is_sound_pool s (pool_of s t c)
