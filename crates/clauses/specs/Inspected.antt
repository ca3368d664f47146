-- The check as it goes, table by table.
--     phase_fits                     the collector's record, by how many entries the history has
--     counted_to, uncleared_from     where it parts the history
--     padded                         "0 in every entry past a list's length"
--     noted_links                    what is noted of each link after the history, the values and the logs
--     marks_match, counts_match      the changed marks and the counts against what is noted
--     inspected                      all of it
-- Assumes nothing.
use Rattle.std.specs.Prelude.{ℕ, suc, ◌*◌, ◌%◌, Bool, true, false, cond, ◌&&◌, eqb, leb, ltb, length, get_or, take, drop, replicate}
use mathlib.Core.List.{List, [], ◌∷◌, flatten}
use Rattle.std.proofs.Math.Seq.{paste}
use Rattle.rules.specs.declared.Sizes.{Sizes}
use Rattle.rules.specs.declared.Collector.{Collector}
use Rattle.rules.specs.Size.{links}
use Rattle.rules.specs.Pool.{Entry}
use Rattle.rules.specs.View.{bit}
use Rattle.tables.specs.Bits.{mark_at}
use Rattle.tables.specs.Tables.{Tables}
use Rattle.tables.specs.Lie.{entries, room, logs_in}
use Rattle.clauses.specs.IsSound.{every, below, is_mark, is_packed, is_zero}
use Rattle.clauses.specs.Entered.{Noted, once, outstanding, entered_all}
use Rattle.clauses.specs.Tallied.{tallied, tally_of}

-- "position below W in phases 1, 2, 4, below the history's length in 3 and 5, else 0; history empty in 0, 1, 6 and not empty in 3, 5": phase by phase, from 0
-- to 6; there is no other
unfoldable pub phase_fits : Sizes → Collector → ℕ → Bool
phase_fits s c n =
    let rest : Bool = eqb c.position 0 && eqb n 0 in
    let each : Bool = ltb c.position s.w in
    let entry : Bool = ltb c.position n in
    get_or (rest ∷ (each && eqb n 0) ∷ each ∷ entry ∷ each ∷ entry ∷ rest ∷ []) c.phase false

-- "not yet counted (all in phases 2 to 4, from the position on in phase 5)": so many entries are counted
unfoldable pub counted_to : Collector → ℕ
counted_to c = cond (eqb c.phase 5) c.position 0

-- "the history not yet cleared (all of it in phase 2, from the position on in phase 3, none otherwise)": it begins behind so many entries
unfoldable pub uncleared_from : Collector → ℕ → ℕ
uncleared_from c n = cond (eqb c.phase 2) 0 (cond (eqb c.phase 3) c.position n)

-- of the logs
unfoldable pub padded_logs : Sizes → List ℕ → List ℕ → Bool
padded_logs s logs lengths = below s.w (λ w. every is_zero (drop (get_or lengths w 0 * 2) (take (room s) (drop (w * room s) logs))))

-- the values are noted as the last that is known of each link
unfoldable pub valued : ℕ → List ℕ → Noted → Noted
valued records values x =
    record { ok = x.ok && every (λ n. leb n records) values; seen = x.seen; last = paste x.last 0 values (length values) }

-- first the entries that are counted, then the values, the logs, and the entries that are not yet counted: so the last that is noted of a link is what it
-- counts for
unfoldable pub noted_links : Sizes → Tables → Collector → Noted
noted_links s t c =
    let n : ℕ = get_or t.lengths s.w 0 in
    let history : List Entry = entries n t.history in
    let to : ℕ = counted_to c in
    let from : ℕ = uncleared_from c n in
    let enter : ℕ → List Entry → Noted → Noted = entered_all (links s) s.n in
    enter outstanding (drop from history)
    (enter once (drop to (take from history))
    (enter 1 (flatten (logs_in s t.logs t.lengths))
    (valued s.n t.values
    (enter once (take to history) (record { ok = true; seen = replicate 8208 0; last = replicate 8208 0 })))))

unfoldable pub marks_match : ℕ → List ℕ → List ℕ → Bool
marks_match links changed seen =
    below links (λ l. eqb (get_or seen l 0 % 131072) (bit (mark_at changed l)) && ltb (get_or seen l 0) 262144)

unfoldable pub counts_match : List ℕ → List ℕ → Bool
counts_match counts tally = below (length counts) (λ i. eqb (tally_of tally (suc i)) (get_or counts i 0))

-- every clause on links: the entries, their padding, the marks and the counts
unfoldable pub links_fit : Sizes → Tables → Collector → Bool
links_fit s t c =
    let x : Noted = noted_links s t c in
    x.ok
    && padded_logs s t.logs t.lengths
    && every is_zero (drop (get_or t.lengths s.w 0 * 2) t.history)
    && is_packed (links s) t.changed
    && marks_match (links s) t.changed x.seen
    && counts_match t.counts (tallied x.last (links s) (replicate 8320 0))

-- every clause on numbers of one table
unfoldable pub numbers_fit : Sizes → Tables → Bool
numbers_fit s t =
    is_packed s.n t.used
    && is_packed s.n t.held
    && is_packed s.n t.candidates
    && every (λ n. leb n s.w) t.makers
    && every (λ n. leb n s.n) t.registers
    && every is_mark t.snoops

unfoldable pub inspected : Sizes → Tables → Collector → Bool
inspected s t c =
    every (λ n. leb n (links s)) t.lengths
    && phase_fits s c (get_or t.lengths s.w 0)
    && numbers_fit s t
    && links_fit s t c
