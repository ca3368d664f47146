-- The tables that a step of phases 1 to 4 is lent, put among the others.
--     snoops_on, takes_on, clears_on, scans_on     tables of which those that are lent are at hand
-- Assumes nothing.
use Rattle.std.specs.Prelude.{ℕ, List}
use Rattle.tables.specs.Tables.{Tables, put_held, put_candidates, put_makers, put_changed, put_registers, put_snoops, put_logs, put_history, put_lengths}

abbrev pub snoops_on : (snoops lengths : List ℕ) → Tables → Tables
snoops_on snoops lengths t = put_snoops snoops (put_lengths lengths t)

abbrev pub takes_on : (candidates makers logs history lengths : List ℕ) → Tables → Tables
takes_on candidates makers logs history lengths t =
    put_candidates candidates (put_makers makers (put_logs logs (put_history history (put_lengths lengths t))))

abbrev pub clears_on : (changed history lengths : List ℕ) → Tables → Tables
clears_on changed history lengths t = put_changed changed (put_history history (put_lengths lengths t))

abbrev pub scans_on : (held registers snoops lengths : List ℕ) → Tables → Tables
scans_on held registers snoops lengths t = put_held held (put_registers registers (snoops_on snoops lengths t))
