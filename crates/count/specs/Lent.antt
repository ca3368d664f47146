-- The tables that phase 5 is lent, put among the others.
--     views_on, counts_on     tables of which those that are lent are at hand
-- Assumes nothing.
use Rattle.std.specs.Prelude.{ℕ, List}
use Rattle.tables.specs.Tables.{Tables, put_counts, put_candidates, put_values, put_changed, put_logs, put_history, put_lengths}

abbrev pub views_on : (values changed logs lengths : List ℕ) → Tables → Tables
views_on values changed logs lengths t = put_values values (put_changed changed (put_logs logs (put_lengths lengths t)))

abbrev pub counts_on : (counts candidates values changed logs history lengths : List ℕ) → Tables → Tables
counts_on counts candidates values changed logs history lengths t =
    put_counts counts (put_candidates candidates (put_history history (views_on values changed logs lengths t)))
