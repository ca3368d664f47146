-- "All but the collector's own record lives in lent tables of 16-bit numbers whose lengths must be exact" ("Sizes" of document 01), with the marks of records
-- and links in 64-bit words (document 02, request 9). Which tables there are and
-- what stands where is decisions 1 and 2 of docs/DECISIONS.md.
--     Tables                     the twelve tables
--     lent                       the tables behind twelve references
--     put_used .. put_lengths    tables of which one is another
-- Assumes nothing.
use Rattle.std.specs.Prelude.{ℕ, List}

pub record Tables : Type 0 where
  -- used, held and candidates: (N + 63) / 64 words, record a at bit a - 1; counts and makers: N, record a at place a - 1
  pub used : List ℕ
  pub counts : List ℕ
  pub held : List ℕ
  pub candidates : List ℕ
  pub makers : List ℕ
  -- S: link l at place l
  pub values : List ℕ
  -- (S + 63) / 64 words: link l at bit l
  pub changed : List ℕ
  -- W x R + 1: register r of worker w at place w x R + r; behind them the last made number
  pub registers : List ℕ
  -- W: worker w at place w
  pub snoops : List ℕ
  -- W x 2S: entry i of worker w at w x 2S + 2i, the link, then the old value
  pub logs : List ℕ
  -- 2S: entry i at 2i
  pub history : List ℕ
  -- W + 1: the logs' lengths, then the history's
  pub lengths : List ℕ

abbrev pub lent : (used counts held candidates makers values changed registers snoops logs history lengths : List ℕ) → Tables
lent used counts held candidates makers values changed registers snoops logs history lengths =
    record {
      used = used;
      counts = counts;
      held = held;
      candidates = candidates;
      makers = makers;
      values = values;
      changed = changed;
      registers = registers;
      snoops = snoops;
      logs = logs;
      history = history;
      lengths = lengths;
    }

-- ---- tables of which one is another

abbrev pub put_used : List ℕ → Tables → Tables
put_used x t =
    record { used = x; counts = t.counts; held = t.held; candidates = t.candidates; makers = t.makers; values = t.values; changed = t.changed; registers = t.registers; snoops = t.snoops; logs = t.logs; history = t.history; lengths = t.lengths }

abbrev pub put_counts : List ℕ → Tables → Tables
put_counts x t =
    record { used = t.used; counts = x; held = t.held; candidates = t.candidates; makers = t.makers; values = t.values; changed = t.changed; registers = t.registers; snoops = t.snoops; logs = t.logs; history = t.history; lengths = t.lengths }

abbrev pub put_held : List ℕ → Tables → Tables
put_held x t =
    record { used = t.used; counts = t.counts; held = x; candidates = t.candidates; makers = t.makers; values = t.values; changed = t.changed; registers = t.registers; snoops = t.snoops; logs = t.logs; history = t.history; lengths = t.lengths }

abbrev pub put_candidates : List ℕ → Tables → Tables
put_candidates x t =
    record { used = t.used; counts = t.counts; held = t.held; candidates = x; makers = t.makers; values = t.values; changed = t.changed; registers = t.registers; snoops = t.snoops; logs = t.logs; history = t.history; lengths = t.lengths }

abbrev pub put_makers : List ℕ → Tables → Tables
put_makers x t =
    record { used = t.used; counts = t.counts; held = t.held; candidates = t.candidates; makers = x; values = t.values; changed = t.changed; registers = t.registers; snoops = t.snoops; logs = t.logs; history = t.history; lengths = t.lengths }

abbrev pub put_values : List ℕ → Tables → Tables
put_values x t =
    record { used = t.used; counts = t.counts; held = t.held; candidates = t.candidates; makers = t.makers; values = x; changed = t.changed; registers = t.registers; snoops = t.snoops; logs = t.logs; history = t.history; lengths = t.lengths }

abbrev pub put_changed : List ℕ → Tables → Tables
put_changed x t =
    record { used = t.used; counts = t.counts; held = t.held; candidates = t.candidates; makers = t.makers; values = t.values; changed = x; registers = t.registers; snoops = t.snoops; logs = t.logs; history = t.history; lengths = t.lengths }

abbrev pub put_registers : List ℕ → Tables → Tables
put_registers x t =
    record { used = t.used; counts = t.counts; held = t.held; candidates = t.candidates; makers = t.makers; values = t.values; changed = t.changed; registers = x; snoops = t.snoops; logs = t.logs; history = t.history; lengths = t.lengths }

abbrev pub put_snoops : List ℕ → Tables → Tables
put_snoops x t =
    record { used = t.used; counts = t.counts; held = t.held; candidates = t.candidates; makers = t.makers; values = t.values; changed = t.changed; registers = t.registers; snoops = x; logs = t.logs; history = t.history; lengths = t.lengths }

abbrev pub put_logs : List ℕ → Tables → Tables
put_logs x t =
    record { used = t.used; counts = t.counts; held = t.held; candidates = t.candidates; makers = t.makers; values = t.values; changed = t.changed; registers = t.registers; snoops = t.snoops; logs = x; history = t.history; lengths = t.lengths }

abbrev pub put_history : List ℕ → Tables → Tables
put_history x t =
    record { used = t.used; counts = t.counts; held = t.held; candidates = t.candidates; makers = t.makers; values = t.values; changed = t.changed; registers = t.registers; snoops = t.snoops; logs = t.logs; history = x; lengths = t.lengths }

abbrev pub put_lengths : List ℕ → Tables → Tables
put_lengths x t =
    record { used = t.used; counts = t.counts; held = t.held; candidates = t.candidates; makers = t.makers; values = t.values; changed = t.changed; registers = t.registers; snoops = t.snoops; logs = t.logs; history = t.history; lengths = x }
