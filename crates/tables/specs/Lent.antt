-- Tables that are lent together.
--     contents       what they contain
--     SameTables     the same tables are lent still
-- Assumes nothing.
use Rattle.std.specs.Prelude.{◌≡◌}
use Rattle.tables.specs.declared.lent.LentTables.{LentTables}
use Rattle.tables.specs.declared.lent.ReadTables.{ReadTables}
use Rattle.tables.specs.Tables.{Tables, lent}

abbrev pub contents : LentTables → Tables
contents t =
    lent t.used.now t.counts.now t.held.now t.candidates.now t.makers.now t.values.now t.changed.now t.registers.now t.snoops.now t.logs.now t.history.now t.lengths.now

abbrev pub seen : ReadTables → Tables
seen t =
    lent t.used.now t.counts.now t.held.now t.candidates.now t.makers.now t.values.now t.changed.now t.registers.now t.snoops.now t.logs.now t.history.now t.lengths.now

-- behind each reference is the table that was there
pub record SameTables (before after : LentTables) : Type 0 where
  pub used : after.used.ghost_name ≡ before.used.ghost_name
  pub counts : after.counts.ghost_name ≡ before.counts.ghost_name
  pub held : after.held.ghost_name ≡ before.held.ghost_name
  pub candidates : after.candidates.ghost_name ≡ before.candidates.ghost_name
  pub makers : after.makers.ghost_name ≡ before.makers.ghost_name
  pub values : after.values.ghost_name ≡ before.values.ghost_name
  pub changed : after.changed.ghost_name ≡ before.changed.ghost_name
  pub registers : after.registers.ghost_name ≡ before.registers.ghost_name
  pub snoops : after.snoops.ghost_name ≡ before.snoops.ghost_name
  pub logs : after.logs.ghost_name ≡ before.logs.ghost_name
  pub history : after.history.ghost_name ≡ before.history.ghost_name
  pub lengths : after.lengths.ghost_name ≡ before.lengths.ghost_name
