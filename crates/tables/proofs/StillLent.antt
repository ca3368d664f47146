-- The same tables are lent before a call and after it, and after one more.
--     still_lent     no call
--     lent_again     two calls
-- Assumes nothing.
use mathlib.Core.Path.{refl, ◌∙◌}
use Rattle.tables.specs.declared.lent.LentTables.{LentTables}
use Rattle.tables.specs.Lent.{SameTables}

pub still_lent : (t : LentTables) → SameTables t t
still_lent t =
    record {
      used = refl;
      counts = refl;
      held = refl;
      candidates = refl;
      makers = refl;
      values = refl;
      changed = refl;
      registers = refl;
      snoops = refl;
      logs = refl;
      history = refl;
      lengths = refl;
    }

pub lent_again : {t u v : LentTables} → SameTables t u → SameTables u v → SameTables t v
lent_again first second =
    record {
      used = second.used ∙ first.used;
      counts = second.counts ∙ first.counts;
      held = second.held ∙ first.held;
      candidates = second.candidates ∙ first.candidates;
      makers = second.makers ∙ first.makers;
      values = second.values ∙ first.values;
      changed = second.changed ∙ first.changed;
      registers = second.registers ∙ first.registers;
      snoops = second.snoops ∙ first.snoops;
      logs = second.logs ∙ first.logs;
      history = second.history ∙ first.history;
      lengths = second.lengths ∙ first.lengths;
    }
