-- The logs that have the entry of a link, and the view value on tables.
--     log_tables                  the tables of the logs are of the right size
--     view_logged, view_plain     the view value, by the mark
-- Assumes nothing.
use Prim.Native.Nat.{ℕ, ◌≤◌, ◌<◌}
use mathlib.Core.Path.{◌≡◌, ◌∙◌}
use mathlib.Core.Bool.{true, false}
use mathlib.Core.List.{List}
use native.Mathlib.Omega.{arith}
use lib.ListN.{get_or}
use Rattle.rules.specs.declared.Sizes.{Sizes}
use Rattle.rules.specs.declared.LinkNumber.{LinkNumber}
use Rattle.rules.specs.declared.Collector.{Collector}
use Rattle.rules.specs.Size.{links}
use Rattle.rules.specs.View.{look_up, view_value}
use Rattle.tables.specs.Tables.{Tables}
use Rattle.tables.specs.Bits.{mark_at}
use Rattle.tables.specs.Lie.{record_number, logs_in, pool_of}
use Rattle.tables.proofs.Logs.{LogTables}
use Rattle.tables.proofs.Stand.{value-stands, changed_stands}
use Rattle.laws.proofs.Lists.{Each-places}
use Rattle.laws.proofs.LookUp.{view_marked, view_unmarked}
use Rattle.count.specs.Looked.{OneEntry}

-- ---- the logs

pub log_tables : {s : Sizes} {table ns : List ℕ} {l : LinkNumber} → OneEntry s table ns l → LogTables s table ns
log_tables {s} {table} {ns} h =
    record {
      sizes = h.sizes;
      exact = h.logs;
      counted = h.lengths;
      low = Each-places (λ n. n ≤ links s) 0 ns (λ w k. h.low w (omega (arith, h.lengths)));
    }

-- ---- the view value

module _ (s : Sizes) (t : Tables) (c : Collector) (l : LinkNumber) (inside : l.0 < links s) where
  pub view_logged : mark_at t.changed l.0 ≡ true → view_value (pool_of s t c) l ≡ look_up l (logs_in s t.logs t.lengths)
  unfolding pool_of
  view_logged on = view_marked (pool_of s t c) l (changed_stands s t c l inside ∙ on)

  pub view_plain : mark_at t.changed l.0 ≡ false → view_value (pool_of s t c) l ≡ record_number (get_or t.values l.0 0)
  view_plain off = view_unmarked (pool_of s t c) l (changed_stands s t c l inside ∙ off) ∙ value-stands s t c l
