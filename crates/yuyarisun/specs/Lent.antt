-- The collector's record, in the three numbers that C lends.
--     collector_in     the record
--     SameCollector      the same numbers are lent still
-- Assumes nothing.
use Rattle.std.specs.Prelude.{◌≡◌}
use Rattle.rules.specs.declared.Collector.{Collector}
use Rattle.yuyarisun.specs.declared.LentCollector.{LentCollector}
use Rattle.yuyarisun.specs.Exported.{collector_of}

abbrev pub collector_in : LentCollector → Collector
collector_in x = collector_of x.phase.now x.position.now x.closed.now

-- behind each reference is the number that was there
pub record SameCollector (before after : LentCollector) : Type 0 where
  pub phase : after.phase.ghost_name ≡ before.phase.ghost_name
  pub position : after.position.ghost_name ≡ before.position.ghost_name
  pub closed : after.closed.ghost_name ≡ before.closed.ghost_name
