-- Lent tables made a fresh pool: any sizes, any tables, any collector's record.
-- Assumes nothing.
use Rattle.std.specs.Prelude.{cond}
use Rattle.rules.specs.declared.Sizes.{Sizes}
use Rattle.rules.specs.declared.Refusal.TheVariants.{WrongSize}
use Rattle.rules.specs.declared.Answer.TheVariants.{Fresh}
use Rattle.rules.specs.declared.Collector.{Collector}
use Rattle.rules.specs.Pool.{fresh}
use Rattle.tables.specs.Tables.{Tables}
use Rattle.tables.specs.Event.{Called, written}
use Rattle.fresh.specs.Fits.{fits, refused_on}

-- "makes the pool fresh, whatever the tables held"
unfoldable pub made_fresh : Sizes → Tables → Collector → Called
made_fresh s t c = cond (fits s t) (written s (record { answer = Fresh; pool = fresh s })) (refused_on WrongSize t c)
