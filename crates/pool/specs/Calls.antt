-- What the call on a lent pool answers and leaves: any sizes, any tables, any collector's record, any event.
--     checked         what its tests of the pool answer
--     called          one event on a lent pool
-- Assumes nothing.
use Rattle.std.specs.Prelude.{⊤, cond, Result, Ok, Err}
use Rattle.rules.specs.declared.Sizes.{Sizes}
use Rattle.rules.specs.declared.Event.{Event}
use Rattle.rules.specs.declared.Refusal.{Refusal}
use Rattle.rules.specs.declared.Refusal.TheVariants.{WrongSize, NotSound}
use Rattle.rules.specs.declared.Collector.{Collector}
use Rattle.tables.specs.Tables.{Tables}
use Rattle.tables.specs.Event.{Called, event_on}
use Rattle.clauses.specs.IsSound.{is_sound}
use Rattle.fresh.specs.Fits.{fits, refused_on}

-- 1 where the sizes and lengths are wrong, 2 where the pool is not sound, in this order
unfoldable pub checked : Sizes → Tables → Collector → Result ⊤ Refusal
checked s t c = cond (fits s t) (cond (is_sound s t c) (Ok tt) (Err NotSound)) (Err WrongSize)

-- "A single event checks the pool first": "Order for an event: 1, 2, 3, 4, then 5 or 6", with "3, 13, 14 where 3 stood" (document 02, request 2)
-- and without 6 (request 4)
unfoldable pub called : Sizes → Tables → Collector → Event → Called
called s t c e = cond (fits s t) (cond (is_sound s t c) (event_on s t c e) (refused_on NotSound t c)) (refused_on WrongSize t c)
