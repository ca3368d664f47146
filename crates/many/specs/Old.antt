-- Many events at once on the tables of before document 02's request 9, with a number for each mark.
--     old_ran_of      the events that stand one after another
--     old_many_on     the call
--     old_many        what the call answers and leaves on packed tables, in the old form
-- Assumes nothing.
use Rattle.std.specs.Prelude.{ℕ, cond, List}
use Rattle.rules.specs.declared.Sizes.{Sizes}
use Rattle.rules.specs.declared.Refusal.TheVariants.{WrongSize, NotSound}
use Rattle.rules.specs.declared.Collector.{Collector}
use Rattle.rules.specs.Pool.{Pool}
use Rattle.rules.specs.Outcome.{after}
use Rattle.tables.specs.Tables.{Tables}
use Rattle.events.specs.Old.{old_pool_of, old_tables_of, stands_for}
use Rattle.pool.specs.Old.{old_fits, old_sound}
use Rattle.trace.specs.Stretch.{stretch, RanOn, ran_of}
use Rattle.many.specs.Many.{ManyOn, refused_many, done}

-- from a pool, written out
abbrev pub old_ran_of : Sizes → Pool → List ℕ → ℕ → List ℕ → RanOn
old_ran_of s p bytes step room =
    let x : RanOn = ran_of s p bytes 0 step room in
    record { ran = x.ran; tables = old_tables_of s (after s p (stretch bytes 0 step).events); answers = x.answers }

unfoldable pub old_many_on : Sizes → Tables → Collector → List ℕ → ℕ → List ℕ → ManyOn
old_many_on s t c bytes step room =
    cond (old_fits s t) (cond (old_sound s t c) (done bytes (old_ran_of s (old_pool_of s t c) bytes step room)) (refused_many NotSound t c step room))
    (refused_many WrongSize t c step room)

abbrev pub old_many : Sizes → ManyOn → ManyOn
old_many s x = record { rest = x.rest; ran = x.ran; tables = stands_for s x.tables; answers = x.answers }
