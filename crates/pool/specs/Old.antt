-- The public calls on the tables of before document 02's request 9, with a number for each mark.
--     old_fits, old_sound     which sizes and lengths are taken, and which of these tables are of a sound pool
--     old_fresh               the tables made a fresh pool
--     old_called              one event
-- Assumes nothing.
use Rattle.std.specs.Prelude.{Bool, cond, ◌&&◌}
use Rattle.rules.specs.declared.Sizes.{Sizes}
use Rattle.rules.specs.declared.Event.{Event}
use Rattle.rules.specs.declared.Refusal.TheVariants.{WrongSize, NotSound}
use Rattle.rules.specs.declared.Answer.TheVariants.{Fresh}
use Rattle.rules.specs.declared.Collector.{Collector}
use Rattle.rules.specs.Size.{in_range}
use Rattle.rules.specs.Pool.{fresh}
use Rattle.tables.specs.Tables.{Tables}
use Rattle.tables.specs.Event.{Called}
use Rattle.clauses.specs.IsSound.{every, is_mark, is_padded, is_sound_pool}
use Rattle.fresh.specs.Fits.{refused_on}
use Rattle.events.specs.Old.{old_pool_of, old_exact, old_written, old_event_on}

-- "1: a size is out of its range, or a lent table has another length"
abbrev pub old_fits : Sizes → Tables → Bool
old_fits s t = in_range s && old_exact s t

-- "A sound pool", with "marks and flags 0 or 1"
unfoldable pub old_sound : Sizes → Tables → Collector → Bool
old_sound s t c =
    (every is_mark t.used && every is_mark t.held && every is_mark t.candidates && every is_mark t.changed && every is_mark t.snoops)
    && is_padded s t
    && is_sound_pool s (old_pool_of s t c)

unfoldable pub old_fresh : Sizes → Tables → Collector → Called
old_fresh s t c = cond (old_fits s t) (old_written s (record { answer = Fresh; pool = fresh s })) (refused_on WrongSize t c)

unfoldable pub old_called : Sizes → Tables → Collector → Event → Called
old_called s t c e = cond (old_fits s t) (cond (old_sound s t c) (old_event_on s t c e) (refused_on NotSound t c)) (refused_on WrongSize t c)
