-- Which sizes and lengths are taken, and what is answered where they are not.
--     is_exact, fits     every table has its length; and every size is in its range
--     refused_on         a call that is refused changes nothing
-- Assumes nothing.
use Rattle.std.specs.Prelude.{◌+◌, ◌*◌, Bool, ◌&&◌, eqb, length}
use Rattle.rules.specs.declared.Sizes.{Sizes}
use Rattle.rules.specs.declared.Refusal.{Refusal}
use Rattle.rules.specs.declared.Answer.TheVariants.{Refused}
use Rattle.rules.specs.declared.Collector.{Collector}
use Rattle.rules.specs.Size.{in_range, links}
use Rattle.tables.specs.Bits.{word_count}
use Rattle.tables.specs.Tables.{Tables}
use Rattle.tables.specs.Lie.{room}
use Rattle.tables.specs.Event.{Called}

-- "lent tables .. whose lengths must be exact"
unfoldable pub is_exact : Sizes → Tables → Bool
is_exact s t =
    eqb (length t.used) (word_count s.n)
    && eqb (length t.counts) s.n
    && eqb (length t.held) (word_count s.n)
    && eqb (length t.candidates) (word_count s.n)
    && eqb (length t.makers) s.n
    && eqb (length t.values) (links s)
    && eqb (length t.changed) (word_count (links s))
    && eqb (length t.registers) (s.w * s.r + 1)
    && eqb (length t.snoops) s.w
    && eqb (length t.logs) (s.w * room s)
    && eqb (length t.history) (room s)
    && eqb (length t.lengths) (s.w + 1)

-- "1: a size is out of its range, or a lent table has another length"
abbrev pub fits : Sizes → Tables → Bool
fits s t = in_range s && is_exact s t

-- "A refused event has the value 0 and changes nothing."
abbrev pub refused_on : Refusal → Tables → Collector → Called
refused_on why t c = record { answer = Refused why; collector = c; tables = t }
