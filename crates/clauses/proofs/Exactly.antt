-- Both tests are true exactly of the tables of a sound pool, so they are one test.
--     is_sound_exactly      `is_sound`
--     inspected_exactly     the check as it goes
--     inspected_is          so the check as it goes is `is_sound`
-- `is_sound` asks clause by clause: each test tells its clause, and what is asked of what there is holds of every number, since elsewhere stands 0.
-- The check enters the history, the values and the logs into one list of what was seen of each link and one of the last that is known of it. Where every entry
-- is in range, each falls on the place of its own link. So what was seen of a link is how often it stands among the logs and the uncleared history, plus
-- 131,072 for each time it stands in the history; the first number is below 131,072, since 8 logs and the history have at most 8,208 entries each, so that the
-- two can be told apart. The marks are right exactly if the first number is the mark, and no link stands twice in the history exactly
-- if what was seen is below 262,144. Where that holds, the last that is known of a link is what it counts for: the old value of its one uncounted entry, which
-- is entered last; else that of its one log entry, if its mark is on; else its value, since no log says anything of it. The four tallies together then count
-- the links for each record.
-- Assumes nothing.
use mathlib.Core.Path.{◌≡◌}
use mathlib.Core.Logic.{◌↔◌}
use mathlib.Core.Bool.{true}
use Rattle.rules.specs.declared.Sizes.{Sizes}
use Rattle.rules.specs.declared.Collector.{Collector}
use Rattle.rules.specs.Size.{in_range}
use Rattle.tables.specs.Tables.{Tables}
use Rattle.tables.specs.Known.{Exact, SoundTables}
use Rattle.clauses.specs.IsSound.{is_sound}
use Rattle.clauses.specs.Inspected.{inspected}
use Rattle.clauses.proofs.Tests.{same_told}
use Rattle.clauses.proofs.IsSound.{sound_tells}
use Rattle.clauses.proofs.Inspected.{inspected_tells}

module _ (s : Sizes) (t : Tables) (c : Collector) (exact : Exact s t) where
  pub is_sound_exactly : (is_sound s t c ≡ true) ↔ SoundTables s t c
  is_sound_exactly = sound_tells c exact

  pub inspected_exactly : in_range s ≡ true → (inspected s t c ≡ true) ↔ SoundTables s t c
  inspected_exactly sizes = inspected_tells s t c sizes exact

  pub inspected_is : in_range s ≡ true → inspected s t c ≡ is_sound s t c
  inspected_is sizes = same_told (inspected_exactly sizes) is_sound_exactly
