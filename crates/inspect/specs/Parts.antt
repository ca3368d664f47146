-- What the parts of the check note, test and ask.
--     noted       what is noted of each link, as the tests of `clauses` have it
--     matches     a mark of a word against what was seen of its link
--     is_once     what was seen of a link: at most once among the logs and the uncleared history, and in the history
--     Fits        what the part on links asks: exact lengths, list lengths at most S, and a collector's record that fits
-- Assumes nothing.
use Rattle.std.specs.Prelude.{ℕ, ◌%◌, ◌≤◌, ◌≡◌, Bool, true, false, ◌&&◌, List, eqb, leb, ltb, get_or}
use Rattle.rules.specs.declared.Sizes.{Sizes}
use Rattle.rules.specs.declared.Collector.{Collector}
use Rattle.rules.specs.Size.{in_range, links}
use Rattle.rules.specs.View.{bit}
use Rattle.rules.specs.Sound.{Each}
use Rattle.tables.specs.Bits.{digits}
use Rattle.tables.specs.Tables.{Tables}
use Rattle.tables.specs.Known.{Exact}
use Rattle.clauses.specs.Entered.{Noted}
use Rattle.clauses.specs.Inspected.{phase_fits}
use Rattle.inspect.specs.declared.Notes.{Notes}

abbrev pub noted : Notes → Noted
noted x = record { ok = x.ok; seen = x.seen; last = x.last }

-- a changed mark is how often its link stands among the logs and the uncleared history, and no link stands twice in the history
abbrev pub matches : (word : ℕ) (seen : List ℕ) → ℕ → Bool
matches word seen i = eqb (get_or seen i 0 % 131072) (bit (get_or (digits 64 word) i false)) && ltb (get_or seen i 0) 262144

abbrev pub is_once : ℕ → Bool
is_once times = leb (times % 131072) 1 && ltb times 262144

pub record Fits (s : Sizes) (t : Tables) (c : Collector) : Type 0 where
  pub sizes : in_range s ≡ true
  pub exact : Exact s t
  pub low : Each (λ n. n ≤ links s) t.lengths
  pub phase : phase_fits s c (get_or t.lengths s.w 0) ≡ true
