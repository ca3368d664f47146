-- The arrays in which a program has its pool: they are longer than the tables of a pool of smaller sizes, which lie at their beginnings.
--     is_small         the sizes that the program takes
--     front           the tables at the arrays' beginnings
--     left_in          what lies in the arrays
--     Long, Within    the arrays' lengths; a pool has room in them
--     laid            what the arrays contain, as tables
--     aside           the arrays before the first field
--     Runs            the events of a stretch, done on them
--     Holds, Later, Set     the arrays between two parts: before the first field all 0, then a sound pool
--     part_of, Numbered, Takes     what a part answers and leaves, on the arrays
-- Assumes nothing.
use Rattle.std.specs.Prelude.{ℕ, ◌+◌, ◌*◌, ◌≤◌, ◌≡◌, Bool, true, ◌&&◌, List, leb, length, take, replicate}
use Rattle.rules.specs.declared.Sizes.{Sizes}
use Rattle.rules.specs.declared.Answer.{Answer}
use Rattle.rules.specs.Size.{links}
use Rattle.fields.specs.declared.Stage.{Stage}
use Rattle.fields.specs.declared.Stage.TheVariants.{First, Events, Ended}
use Rattle.tables.specs.Bits.{word_count}
use Rattle.tables.specs.Tables.{Tables, lent}
use Rattle.tables.specs.Lie.{room, pool_of}
use Rattle.tables.specs.Known.{Known}
use Rattle.trace.specs.Replay.{Line, Left, untouched, stands}
use Rattle.trace.specs.declared.Ran.{Ran}
use Rattle.trace.specs.declared.Stood.{Stood}
use Rattle.trace.specs.Stretch.{lines_behind, put, RanOn}
use Rattle.parts.specs.declared.Arrays.{Arrays}
use Rattle.parts.specs.declared.Progress.{Progress}
use Rattle.parts.specs.declared.Part.{Part}
use Rattle.parts.specs.Part.{Taken}

-- "it takes N up to 64, K up to 4, W up to 4, R up to 8", and "`replay` takes B up to 8" (document 02, request 5)
unfoldable pub is_small : Sizes → Bool
is_small s = leb s.n 64 && leb s.k 4 && leb s.w 4 && leb s.r 8 && leb s.b 8

unfoldable pub front : Sizes → Tables → Tables
front s t =
    record {
      used = take (word_count s.n) t.used;
      counts = take s.n t.counts;
      held = take (word_count s.n) t.held;
      candidates = take (word_count s.n) t.candidates;
      makers = take s.n t.makers;
      values = take (links s) t.values;
      changed = take (word_count (links s)) t.changed;
      registers = take (s.w * s.r + 1) t.registers;
      snoops = take s.w t.snoops;
      logs = take (s.w * room s) t.logs;
      history = take (room s) t.history;
      lengths = take (s.w + 1) t.lengths;
    }

-- nothing before the first field, then a pool
unfoldable pub left_in : Progress → Tables → Left
left_in x t =
    let pool : Left = stands x.sizes (pool_of x.sizes (front x.sizes t) x.collector) in
    elim x.reader.stage [ First ↦ untouched | Events ↦ pool | Ended ↦ pool ]

-- arrays for the largest sizes
pub record Long (t : Tables) : Type 0 where
  pub used : length t.used ≡ 1
  pub counts : length t.counts ≡ 64
  pub held : length t.held ≡ 1
  pub candidates : length t.candidates ≡ 1
  pub makers : length t.makers ≡ 64
  pub values : length t.values ≡ 264
  pub changed : length t.changed ≡ 5
  pub registers : length t.registers ≡ 33
  pub snoops : length t.snoops ≡ 4
  pub logs : length t.logs ≡ 2112
  pub history : length t.history ≡ 528
  pub lengths : length t.lengths ≡ 5

-- a pool of these sizes has room in them
pub record Within (s : Sizes) (t : Tables) : Type 0 where
  pub used : word_count s.n ≤ length t.used
  pub counts : s.n ≤ length t.counts
  pub held : word_count s.n ≤ length t.held
  pub candidates : word_count s.n ≤ length t.candidates
  pub makers : s.n ≤ length t.makers
  pub values : links s ≤ length t.values
  pub changed : word_count (links s) ≤ length t.changed
  pub registers : s.w * s.r + 1 ≤ length t.registers
  pub snoops : s.w ≤ length t.snoops
  pub logs : s.w * room s ≤ length t.logs
  pub history : room s ≤ length t.history
  pub lengths : s.w + 1 ≤ length t.lengths

-- what the arrays contain, each as the table of its name
abbrev pub laid : Arrays → Tables
laid a = lent a.used a.counts a.held a.candidates a.makers a.values a.changed a.registers a.snoops a.logs a.history a.lengths

-- "sets aside 256 links, all none, before the first field", and with these 8 board entries (document 02, request 5)
unfoldable pub aside : Tables
aside =
    record {
      used = replicate 1 0;
      counts = replicate 64 0;
      held = replicate 1 0;
      candidates = replicate 1 0;
      makers = replicate 64 0;
      values = replicate 264 0;
      changed = replicate 5 0;
      registers = replicate 33 0;
      snoops = replicate 4 0;
      logs = replicate 2112 0;
      history = replicate 528 0;
      lengths = replicate 5 0;
    }

-- the events of a stretch, done on the pool at the arrays' beginnings
pub record Runs (s : Sizes) (whole : RanOn) (ran : Ran) (after : Tables) (filled : List ℕ) : Type 0 where
  pub long : Long after
  pub same : whole ≡ record { ran = ran; tables = front s after; answers = filled }

-- a sound pool of sizes that the program takes
pub record Holds (x : Progress) (t : Tables) : Type 0 where
  pub small : is_small x.sizes ≡ true
  pub known : Known x.sizes (front x.sizes t) x.collector

-- behind the sizes field
abbrev pub Later : Stage → Type 0
Later First = ⊥
Later Events = Unit
Later Ended = Unit

abbrev pub HoldsAt : Stage → Progress → Tables → Type 0
HoldsAt First x t = (t ≡ aside) × (x.reader.step ≡ 0)
HoldsAt Events x t = Holds x t
HoldsAt Ended x t = Holds x t

pub record Set (x : Progress) (t : Tables) : Type 0 where
  pub long : Long t
  pub holds : HoldsAt x.reader.stage x t

-- what a part answers, by how the trace stands behind its events, and by what is kept then
abbrev pub part_of : Progress → Stood → ℕ → Part
part_of x y events = record { stand = y.stand; next = y.next; events = events; progress = record { reader = y.reader; sizes = x.sizes; collector = x.collector } }

-- the lines of some events behind a step
abbrev pub Numbered : ℕ → List Line → Type 0
Numbered step lines = (answers : List Answer) × (lines ≡ lines_behind step answers)

-- a part is taken, behind which the trace stands so, on the arrays
pub record Takes (taken : Taken) (x : Progress) (room : List ℕ) (part : Part) (after : Tables) (filled : List ℕ) : Type 0 where
  pub stood : taken.stood ≡ record { stand = part.stand; next = part.next; reader = part.progress.reader }
  pub events : part.events ≡ length taken.lines
  pub numbered : Numbered x.reader.step taken.lines
  pub answers : filled ≡ put room taken.lines
  pub left : left_in part.progress after ≡ taken.left
  pub set : Set part.progress after
  pub step : part.progress.reader.step ≡ x.reader.step + part.events
