-- How a pool lies in lent tables, and which pool any tables mean, nonsense included (decisions 1 and 2 of docs/DECISIONS.md). On tables of the right shape each
-- undoes the other: proofs/RoundTrip.antt.
--     is_on                      a flag that is kept as a number
--     cut                        a table in blocks of one size
--     entries, laid              a list of entries, read from and written to its room
--     pool_of                    the pool that tables mean
--     tables_of                  the tables of a pool
-- Assumes nothing.
use Rattle.std.specs.Prelude.{ℕ, zero, suc, ◌*◌, Bool, not, eqb, length, get_or, take, drop}
use mathlib.Core.List.{List, [], ◌∷◌, ◌++◌, map, zip_with, flatten}
use Rattle.rules.specs.declared.Sizes.{Sizes}
use Rattle.rules.specs.declared.RecordNumber.{RecordNumber}
use Rattle.rules.specs.declared.LinkNumber.{LinkNumber}
use Rattle.rules.specs.declared.Collector.{Collector}
use Rattle.rules.specs.Size.{links}
use Rattle.rules.specs.Pool.{Entry, Pool}
use Rattle.rules.specs.View.{bit}
use Rattle.tables.specs.Bits.{marks_in, words_of}
use Rattle.tables.specs.Tables.{Tables}

-- ---- flags and numbers

-- off is 0 and on is 1; of another number, which no sound pool has, on
abbrev pub is_on : ℕ → Bool
is_on x = not (eqb x 0)

abbrev pub marks : List ℕ → List Bool
marks = map is_on

abbrev pub bits : List Bool → List ℕ
bits = map bit

abbrev pub record_number : ℕ → RecordNumber
record_number x = record { 0 = x }

abbrev pub link_number_of : ℕ → LinkNumber
link_number_of x = record { 0 = x }

abbrev pub record_numbers : List ℕ → List RecordNumber
record_numbers = map record_number

abbrev pub numbers : List RecordNumber → List ℕ
numbers = map (λ a. a.0)

-- ---- blocks

-- the first n blocks of a table, each of one size
unfoldable pub cut : ℕ → ℕ → List ℕ → List (List ℕ)
cut zero size table = []
cut (suc n) size table = take size table ∷ cut n size (drop size table)

-- ---- lists of entries

-- the first n entries of a room, each two numbers: the link, then the old value. Past the room's end both are 0
unfoldable pub entries : ℕ → List ℕ → List Entry
entries zero room = []
entries (suc n) room = record { link = link_number_of (get_or room 0 0); old = record_number (get_or room 1 0) } ∷ entries n (drop 2 room)

-- a list of entries in a room for so many, and 0 in every entry past its length
unfoldable pub laid : ℕ → List Entry → List ℕ
laid zero list = []
laid (suc room) [] = 0 ∷ 0 ∷ laid room []
laid (suc room) (e ∷ list) = e.link.0 ∷ e.old.0 ∷ laid room list

-- ---- the pool that tables mean

-- how many numbers the room of a log or of the history has: "each log and the history have room for S entries (link, old value)"
abbrev pub room : Sizes → ℕ
room s = links s * 2

-- the logs that lie in their two tables
abbrev pub logs_in : Sizes → (logs lengths : List ℕ) → List (List Entry)
logs_in s logs lengths = zip_with entries lengths (cut s.w (room s) logs)

unfoldable pub pool_of : Sizes → Tables → Collector → Pool
pool_of s t c =
    record {
      records =
          record {
            used = marks_in s.n t.used;
            count = t.counts;
            held = marks_in s.n t.held;
            candidate = marks_in s.n t.candidates;
            maker = t.makers;
          };
      links = record { value = record_numbers t.values; changed = marks_in (links s) t.changed };
      workers =
          record {
            registers = map record_numbers (cut s.w s.r t.registers);
            snoop = marks t.snoops;
            log = logs_in s t.logs t.lengths;
          };
      last = record_number (get_or t.registers (s.w * s.r) 0);
      history = entries (get_or t.lengths s.w 0) t.history;
      collector = c;
    }

-- ---- the tables of a pool

unfoldable pub tables_of : Sizes → Pool → Tables
tables_of s p =
    record {
      used = words_of p.records.used;
      counts = p.records.count;
      held = words_of p.records.held;
      candidates = words_of p.records.candidate;
      makers = p.records.maker;
      values = numbers p.links.value;
      changed = words_of p.links.changed;
      registers = flatten (map numbers p.workers.registers) ++ (p.last.0 ∷ []);
      snoops = bits p.workers.snoop;
      logs = flatten (map (laid (links s)) p.workers.log);
      history = laid (links s) p.history;
      lengths = map length p.workers.log ++ (length p.history ∷ []);
    }
