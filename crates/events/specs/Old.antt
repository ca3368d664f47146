-- The tables of before document 02's request 9, with a number for each mark, and an event on them: what packed tables stand for.
--     old_pool_of, old_tables_of     how a pool lies in them
--     old_exact                      which lengths they have
--     old_written, old_event_on      an outcome of the rules, written out in them, and an event on them
--     stands_for, old_form           the old tables that packed ones stand for, and what a call answers and leaves, in their form
--     PackedIn, PackedWords          one kind of mark, and packed tables, with unused bits 0
-- Assumes nothing.
use Rattle.std.specs.Prelude.{ℕ, ◌+◌, ◌*◌, ◌≡◌, Bool, ◌&&◌, List, eqb, length}
use Rattle.rules.specs.declared.Sizes.{Sizes}
use Rattle.rules.specs.declared.Event.{Event}
use Rattle.rules.specs.declared.Collector.{Collector}
use Rattle.rules.specs.Size.{links}
use Rattle.rules.specs.Pool.{Pool}
use Rattle.rules.specs.Reply.{Outcome}
use Rattle.rules.specs.Outcome.{outcome}
use Rattle.tables.specs.Bits.{word_count, marks_in, Packed}
use Rattle.tables.specs.Tables.{Tables, put_used, put_held, put_candidates, put_changed}
use Rattle.tables.specs.Lie.{marks, bits, room, pool_of, tables_of}
use Rattle.tables.specs.Event.{Called}

-- ---- how a pool lies in them

-- off is 0 and on is 1, of each kind of mark; all else lies as in the packed tables
unfoldable pub old_pool_of : Sizes → Tables → Collector → Pool
old_pool_of s t c =
    let p : Pool = pool_of s t c in
    record {
      records =
          record {
            used = marks t.used;
            count = p.records.count;
            held = marks t.held;
            candidate = marks t.candidates;
            maker = p.records.maker;
          };
      links = record { value = p.links.value; changed = marks t.changed };
      workers = p.workers;
      last = p.last;
      history = p.history;
      collector = p.collector;
    }

unfoldable pub old_tables_of : Sizes → Pool → Tables
old_tables_of s p =
    put_used (bits p.records.used)
    (put_held (bits p.records.held) (put_candidates (bits p.records.candidate) (put_changed (bits p.links.changed) (tables_of s p))))

-- "lent tables .. whose lengths must be exact"
unfoldable pub old_exact : Sizes → Tables → Bool
old_exact s t =
    eqb (length t.used) s.n
    && eqb (length t.counts) s.n
    && eqb (length t.held) s.n
    && eqb (length t.candidates) s.n
    && eqb (length t.makers) s.n
    && eqb (length t.values) (links s)
    && eqb (length t.changed) (links s)
    && eqb (length t.registers) (s.w * s.r + 1)
    && eqb (length t.snoops) s.w
    && eqb (length t.logs) (s.w * room s)
    && eqb (length t.history) (room s)
    && eqb (length t.lengths) (s.w + 1)

-- ---- an event on them

unfoldable pub old_written : Sizes → Outcome → Called
old_written s o = record { answer = o.answer; collector = o.pool.collector; tables = old_tables_of s o.pool }

unfoldable pub old_event_on : Sizes → Tables → Collector → Event → Called
old_event_on s t c e = old_written s (outcome s (old_pool_of s t c) e)

-- ---- what packed tables stand for

unfoldable pub stands_for : Sizes → Tables → Tables
stands_for s t =
    put_used (bits (marks_in s.n t.used))
    (put_held (bits (marks_in s.n t.held))
    (put_candidates (bits (marks_in s.n t.candidates)) (put_changed (bits (marks_in (links s) t.changed)) t)))

abbrev pub old_form : Sizes → Called → Called
old_form s x = record { answer = x.answer; collector = x.collector; tables = stands_for s x.tables }

-- one kind of mark, its table and its number: "(N + 63) / 64 words", "unused top bits 0"
pub record PackedIn (n : ℕ) (words : List ℕ) : Type 0 where
  pub exact : length words ≡ word_count n
  pub packed : Packed n words

pub record PackedWords (s : Sizes) (t : Tables) : Type 0 where
  pub used : PackedIn s.n t.used
  pub held : PackedIn s.n t.held
  pub candidates : PackedIn s.n t.candidates
  pub changed : PackedIn (links s) t.changed
