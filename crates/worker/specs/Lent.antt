-- The tables that a worker event is lent, put among the others; and what a store or a post does to tables, with the two parts of it that may or may not happen.
--     makes_on, loads_on, stores_on, logs_on     tables of which those that are lent are at hand
--     RoomToLog, logged_on                       "(link, its value) is added to w's log and the mark goes on", where the mark is off
--     held_after                                 "if w snoops and the value is not none, that record is marked held"
--     link_taken                                 a link takes what a register holds: both, and the value
-- Assumes nothing.
use Rattle.std.specs.Prelude.{ℕ, ◌+◌, ◌*◌, ◌<◌, ◌≡◌, Bool, true, false, cond, List, length, get_or, set}
use Rattle.rules.specs.declared.Sizes.{Sizes}
use Rattle.rules.specs.declared.RecordNumber.{RecordNumber}
use Rattle.rules.specs.declared.LinkNumber.{LinkNumber}
use Rattle.rules.specs.Size.{in_range, links}
use Rattle.tables.specs.Tables.{Tables, put_used, put_held, put_makers, put_values, put_changed, put_registers, put_snoops, put_logs, put_lengths}
use Rattle.tables.specs.Bits.{mark_at, marked, mark_record}
use Rattle.tables.specs.Lie.{is_on, record_number, room}

abbrev pub makes_on : (used makers registers : List ℕ) → Tables → Tables
makes_on used makers registers t = put_used used (put_makers makers (put_registers registers t))

abbrev pub loads_on : (values registers : List ℕ) → Tables → Tables
loads_on values registers t = put_values values (put_registers registers t)

abbrev pub logs_on : (changed logs lengths : List ℕ) → Tables → Tables
logs_on changed logs lengths t = put_changed changed (put_logs logs (put_lengths lengths t))

abbrev pub stores_on : (held values changed registers snoops logs lengths : List ℕ) → Tables → Tables
stores_on held values changed registers snoops logs lengths t =
    put_held held (put_values values (put_registers registers (put_snoops snoops (logs_on changed logs lengths t))))

-- what an entry more asks of the tables, and the mark that has been read
pub record RoomToLog (s : Sizes) (marks table ns : List ℕ) (w : ℕ) (l : LinkNumber) (marked : Bool) : Type 0 where
  pub sizes : in_range s ≡ true
  pub worker : w < s.w
  pub link : l.0 < length marks * 64
  pub logs : length table ≡ s.w * room s
  pub lengths : w < length ns
  pub mark : marked ≡ mark_at marks l.0
  pub free : marked ≡ false → get_or ns w 0 < links s

-- where the next entry of a worker's log begins
abbrev pub next_entry : Sizes → ℕ → Tables → ℕ
next_entry s w t = w * room s + get_or t.lengths w 0 * 2

unfoldable pub logged_on : Sizes → ℕ → LinkNumber → RecordNumber → Tables → Tables
logged_on s w l old t =
    cond (mark_at t.changed l.0) t
    (put_changed (marked t.changed l.0 true)
    (put_logs (set (set t.logs (next_entry s w t) l.0) (next_entry s w t + 1) old.0) (put_lengths (set t.lengths w (get_or t.lengths w 0 + 1)) t)))

unfoldable pub held_after : ℕ → RecordNumber → List ℕ → List ℕ → List ℕ
held_after w a snoops held = cond (is_on (get_or snoops w 0)) (mark_record held a.0 true) held

-- "the link takes what r holds"
unfoldable pub link_taken : Sizes → ℕ → LinkNumber → ℕ → Tables → Tables
link_taken s w l r t =
    let old : RecordNumber = record_number (get_or t.values l.0 0) in
    let new : RecordNumber = record_number (get_or t.registers (w * s.r + r) 0) in
    put_held (held_after w new t.snoops t.held) (put_values (set t.values l.0 new.0) (logged_on s w l old t))
