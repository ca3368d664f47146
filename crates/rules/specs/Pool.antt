-- The pool, as "Sizes" of document 01 lists what it has for each record, link and worker.
--     Entry, Records, Links, Workers, Pool     the pool and its parts
--     none                                     0, the record number that is no record
--     of_record, with_record                     what a table of the records has for one record, and the table with another thing there
--     used_at .. maker_at, value_at, changed_at, register_at, snoops_at, log_at     what a pool has for one record, link or worker
--     with_used .. with_maker, with_value, with_changed, with_register, with_snoop, with_log, with_last, with_history, with_collector     the pool with that one thing changed
--     fresh                                    the fresh pool
-- A mark or a flag is a Bool, so that it is 0 or 1; a list is as long as it says, so that nothing stands past its length. Both are clauses of "A sound
-- pool" that only a table can break. Assumes nothing.
use Rattle.std.specs.Prelude.{ℕ, zero, suc, Bool, false, List, [], get_or, set, replicate}
use Rattle.rules.specs.declared.Sizes.{Sizes}
use Rattle.rules.specs.declared.RecordNumber.{RecordNumber}
use Rattle.rules.specs.declared.LinkNumber.{LinkNumber}
use Rattle.rules.specs.declared.Collector.{Collector}
use Rattle.rules.specs.Size.{links}

-- ---- the parts

-- "entries (link, old value)"
pub record Entry : Type 0 where
  pub link : LinkNumber
  pub old : RecordNumber

-- "For each record: used or free, count, held mark, candidate mark, maker (worker + 1, or 0)." Record a stands at place a - 1 of each list.
pub record Records : Type 0 where
  pub used : List Bool
  pub count : List ℕ
  pub held : List Bool
  pub candidate : List Bool
  pub maker : List ℕ

-- "For each link: value, changed mark." Link l stands at place l.
pub record Links : Type 0 where
  pub value : List RecordNumber
  pub changed : List Bool

-- "For each worker: registers, snoop flag, log." Worker w stands at place w.
pub record Workers : Type 0 where
  pub registers : List (List RecordNumber)
  pub snoop : List Bool
  pub log : List (List Entry)

pub record Pool : Type 0 where
  pub records : Records
  pub links : Links
  pub workers : Workers
  -- "The pool remembers the last made number" (document 02, request 1)
  pub last : RecordNumber
  pub history : List Entry
  pub collector : Collector

-- ---- record numbers

-- "Records are numbered 1..N; 0 is none."
abbrev pub none : RecordNumber
none = record { 0 = 0 }

-- none has nothing, and nothing of it is changed: "None has no count."
abbrev pub of_record : {A : Type 0} → List A → ℕ → A → A
of_record table zero otherwise = otherwise
of_record table (suc i) otherwise = get_or table i otherwise

abbrev pub with_record : {A : Type 0} → List A → ℕ → A → List A
with_record table zero x = table
with_record table (suc i) x = set table i x

-- ---- what stands in a pool

abbrev pub used_at : Pool → RecordNumber → Bool
used_at p a = of_record p.records.used a.0 false

abbrev pub count_at : Pool → RecordNumber → ℕ
count_at p a = of_record p.records.count a.0 0

abbrev pub held_at : Pool → RecordNumber → Bool
held_at p a = of_record p.records.held a.0 false

abbrev pub candidate_at : Pool → RecordNumber → Bool
candidate_at p a = of_record p.records.candidate a.0 false

abbrev pub maker_at : Pool → RecordNumber → ℕ
maker_at p a = of_record p.records.maker a.0 0

abbrev pub value_at : Pool → LinkNumber → RecordNumber
value_at p l = get_or p.links.value l.0 none

abbrev pub changed_at : Pool → LinkNumber → Bool
changed_at p l = get_or p.links.changed l.0 false

abbrev pub registers_at : Pool → ℕ → List RecordNumber
registers_at p w = get_or p.workers.registers w []

abbrev pub register_at : Pool → ℕ → ℕ → RecordNumber
register_at p w r = get_or (registers_at p w) r none

abbrev pub snoops_at : Pool → ℕ → Bool
snoops_at p w = get_or p.workers.snoop w false

abbrev pub log_at : Pool → ℕ → List Entry
log_at p w = get_or p.workers.log w []

-- ---- the pool with one thing changed

abbrev pub with_records : Records → Pool → Pool
with_records x p = record { records = x; links = p.links; workers = p.workers; last = p.last; history = p.history; collector = p.collector }

abbrev pub with_links : Links → Pool → Pool
with_links x p = record { records = p.records; links = x; workers = p.workers; last = p.last; history = p.history; collector = p.collector }

abbrev pub with_workers : Workers → Pool → Pool
with_workers x p = record { records = p.records; links = p.links; workers = x; last = p.last; history = p.history; collector = p.collector }

abbrev pub with_last : RecordNumber → Pool → Pool
with_last x p = record { records = p.records; links = p.links; workers = p.workers; last = x; history = p.history; collector = p.collector }

abbrev pub with_history : List Entry → Pool → Pool
with_history x p = record { records = p.records; links = p.links; workers = p.workers; last = p.last; history = x; collector = p.collector }

abbrev pub with_collector : Collector → Pool → Pool
with_collector x p = record { records = p.records; links = p.links; workers = p.workers; last = p.last; history = p.history; collector = x }

abbrev pub with_used : List Bool → Pool → Pool
with_used x p =
    let r = p.records in with_records (record { used = x; count = r.count; held = r.held; candidate = r.candidate; maker = r.maker }) p

abbrev pub with_count : List ℕ → Pool → Pool
with_count x p =
    let r = p.records in with_records (record { used = r.used; count = x; held = r.held; candidate = r.candidate; maker = r.maker }) p

abbrev pub with_held : List Bool → Pool → Pool
with_held x p =
    let r = p.records in with_records (record { used = r.used; count = r.count; held = x; candidate = r.candidate; maker = r.maker }) p

abbrev pub with_candidate : List Bool → Pool → Pool
with_candidate x p =
    let r = p.records in with_records (record { used = r.used; count = r.count; held = r.held; candidate = x; maker = r.maker }) p

abbrev pub with_maker : List ℕ → Pool → Pool
with_maker x p =
    let r = p.records in with_records (record { used = r.used; count = r.count; held = r.held; candidate = r.candidate; maker = x }) p

abbrev pub with_value : LinkNumber → RecordNumber → Pool → Pool
with_value l x p = with_links (record { value = set p.links.value l.0 x; changed = p.links.changed }) p

abbrev pub with_changed : LinkNumber → Bool → Pool → Pool
with_changed l x p = with_links (record { value = p.links.value; changed = set p.links.changed l.0 x }) p

abbrev pub with_register : ℕ → ℕ → RecordNumber → Pool → Pool
with_register w r x p =
    let ws = p.workers in
    with_workers (record { registers = set ws.registers w (set (registers_at p w) r x); snoop = ws.snoop; log = ws.log }) p

abbrev pub with_snoop : ℕ → Bool → Pool → Pool
with_snoop w x p = let ws = p.workers in with_workers (record { registers = ws.registers; snoop = set ws.snoop w x; log = ws.log }) p

abbrev pub with_log : ℕ → List Entry → Pool → Pool
with_log w x p = let ws = p.workers in with_workers (record { registers = ws.registers; snoop = ws.snoop; log = set ws.log w x }) p

-- ---- the fresh pool

-- "A fresh pool has every number 0, every record free, every list empty, phase 0." The last made number is "0 when fresh" (document 02, request 1)
unfoldable pub fresh : Sizes → Pool
fresh s =
    record {
      records =
          record {
            used = replicate s.n false;
            count = replicate s.n 0;
            held = replicate s.n false;
            candidate = replicate s.n false;
            maker = replicate s.n 0;
          };
      links = record { value = replicate (links s) none; changed = replicate (links s) false };
      workers = record { registers = replicate s.w (replicate s.r none); snoop = replicate s.w false; log = replicate s.w [] };
      last = none;
      history = [];
      collector = record { phase = 0; position = 0; closed = 0 };
    }
