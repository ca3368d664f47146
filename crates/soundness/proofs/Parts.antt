-- A change of one part of a pool that keeps the core: a register, the last made number, the records' marks and makers, a snoop flag. None of them touches a link, a
-- log or a count.
--     core_register      a register takes a record number
--     core_last          the last made number is another
--     core_records       the records get other marks and makers
--     core_snoop         a worker's snoop flag
--     length-held_by     what a scan does to the held marks keeps their length
-- Assumes nothing.
use Prim.Native.Nat.{ℕ, ◌≤◌, ◌<◌}
use mathlib.Core.Path.{◌≡◌, refl, ◌∙◌}
use mathlib.Core.Bool.{Bool, true}
use mathlib.Core.List.{List, [], ◌∷◌}
use native.Mathlib.Omega.{arith}
use lib.ListN.{length, get_or, set, length-set}
use Rattle.rules.specs.declared.Sizes.{Sizes}
use Rattle.rules.specs.declared.RecordNumber.{RecordNumber}
use Rattle.rules.specs.Pool.{Entry, Pool, none, of_record, with_record, registers_at, with_records, with_register, with_snoop, with_last}
use Rattle.rules.specs.View.{all_logs, view_value}
use Rattle.rules.specs.Collect.{held_by}
use Rattle.laws.proofs.Lists.{set_keeps, set_keeps_below, length-with_record}
use Rattle.soundness.proofs.Core.{Core}

module _ {s : Sizes} {p : Pool} {clear count : List Entry} (c : Core s p clear count) where
  pub core_register : (w r : ℕ) (a : RecordNumber) → a.0 ≤ s.n → Core s (with_register w r a p) clear count
  unfolding all_logs view_value
  core_register w r a h =
      record {
        shaped =
            record {
              records = c.shaped.records;
              links = c.shaped.links;
              workers =
                  record {
                    registers = length-set p.workers.registers w _ ∙ c.shaped.workers.registers;
                    each = each;
                    snoop = c.shaped.workers.snoop;
                    log = c.shaped.workers.log;
                  };
            };
        registers = set_keeps (λ l. (i : ℕ) → (get_or l i none).0 ≤ s.n) [] p.workers.registers w _ row c.registers;
        last = c.last;
        values = c.values;
        logs = c.logs;
        history = c.history;
        makers = c.makers;
        once = c.once;
        marks = c.marks;
        counts = c.counts;
      }
    where
      row : (i : ℕ) → (get_or (set (registers_at p w) r a) i none).0 ≤ s.n
      row = set_keeps (λ x. x.0 ≤ s.n) none (registers_at p w) r a h (c.registers w)

      each : (v : ℕ) → v < s.w → length (get_or (set p.workers.registers w (set (registers_at p w) r a)) v []) ≡ s.r
      each v k =
          set_keeps_below (λ l. length l ≡ s.r) [] p.workers.registers w (set (registers_at p w) r a)
          (λ q. length-set (registers_at p w) r a ∙ c.shaped.workers.each w (omega (arith, c.shaped.workers.registers)))
          (λ j q. c.shaped.workers.each j (omega (arith, c.shaped.workers.registers)))
          v
          (omega (arith, c.shaped.workers.registers))

  pub core_last : (a : RecordNumber) → a.0 ≤ s.n → Core s (with_last a p) clear count
  unfolding all_logs view_value
  core_last a h =
      record {
        shaped = record { records = c.shaped.records; links = c.shaped.links; workers = c.shaped.workers };
        registers = c.registers;
        last = h;
        values = c.values;
        logs = c.logs;
        history = c.history;
        makers = c.makers;
        once = c.once;
        marks = c.marks;
        counts = c.counts;
      }

  pub core_records : (used held candidate : List Bool) (maker : List ℕ) → length used ≡ s.n → length held ≡ s.n → length candidate ≡ s.n → length maker ≡ s.n
      → ((a : RecordNumber) → of_record maker a.0 0 ≤ s.w)
      → Core s (with_records (record { used = used; count = p.records.count; held = held; candidate = candidate; maker = maker }) p) clear count
  unfolding all_logs view_value
  core_records used held candidate maker hu hh hc hm most =
      record {
        shaped =
            record {
              records = record { used = hu; count = c.shaped.records.count; held = hh; candidate = hc; maker = hm };
              links = c.shaped.links;
              workers = c.shaped.workers;
            };
        registers = c.registers;
        last = c.last;
        values = c.values;
        logs = c.logs;
        history = c.history;
        makers = most;
        once = c.once;
        marks = c.marks;
        counts = c.counts;
      }

  pub core_snoop : (w : ℕ) (x : Bool) → Core s (with_snoop w x p) clear count
  unfolding all_logs view_value
  core_snoop w x =
      record {
        shaped =
            record {
              records = c.shaped.records;
              links = c.shaped.links;
              workers =
                  record {
                    registers = c.shaped.workers.registers;
                    each = c.shaped.workers.each;
                    snoop = length-set p.workers.snoop w x ∙ c.shaped.workers.snoop;
                    log = c.shaped.workers.log;
                  };
            };
        registers = c.registers;
        last = c.last;
        values = c.values;
        logs = c.logs;
        history = c.history;
        makers = c.makers;
        once = c.once;
        marks = c.marks;
        counts = c.counts;
      }

pub length-held_by : (registers : List RecordNumber) (held : List Bool) → length (held_by registers held) ≡ length held
unfolding held_by
length-held_by [] held = refl
length-held_by (a ∷ registers) held = length-held_by registers (with_record held a.0 true) ∙ length-with_record held a.0 true
