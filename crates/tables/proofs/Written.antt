-- One thing of a pool changed, and the tables of the pool after it.
--     number-set                            what is written for a record, in a table of numbers
--     register_written, last_written        a register takes a record number; the last made number is another
--     value_written, changed_written, snoop_written     a link's value, its mark, a worker's flag
--     falls-written               a count falls
--     log_added                   a log gets an entry more
-- Assumes nothing.
use Prim.Native.Nat.{ℕ, zero, suc, ◌+◌, ◌-◌, ◌*◌, ◌≤◌, ◌<◌}
use mathlib.Core.Path.{◌≡◌, refl, sym, ap, ◌∙◌}
use mathlib.Core.Bool.{Bool, true, false, cond}
use mathlib.Core.List.{List, [], ◌∷◌, ◌++◌, map, flatten}
use native.Mathlib.Omega.{arith}
use native.Mathlib.Nat.{not-suc-le-zero}
use lib.Dec.{eqb}
use lib.ListN.{length, get_or, set, length-append, length-map, length-set}
use lib.Seq.{set-append_left, set-set, get_or-set_same}
use Rattle.rules.specs.declared.Sizes.{Sizes}
use Rattle.rules.specs.declared.RecordNumber.{RecordNumber}
use Rattle.rules.specs.declared.LinkNumber.{LinkNumber}
use Rattle.rules.specs.Size.{links}
use Rattle.rules.specs.Pool.{Entry, Pool, with_record, count_at, registers_at, log_at, with_value, with_changed, with_register, with_last, with_snoop, with_log}
use Rattle.rules.specs.View.{bit}
use Rattle.rules.specs.Collect.{falls}
use Rattle.rules.specs.Sound.{ShapedWorkers}
use Rattle.tables.specs.Tables.{Tables, put_counts, put_candidates, put_values, put_changed, put_registers, put_snoops, put_logs, put_lengths}
use Rattle.tables.specs.Bits.{words_of, marked, mark_record}
use Rattle.tables.specs.Lie.{numbers, laid, room, tables_of}
use Rattle.tables.specs.Counted.{fewer, fallen}
use Rattle.tables.proofs.Blocks.{Sized, set_append_add, joined_set}
use Rattle.tables.proofs.Entered.{laid-added}
use Rattle.tables.proofs.Packed.{marked-written, record_written}
use Rattle.tables.proofs.RoundTrip.{rows_sized, sized_rows, length_rows, sized_logs}
use Rattle.laws.proofs.Number.{block_inside}
use Rattle.laws.proofs.Lists.{Each-at, Each-set, map-set, map_at}

-- ---- for one record

pub number-set : (xs : List ℕ) (i x : ℕ) → 1 ≤ i → with_record xs i x ≡ set xs (i - 1) x
number-set xs zero x h = absurd (not-suc-le-zero h)
number-set xs (suc i) x h = ap (λ (k : ℕ). set xs k x) (let e : i ≡ suc i - 1 = omega arith in e)

-- ---- one thing of a pool

module _ (s : Sizes) (p : Pool) where
  pub value_written : (l : LinkNumber) (x : RecordNumber) → tables_of s (with_value l x p) ≡ put_values (set (tables_of s p).values l.0 x.0) (tables_of s p)
  unfolding tables_of
  value_written l x = ap (λ (table : List ℕ). put_values table (tables_of s p)) (map-set (λ a. a.0) p.links.value l.0 x)

  pub changed_written : (l : LinkNumber) (b : Bool) → l.0 < length p.links.changed → tables_of s (with_changed l b p) ≡ put_changed (marked (tables_of s p).changed l.0 b) (tables_of s p)
  unfolding tables_of
  changed_written l b h = ap (λ (table : List ℕ). put_changed table (tables_of s p)) (marked-written p.links.changed l.0 b h)

  pub snoop_written : (w : ℕ) (b : Bool) → tables_of s (with_snoop w b p) ≡ put_snoops (set (tables_of s p).snoops w (bit b)) (tables_of s p)
  unfolding tables_of
  snoop_written w b = ap (λ (table : List ℕ). put_snoops table (tables_of s p)) (map-set bit p.workers.snoop w b)

  -- "the count .. falls by 1, and at 0 it becomes a candidate"
  pub falls-written : (a : RecordNumber) → a.0 ≤ length p.records.candidate → let t : Tables = tables_of s p in
      tables_of s (falls a p) ≡ put_counts (fewer a.0 t.counts) (put_candidates (fallen a.0 t.counts t.candidates) t)
  unfolding tables_of falls fewer fallen
  falls-written a h =
      ap (λ (candidates : List ℕ). put_counts (fewer a.0 p.records.count) (put_candidates candidates (tables_of s p))) (by_zero (eqb (count_at p a - 1) 0))
    where
      candidates : List Bool
      candidates = p.records.candidate

      by_zero : (b : Bool) → words_of (cond b (with_record candidates a.0 true) candidates) ≡ cond b (mark_record (words_of candidates) a.0 true) (words_of candidates)
      by_zero true = record_written candidates a.0 true h
      by_zero false = refl

-- ---- one thing of a worker, where every list has its length

module _ (s : Sizes) (p : Pool) (shaped : ShapedWorkers s p.workers) where
  pub register_written : (w r : ℕ) (x : RecordNumber) → w < s.w → r < s.r
      → tables_of s (with_register w r x p) ≡ put_registers (set (tables_of s p).registers (w * s.r + r) x.0) (tables_of s p)
  unfolding tables_of
  register_written w r x k l =
      let rows = p.workers.registers in
      let inside : w < length rows = omega (arith, shaped.registers) in
      ap (λ (table : List ℕ). put_registers table (tables_of s p))
      (ap (λ (table : List ℕ). table ++ (p.last.0 ∷ []))
      (ap flatten
      (map-set numbers rows w (set (registers_at p w) r x)
      ∙ ap (set (map numbers rows) w) (map-set (λ a. a.0) (registers_at p w) r x ∙ ap (λ (row : List ℕ). set row r x.0) (sym (map_at numbers rows w [] [] inside))))
      ∙ joined_set s.r (map numbers rows) w r x.0
      (sized_rows s.r rows (rows_sized s p.workers shaped))
      (omega (arith, length-map rows numbers))
      l)
      ∙ sym (set-append_left (flatten (map numbers rows)) (p.last.0 ∷ []) (w * s.r + r) x.0 (omega (arith, length_rows s p.workers shaped, block_inside w s.w s.r r k l))))

  pub last_written : (x : RecordNumber) → tables_of s (with_last x p) ≡ put_registers (set (tables_of s p).registers (s.w * s.r) x.0) (tables_of s p)
  unfolding tables_of
  last_written x =
      let rows : List ℕ = flatten (map numbers p.workers.registers) in
      let place : length rows + 0 ≡ s.w * s.r = omega (arith, length_rows s p.workers shaped) in
      ap (λ (table : List ℕ). put_registers table (tables_of s p))
      (sym (set_append_add rows (p.last.0 ∷ []) 0 x.0) ∙ ap (λ (i : ℕ). set (rows ++ (p.last.0 ∷ [])) i x.0) place)

  -- ---- the logs

  rooms : List (List ℕ)
  rooms = map (laid (links s)) p.workers.log

  rooms_sized : Sized (room s) rooms
  unfolding rooms
  rooms_sized = sized_logs (links s) p.workers.log

  -- two numbers of one room are written
  rooms_set_twice : (w i j x y : ℕ) → w < length rooms → i < room s → j < room s
      → flatten (set rooms w (set (set (get_or rooms w []) i x) j y)) ≡ set (set (flatten rooms) (w * room s + i) x) (w * room s + j) y
  rooms_set_twice w i j x y inside k l =
      let b = get_or rooms w [] in
      let once = set rooms w (set b i x) in
      let there : get_or once w [] ≡ set b i x = get_or-set_same rooms w (set b i x) [] inside in
      sym (ap flatten (ap (λ (r : List ℕ). set once w (set r j y)) there ∙ set-set rooms w (set b i x) (set (set b i x) j y)))
      ∙ joined_set (room s) once w j y
      (Each-set (λ r. length r ≡ room s) rooms w (set b i x) rooms_sized
      (length-set b i x ∙ Each-at (λ r. length r ≡ room s) rooms w [] inside rooms_sized))
      (omega (arith, length-set rooms w (set b i x)))
      l
      ∙ ap (λ (table : List ℕ). set table (w * room s + j) y) (joined_set (room s) rooms w i x rooms_sized inside k)

  pub log_added : (w : ℕ) (e : Entry) → w < s.w → length (log_at p w) < links s
      → let n : ℕ = length (log_at p w) in
      let place : ℕ = w * room s + n * 2 in
      tables_of s (with_log w (log_at p w ++ (e ∷ [])) p)
      ≡ put_logs (set (set (tables_of s p).logs place e.link.0) (place + 1) e.old.0) (put_lengths (set (tables_of s p).lengths w (n + 1)) (tables_of s p))
  unfolding tables_of rooms
  log_added w e k free =
      let logs = p.workers.log in
      let n : ℕ = length (log_at p w) in
      let inside : w < length logs = omega (arith, shaped.log) in
      let inside_rooms : w < length rooms = omega (arith, length-map logs (laid (links s))) in
      let at : n * 2 < room s = omega arith in
      let next : n * 2 + 1 < room s = omega arith in
      λ j.
      put_logs
      ((ap flatten
      (map-set (laid (links s)) logs w (log_at p w ++ (e ∷ []))
      ∙ ap (set rooms w)
      (laid-added (links s) (log_at p w) e free
      ∙ ap (λ (b : List ℕ). set (set b (n * 2) e.link.0) (n * 2 + 1) e.old.0) (sym (map_at (laid (links s)) logs w [] [] inside))))
      ∙ rooms_set_twice w (n * 2) (n * 2 + 1) e.link.0 e.old.0 inside_rooms at next
      ∙ ap (λ (i : ℕ). set (set (flatten rooms) (w * room s + n * 2) e.link.0) i e.old.0) (let q : w * room s + (n * 2 + 1) ≡ w * room s + n * 2 + 1 = omega arith in q)) j)
      (put_lengths
      ((ap (λ (ns : List ℕ). ns ++ (length p.history ∷ []))
      (map-set length logs w (log_at p w ++ (e ∷ [])) ∙ ap (set (map length logs) w) (length-append (log_at p w) (e ∷ [])))
      ∙ sym (set-append_left (map length logs) (length p.history ∷ []) w (n + 1) (omega (arith, length-map logs length)))) j)
      (tables_of s p))
