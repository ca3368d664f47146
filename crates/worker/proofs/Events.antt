-- What make, move, drop, load and look do to known tables, where nothing refuses them.
--     register_takes_lem, register_low     a register takes a record number, and holds one in range
--     chosen_inside       the record that a make takes is one of the pool's
--     Taken, register_taken      what load and look do
--     made, moved, dropped, loaded, looked     the events
-- Assumes nothing.
use Prim.Native.Nat.{ℕ, ◌+◌, ◌-◌, ◌*◌, ◌≤◌, ◌<◌}
use mathlib.Core.Path.{◌≡◌, refl, sym, ap, ◌∙◌}
use mathlib.Core.Bool.{Bool, true, false, ◌&&◌}
use mathlib.Core.List.{List}
use native.Mathlib.Omega.{arith}
use borrow.Author.Tests.{ne_eqb}
use lib.Dec.{eqb}
use lib.ListN.{get_or, set}
use Rattle.rules.specs.declared.Sizes.{Sizes}
use Rattle.rules.specs.declared.RecordNumber.{RecordNumber}
use Rattle.rules.specs.declared.LinkNumber.{LinkNumber}
use Rattle.rules.specs.declared.Event.{Event}
use Rattle.rules.specs.declared.Event.TheVariants.{Make, Move, Drop, Load, Look}
use Rattle.rules.specs.declared.Answer.TheVariants.{Made, Moved, Dropped, Loaded}
use Rattle.rules.specs.declared.Collector.{Collector}
use Rattle.rules.specs.Size.{link_number, board_number}
use Rattle.rules.specs.Pool.{Pool, none, with_record, value_at, register_at, with_used, with_maker, with_last, with_register}
use Rattle.rules.specs.Worker.{chosen, makes, moves, drops, register_takes, loads, looks}
use Rattle.rules.specs.Outcome.{has_worker, has_register, has_link, has_entry, none_free, refusals, does, outcome}
use Rattle.laws.proofs.Chosen.{chosen-low}
use Rattle.laws.proofs.Refusals.{register_there, registers_there, has_numbers, numbers_there, entry_there}
use Rattle.tables.specs.Tables.{Tables, put_used, put_makers, put_registers}
use Rattle.tables.specs.Bits.{marks_in, words_of, marked}
use Rattle.tables.specs.Lie.{record_number, pool_of, tables_of}
use Rattle.tables.specs.Known.{Known}
use Rattle.tables.specs.Event.{event_on}
use Rattle.tables.proofs.RoundTrip.{known_back}
use Rattle.tables.proofs.Stand.{value-stands, register_stands}
use Rattle.tables.proofs.Packed.{length-marks_in, mark_record_lem, mark_place}
use Rattle.tables.proofs.Written.{number-set, register_written, last_written}
use Rattle.tables.proofs.Done.{done_on_lem}
use Rattle.worker.proofs.Refused.{unrefused}

module _ {s : Sizes} {t : Tables} {c : Collector} (known : Known s t c) where
  abbrev p : Pool
  p = pool_of s t c

  -- the place of a register
  abbrev place : ℕ → ℕ → ℕ
  place w r = w * s.r + r

  pub register_takes_lem : (w r : ℕ) (x : RecordNumber) → w < s.w → r < s.r → tables_of s (with_register w r x p) ≡ put_registers (set t.registers (place w r) x.0) t
  register_takes_lem w r x k l =
      register_written s p known.tables.sound.shaped.workers w r x k l
      ∙ ap (λ (u : Tables). put_registers (set u.registers (place w r) x.0) u) (known_back known)

  -- "record numbers in registers .. 0..N"
  pub register_low : (w r : ℕ) → w < s.w → r < s.r → get_or t.registers (place w r) 0 ≤ s.n
  register_low w r k l = omega (arith, known.tables.sound.registers w r, ap (λ (a : RecordNumber). a.0) (register_stands s t c w r k l))

  pub dropped : (w r : ℕ) → (has_worker s w && has_register s r) ≡ true
      → event_on s t c (Drop w r) ≡ record { answer = Dropped; collector = c; tables = put_registers (set t.registers (place w r) 0) t }
  unfolding refusals does drops pool_of
  dropped w r here =
      let at = register_there s w r here in
      done_on_lem known (Drop w r) (drops w r p) _ (unrefused known (Drop w r) (has_worker s w) (has_register s r) true refl (ap (λ (b : Bool). b && true) here) tt) (register_takes_lem w r none at.worker at.register)

  pub moved : (w r q : ℕ) → (has_worker s w && (has_register s r && has_register s q)) ≡ true
      → let a : ℕ = get_or t.registers (place w q) 0 in
      event_on s t c (Move w r q) ≡ record { answer = Moved (record_number a); collector = c; tables = put_registers (set t.registers (place w r) a) t }
  unfolding refusals does moves pool_of
  moved w r q here =
      let at = registers_there s w r q here in
      done_on_lem known (Move w r q) (moves w r q p) _ (unrefused known (Move w r q) (has_worker s w) (has_register s r && has_register s q) true refl (ap (λ (b : Bool). b && true) here) tt)
      (register_takes_lem w r (register_at p w q) at.0.worker at.0.register)
      ∙ (λ j.
      let a : RecordNumber = register_stands s t c w q at.0.worker at.1 j in
      record { answer = Moved a; collector = c; tables = put_registers (set t.registers (place w r) a.0) t })

  -- the marks and the number that a make's search goes by
  pub marks_stand : p.records.used ≡ marks_in s.n t.used
  unfolding pool_of
  marks_stand = refl

  pub last_stands : (i : ℕ) → i ≡ s.w * s.r → p.last.0 ≡ get_or t.registers i 0
  unfolding pool_of
  last_stands i e = ap (λ (j : ℕ). get_or t.registers j 0) (sym e)

  pub last_low : (i : ℕ) → i ≡ s.w * s.r → get_or t.registers i 0 ≤ s.n
  last_low i e = omega (arith, last_stands i e, known.tables.sound.last)

  pub chosen_inside : (chosen p).0 ≤ s.n
  unfolding pool_of
  chosen_inside = omega (arith, chosen-low p, length-marks_in s.n t.used known.exact.used)

  pub made : (w r : ℕ) → (has_worker s w && has_register s r) ≡ true → 1 ≤ (chosen p).0
      → let a : ℕ = (chosen p).0 in
      event_on s t c (Make w r)
      ≡ record {
        answer = Made (chosen p);
        collector = c;
        tables = put_registers (set (set t.registers (s.w * s.r) a) (place w r) a) (put_makers (set t.makers (a - 1) (w + 1)) (put_used (marked t.used (a - 1) true) t));
      }
  unfolding refusals none_free does makes pool_of tables_of
  made w r here some =
      let at = register_there s w r here in
      let a : ℕ = (chosen p).0 in
      let used : List Bool = with_record p.records.used a true in
      let makers : List ℕ = with_record p.records.maker a (w + 1) in
      let q : Pool = with_maker makers (with_used used p) in
      let shaped = known.tables.sound.shaped.workers in
      done_on_lem known (Make w r) (makes w r p) _
      (unrefused known (Make w r) (has_worker s w) (has_register s r) true refl (ap (λ (b : Bool). b && true) here) (ne_eqb a 0 (λ e. omega arith), tt))
      (register_written s (with_last (chosen p) q) shaped w r (chosen p) at.worker at.register
      ∙ ap (λ (u : Tables). put_registers (set u.registers (place w r) a) u) (last_written s q shaped (chosen p))
      ∙ ap
      (λ (u : Tables). put_registers (set (set u.registers (s.w * s.r) a) (place w r) a) (put_makers makers (put_used (words_of used) u)))
      (known_back known)
      ∙ (λ j.
      put_registers (set (set t.registers (s.w * s.r) a) (place w r) a)
      (put_makers (number-set t.makers a (w + 1) some j) (put_used ((mark_record_lem s.n t.used a true known.exact.used known.tables.marked.used chosen_inside ∙ sym (mark_place t.used a (a - 1) true some refl)) j) t))))

  -- what register_takes answers and leaves, of a link
  abbrev pub Taken : (w r : ℕ) → LinkNumber → RecordNumber → List ℕ → Type 0
  Taken w r l a registers = (a ≡ record_number (get_or t.values l.0 0)) × (registers ≡ set t.registers (place w r) (get_or t.values l.0 0))

  -- a register takes what a link holds
  register_taken : (e : Event) (w r : ℕ) (l m : LinkNumber) → outcome s p e ≡ register_takes w r m p → l ≡ m → w < s.w → r < s.r
      → (a : RecordNumber) (registers : List ℕ) → Taken w r l a registers
      → event_on s t c e ≡ record { answer = Loaded a; collector = c; tables = put_registers registers t }
  unfolding register_takes pool_of
  register_taken e w r l m done same k i a registers takes =
      done_on_lem known e (register_takes w r m p) _ done (register_takes_lem w r (value_at p m) k i)
      ∙ (λ j. let x : RecordNumber = value-stands s t c m j in record { answer = Loaded x; collector = c; tables = put_registers (set t.registers (place w r) x.0) t })
      ∙ (λ j.
      let x : ℕ = get_or t.values (sym same j).0 0 in
      record { answer = Loaded (record_number x); collector = c; tables = put_registers (set t.registers (place w r) x) t })
      ∙ (λ j. record { answer = Loaded (sym takes.0 j); collector = c; tables = put_registers (sym takes.1 j) t })

  -- the link of the record in a register
  abbrev link_of : ℕ → ℕ → ℕ → LinkNumber
  link_of w q f = link_number s (record_number (get_or t.registers (place w q) 0)) f

  -- the record in a register that is there
  pub base_stands : (w q r f : ℕ) → has_numbers s w q r f ≡ true → register_at p w q ≡ record_number (get_or t.registers (place w q) 0)
  base_stands w q r f here = let there = numbers_there s w q r f here in register_stands s t c w q there.0.worker there.0.register

  pub loaded : (w r q f : ℕ) → has_numbers s w q r f ≡ true
      → (get_or t.registers (place w q) 0 ≡ 0 → ⊥)
      → (l : LinkNumber) → l ≡ link_of w q f → (a : RecordNumber) (registers : List ℕ) → Taken w r l a registers
      → event_on s t c (Load w r q f) ≡ record { answer = Loaded a; collector = c; tables = put_registers registers t }
  unfolding refusals does loads
  loaded w r q f here some l same =
      let base = base_stands w q r f here in
      let unempty : eqb (register_at p w q).0 0 ≡ false = ne_eqb (register_at p w q).0 0 (λ e. some (ap (λ (a : RecordNumber). a.0) (sym base) ∙ e)) in
      let at = numbers_there s w q r f here in
      register_taken (Load w r q f) w r l (link_of w q f)
      (unrefused known (Load w r q f) (has_worker s w) (has_register s q && has_register s r) (has_link s f) refl here (unempty, tt)
      ∙ ap (λ (a : RecordNumber). register_takes w r (link_number s a f) p) base)
      same
      at.0.worker
      at.1

  pub looked : (w r e : ℕ) → (has_worker s w && has_register s r && has_entry s e) ≡ true
      → (l : LinkNumber) → l ≡ board_number s e → (a : RecordNumber) (registers : List ℕ) → Taken w r l a registers
      → event_on s t c (Look w r e) ≡ record { answer = Loaded a; collector = c; tables = put_registers registers t }
  unfolding refusals does looks
  looked w r e here l same =
      let at = entry_there s w r e here in
      register_taken (Look w r e) w r l (board_number s e) (unrefused known (Look w r e) (has_worker s w) (has_register s r) (has_entry s e) refl here tt) same at.0.worker at.0.register
