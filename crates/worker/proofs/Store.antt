-- What a store or a post does to known tables, where nothing refuses it.
--     logged_on_lem      "(link, its value) is added to w's log and the mark goes on", where the mark is off
--     room-stands      there is room for the entry
--     link_taken_lem     what store and post do
--     stored, posted     the events
-- Assumes nothing.
use Prim.Native.Nat.{ℕ, ◌+◌, ◌*◌, ◌≤◌, ◌<◌}
use mathlib.Core.Path.{◌≡◌, refl, sym, ap, ◌∙◌, subst}
use mathlib.Core.Bool.{Bool, true, false, cond, not, ◌&&◌}
use mathlib.Core.List.{List, [], ◌∷◌, ◌++◌}
use native.Mathlib.Omega.{arith}
use borrow.Author.Tests.{ne_eqb}
use lib.Dec.{eqb}
use lib.ListN.{length, get_or, set}
use Rattle.rules.specs.declared.Sizes.{Sizes}
use Rattle.rules.specs.declared.RecordNumber.{RecordNumber}
use Rattle.rules.specs.declared.LinkNumber.{LinkNumber}
use Rattle.rules.specs.declared.Event.{Event}
use Rattle.rules.specs.declared.Event.TheVariants.{Store, Post}
use Rattle.rules.specs.declared.Answer.TheVariants.{Stored}
use Rattle.rules.specs.declared.Collector.{Collector}
use Rattle.rules.specs.Size.{links, link_number, board_number}
use Rattle.rules.specs.Pool.{Entry, Pool, with_record, value_at, register_at, snoops_at, log_at, with_held, with_value, with_log}
use Rattle.rules.specs.Worker.{added, logged, snooped, link_takes, stores, posts}
use Rattle.rules.specs.Outcome.{has_worker, has_register, has_link, has_entry, refusals, does, outcome}
use Rattle.laws.proofs.Change.{logged_keeps, stored_has}
use Rattle.laws.proofs.Number.{board_inside}
use Rattle.laws.proofs.Refusals.{has_numbers, numbers_there, entry_there}
use Rattle.soundness.proofs.NoFullLog.{no_log_is_full}
use Rattle.tables.specs.Tables.{Tables, put_held, put_values, put_changed, put_logs, put_lengths}
use Rattle.tables.specs.Bits.{words_of, mark_at, marked, mark_record}
use Rattle.tables.specs.Lie.{is_on, record_number, room, pool_of, tables_of}
use Rattle.tables.specs.Known.{Known}
use Rattle.tables.specs.Event.{event_on}
use Rattle.tables.proofs.RoundTrip.{known_back}
use Rattle.tables.proofs.Stand.{value-stands, changed_stands, register_stands, snoop_stands, log_length}
use Rattle.tables.proofs.Packed.{words_marks, mark_record_lem}
use Rattle.tables.proofs.Written.{value_written, changed_written, log_added}
use Rattle.tables.proofs.Done.{done_on_lem}
use Rattle.worker.specs.Lent.{next_entry, logged_on, held_after, link_taken}
use Rattle.worker.proofs.Refused.{unrefused}
use Rattle.worker.proofs.Events.{register_low, base_stands}

-- ---- an entry more

module _ {s : Sizes} {t : Tables} {c : Collector} (known : Known s t c) where
  abbrev p : Pool
  p = pool_of s t c

  added_on : (w : ℕ) (l : LinkNumber) → w < s.w → l.0 < links s → get_or t.lengths w 0 < links s
      → tables_of s (added w l p)
      ≡ put_changed (marked t.changed l.0 true)
      (put_logs (set (set t.logs (next_entry s w t) l.0) (next_entry s w t + 1) (value_at p l).0) (put_lengths (set t.lengths w (get_or t.lengths w 0 + 1)) t))
  unfolding added
  added_on w l k inside free =
      let e : Entry = record { link = l; old = value_at p l } in
      let n : length (log_at p w) ≡ get_or t.lengths w 0 = log_length s t c known w k in
      let after : Tables → ℕ → Tables =
      (λ u m.
      put_changed (marked u.changed l.0 true)
      (put_logs (set (set u.logs (w * room s + m * 2) l.0) (w * room s + m * 2 + 1) (value_at p l).0) (put_lengths (set u.lengths w (m + 1)) u))) in
      changed_written s (with_log w (log_at p w ++ (e ∷ [])) p) l true (omega (arith, known.tables.sound.shaped.links.changed))
      ∙ ap (λ (u : Tables). put_changed (marked u.changed l.0 true) u) (log_added s p known.tables.sound.shaped.workers w e k (omega (arith, n)))
      ∙ ap (λ (u : Tables). after u (length (log_at p w))) (known_back known)
      ∙ ap (after t) n

  pub logged_on_lem : (w : ℕ) (l : LinkNumber) → w < s.w → l.0 < links s → (mark_at t.changed l.0 ≡ false → get_or t.lengths w 0 < links s)
      → tables_of s (logged w l p) ≡ logged_on s w l (value_at p l) t
  unfolding logged logged_on
  logged_on_lem w l k inside free = by_mark (mark_at t.changed l.0) refl
    where
      more : Tables
      more =
          put_changed (marked t.changed l.0 true)
          (put_logs (set (set t.logs (next_entry s w t) l.0) (next_entry s w t + 1) (value_at p l).0) (put_lengths (set t.lengths w (get_or t.lengths w 0 + 1)) t))

      at_mark : (b : Bool) → mark_at t.changed l.0 ≡ b → tables_of s (logged w l p) ≡ tables_of s (cond (not b) (added w l p) p)
      at_mark b e = ap (λ (x : Bool). tables_of s (cond (not x) (added w l p) p)) (changed_stands s t c l inside ∙ e)

      by_mark : (b : Bool) → mark_at t.changed l.0 ≡ b → tables_of s (logged w l p) ≡ logged_on s w l (value_at p l) t
      by_mark true on = at_mark true on ∙ known_back known ∙ ap (λ (x : Bool). cond x t more) (sym on)
      by_mark false off = at_mark false off ∙ added_on w l k inside (free off) ∙ ap (λ (x : Bool). cond x t more) (sym off)

  -- ---- the event

  logged_values : (w : ℕ) (l : LinkNumber) (old : RecordNumber) → (logged_on s w l old t).values ≡ t.values
  unfolding logged_on
  logged_values w l old = by_mark (mark_at t.changed l.0)
    where
      more : Tables
      more =
          put_changed (marked t.changed l.0 true)
          (put_logs (set (set t.logs (next_entry s w t) l.0) (next_entry s w t + 1) old.0) (put_lengths (set t.lengths w (get_or t.lengths w 0 + 1)) t))

      by_mark : (b : Bool) → (cond b t more).values ≡ t.values
      by_mark true = refl
      by_mark false = refl

  valued_on : (w : ℕ) (l : LinkNumber) (a : RecordNumber) → w < s.w → l.0 < links s → (mark_at t.changed l.0 ≡ false → get_or t.lengths w 0 < links s)
      → tables_of s (with_value l a (logged w l p)) ≡ put_values (set t.values l.0 a.0) (logged_on s w l (value_at p l) t)
  valued_on w l a k inside free =
      value_written s (logged w l p) l a
      ∙ ap (λ (u : Tables). put_values (set u.values l.0 a.0) u) (logged_on_lem w l k inside free)
      ∙ ap (λ (xs : List ℕ). put_values (set xs l.0 a.0) (logged_on s w l (value_at p l) t)) (logged_values w l (value_at p l))

  -- the held marks, where w snoops and where it does not
  held_on : (w : ℕ) (a : RecordNumber) → a.0 ≤ s.n → words_of (cond (snoops_at p w) (with_record p.records.held a.0 true) p.records.held) ≡ held_after w a t.snoops t.held
  unfolding held_after pool_of
  held_on w a low = ap (λ (x : Bool). words_of (cond x (with_record p.records.held a.0 true) p.records.held)) (snoop_stands s t c w) ∙ by_flag (is_on (get_or t.snoops w 0))
    where
      by_flag : (b : Bool) → words_of (cond b (with_record p.records.held a.0 true) p.records.held) ≡ cond b (mark_record t.held a.0 true) t.held
      by_flag true = mark_record_lem s.n t.held a.0 true known.exact.held known.tables.marked.held low
      by_flag false = words_marks s.n t.held known.exact.held known.tables.marked.held

  snooped_on : (w : ℕ) (a : RecordNumber) (q : Pool) → tables_of s (snooped w a q) ≡ put_held (words_of (cond (snoops_at q w) (with_record q.records.held a.0 true) q.records.held)) (tables_of s q)
  unfolding snooped tables_of
  snooped_on w a q = by_flag (snoops_at q w)
    where
      by_flag : (b : Bool) → tables_of s (cond b (with_held (with_record q.records.held a.0 true) q) q) ≡ put_held (words_of (cond b (with_record q.records.held a.0 true) q.records.held)) (tables_of s q)
      by_flag true = refl
      by_flag false = refl

  -- all three together
  store_tables : (w : ℕ) (l : LinkNumber) (a : RecordNumber) → w < s.w → l.0 < links s → a.0 ≤ s.n → (mark_at t.changed l.0 ≡ false → get_or t.lengths w 0 < links s)
      → tables_of s (snooped w a (with_value l a (logged w l p)))
      ≡ put_held (held_after w a t.snoops t.held) (put_values (set t.values l.0 a.0) (logged_on s w l (record_number (get_or t.values l.0 0)) t))
  unfolding added
  store_tables w l a k inside low free =
      let held : (logged w l p).records.held ≡ p.records.held = logged_keeps (λ q. q.records.held) w l p refl in
      let snoop : (logged w l p).workers.snoop ≡ p.workers.snoop = logged_keeps (λ q. q.workers.snoop) w l p refl in
      snooped_on w a (with_value l a (logged w l p))
      ∙ (λ j.
      put_held
      (((λ i. words_of (cond (get_or (snoop i) w false) (with_record (held i) a.0 true) (held i))) ∙ held_on w a low) j)
      ((valued_on w l a k inside free ∙ ap (λ (old : RecordNumber). put_values (set t.values l.0 a.0) (logged_on s w l old t)) (value-stands s t c l)) j))

  store_collector : (w : ℕ) (l : LinkNumber) (r : ℕ) → (link_takes w l r p).pool.collector ≡ c
  unfolding added pool_of
  store_collector w l r = stored_has p w l r (λ x. x.collector ≡ c) (λ on x h. h) (λ off. refl) (λ on. refl)

  -- "a worker's log in a sound pool never has S entries when a store must log" (document 02, request 4), in the tables
  pub room-stands : (w : ℕ) (l : LinkNumber) → w < s.w → l.0 < links s → mark_at t.changed l.0 ≡ false → get_or t.lengths w 0 < links s
  room-stands w l k inside off =
      omega (arith, no_log_is_full known.tables.sound w l inside (ap not (changed_stands s t c l inside ∙ off)), log_length s t c known w k)

  -- the place of a register, and the link of the record that it holds
  abbrev place : ℕ → ℕ → ℕ
  place w r = w * s.r + r

  abbrev pub link_through : ℕ → ℕ → ℕ → LinkNumber
  link_through w q f = link_number s (record_number (get_or t.registers (place w q) 0)) f

  -- a link takes what a register holds
  pub link_taken_lem : (e : Event) (w : ℕ) (l : LinkNumber) (r : ℕ) → outcome s p e ≡ link_takes w l r p → w < s.w → r < s.r → l.0 < links s
      → (old : RecordNumber) (after : Tables) → old ≡ record_number (get_or t.values l.0 0) → after ≡ link_taken s w l r t
      → event_on s t c e ≡ record { answer = Stored old; collector = c; tables = after }
  unfolding link_takes snooped link_taken
  link_taken_lem e w l r done k m inside old after is left =
      done_on_lem known e (link_takes w l r p) _ done
      (ap (λ (a : RecordNumber). tables_of s (snooped w a (with_value l a (logged w l p)))) (register_stands s t c w r k m)
      ∙ store_tables w l (record_number (get_or t.registers (place w r) 0)) k inside (register_low known w r k m) (room-stands w l k inside))
      ∙ (λ j. record { answer = Stored ((value-stands s t c l ∙ sym is) j); collector = store_collector w l r j; tables = sym left j })

  pub stored : (w q f r : ℕ) → has_numbers s w q r f ≡ true
      → (get_or t.registers (place w q) 0 ≡ 0 → ⊥)
      → (l : LinkNumber) → l ≡ link_through w q f → l.0 < links s
      → (old : RecordNumber) (after : Tables) → old ≡ record_number (get_or t.values l.0 0) → after ≡ link_taken s w l r t
      → event_on s t c (Store w q f r) ≡ record { answer = Stored old; collector = c; tables = after }
  unfolding refusals does stores
  stored w q f r here some l same inside =
      let at = numbers_there s w q r f here in
      let base = base_stands known w q r f here in
      let link : link_number s (register_at p w q) f ≡ link_through w q f = ap (λ (a : RecordNumber). link_number s a f) base in
      let unempty : eqb (register_at p w q).0 0 ≡ false = ne_eqb (register_at p w q).0 0 (λ e. some (ap (λ (a : RecordNumber). a.0) (sym base) ∙ e)) in
      link_taken_lem (Store w q f r) w l r
      (unrefused known (Store w q f r) (has_worker s w) (has_register s q && has_register s r) (has_link s f) refl here (unempty, tt) ∙ ap (λ (l : LinkNumber). link_takes w l r p) (link ∙ sym same))
      at.0.worker
      at.1
      inside

  pub posted : (w e r : ℕ) → (has_worker s w && has_register s r && has_entry s e) ≡ true
      → (l : LinkNumber) → l ≡ board_number s e
      → (old : RecordNumber) (after : Tables) → old ≡ record_number (get_or t.values l.0 0) → after ≡ link_taken s w l r t
      → event_on s t c (Post w e r) ≡ record { answer = Stored old; collector = c; tables = after }
  unfolding refusals does posts
  posted w e r here l same =
      let at = entry_there s w r e here in
      link_taken_lem (Post w e r) w l r
      (unrefused known (Post w e r) (has_worker s w) (has_register s r) (has_entry s e) refl here tt ∙ ap (λ (m : LinkNumber). link_takes w m r p) (sym same))
      at.0.worker
      at.0.register
      (subst (λ m. m.0 < links s) (sym same) (board_inside s e at.1))
