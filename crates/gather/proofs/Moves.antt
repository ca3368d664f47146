-- A step on known tables, from what it does to the pool.
--     called                     what a call that answers so leaves
--     Onward, onward-answers     how a step moves the collector's record on
--     opens_on                   phase 0
--     moves_on                   a phase that has positions
--     flag_written, snoops_on_lem, clears_on_lem, scans_on_lem     phases 1, 3 and 4
-- Assumes nothing.
use Prim.Native.Nat.{ℕ, ◌*◌, ◌≤◌}
use mathlib.Core.Path.{◌≡◌, refl, sym, ap, ◌∙◌}
use mathlib.Core.Logic.{inl}
use mathlib.Core.Bool.{Bool, true, false}
use mathlib.Core.List.{List}
use native.Mathlib.Omega.{arith}
use lib.ListN.{length, get_or, take, drop, set}
use Rattle.rules.specs.declared.Sizes.{Sizes}
use Rattle.rules.specs.declared.RecordNumber.{RecordNumber}
use Rattle.rules.specs.declared.LinkNumber.{LinkNumber}
use Rattle.rules.specs.declared.Collector.{Collector}
use Rattle.rules.specs.declared.Answered.{Answered}
use Rattle.rules.specs.declared.Event.TheVariants.{Collect}
use Rattle.rules.specs.declared.Answer.TheVariants.{Stepped}
use Rattle.rules.specs.Pool.{Entry, Pool, registers_at, with_held, with_changed, with_snoop}
use Rattle.rules.specs.View.{bit}
use Rattle.rules.specs.Collect.{entry_here, advanced, onward, stepped, opens, snoops, clears, held_by, scans, phases}
use Rattle.tables.specs.Tables.{Tables, put_held, put_changed, put_snoops}
use Rattle.tables.specs.Bits.{words_of, marked}
use Rattle.tables.specs.Lie.{pool_of, tables_of}
use Rattle.tables.specs.Known.{Known}
use Rattle.tables.specs.Event.{Called, written, event_on}
use Rattle.tables.proofs.RoundTrip.{known_back}
use Rattle.tables.proofs.Stand.{row-stands, history_length}
use Rattle.tables.proofs.Packed.{words_marks}
use Rattle.tables.proofs.Written.{changed_written, snoop_written}
use Rattle.tables.proofs.Done.{collect_is, moved_on_lem}
use Rattle.advance.specs.Moved.{MovesTo}
use Rattle.advance.proofs.Moved.{others_move}
use Rattle.gather.specs.Raw.{held_in}
use Rattle.gather.proofs.Held.{held_marks}
use Rattle.gather.proofs.Here.{position_known, entry_known, row_known}

abbrev pub called : Answered → Tables → Called
called x after = record { answer = x.answer; collector = x.collector; tables = after }

-- ---- moving on

-- the answer of a step that moves on past one of n positions, whatever history of so many entries there is
abbrev pub Onward : (n entries : ℕ) → Collector → Answered → Type 0
Onward n entries c x = (history : List Entry) → length history ≡ entries → x ≡ record { answer = Stepped; collector = advanced n history c }

-- from what `advance::stepped` and `advance::onward` ensure
pub onward-answers : (n : ℕ) (c : Collector) {entries same : ℕ} {next : Collector} {x : Answered} → c.phase ≤ 5
    → x ≡ record { answer = Stepped; collector = next }
    → MovesTo n same c next
    → same ≡ entries
    → Onward n entries c x
onward-answers n c below answered moved e history h =
    answered ∙ ap (λ next. record { answer = Stepped; collector = next }) (moved history (h ∙ sym e) ∙ others_move n history c (λ closing. omega arith))

-- ---- the steps

pub opens_on : {s : Sizes} {t : Tables} {c : Collector} → Known s t c → c.phase ≡ 0
    → event_on s t c Collect ≡ record { answer = Stepped; collector = record { phase = 1; position = 0; closed = c.closed }; tables = t }
unfolding phases opens written pool_of tables_of
opens_on {s} {t} {c} known e =
    collect_is s t c 0 e
    ∙ (λ j. record { answer = Stepped; collector = record { phase = 1; position = 0; closed = c.closed }; tables = known_back known j })

pub moves_on : (s : Sizes) (t : Tables) (c : Collector) (n : ℕ) (q : Pool) {k entries : ℕ} {after : Tables} {x : Answered}
    → c.phase ≡ k
    → get_or phases k (λ s p. stepped p) s (pool_of s t c) ≡ stepped (onward n q)
    → tables_of s q ≡ after
    → length q.history ≡ entries
    → Onward n entries q.collector x
    → event_on s t c Collect ≡ called x after
moves_on s t c n q {k} {entries} {after} e step tables h moved =
    collect_is s t c k e ∙ ap (written s) step ∙ moved_on_lem s n q after tables ∙ ap (λ x. called x after) (sym (moved q.history h))

module _ {s : Sizes} {t : Tables} {c : Collector} (known : Known s t c) where
  abbrev p : Pool
  p = pool_of s t c

  -- the flag of the worker at the position
  flag_written : (b : Bool) {flags : List ℕ} → flags ≡ set t.snoops c.position (bit b) → tables_of s (with_snoop c.position b p) ≡ put_snoops flags t
  flag_written b same =
      snoop_written s p c.position b
      ∙ ap (λ (u : Tables). put_snoops (set u.snoops c.position (bit b)) u) (known_back known)
      ∙ ap (λ (flags : List ℕ). put_snoops flags t) (sym same)

  pub snoops_on_lem : {x : Answered} {flags : List ℕ} → c.phase ≡ 1
      → flags ≡ set t.snoops c.position 1
      → Onward s.w (get_or t.lengths s.w 0) c x
      → event_on s t c Collect ≡ called x (put_snoops flags t)
  unfolding phases snoops pool_of
  snoops_on_lem e flags moved = moves_on s t c s.w (with_snoop c.position true p) e refl (flag_written true flags) (history_length s t c) moved

  pub clears_on_lem : {x : Answered} {marks : List ℕ} → c.phase ≡ 3
      → marks ≡ marked t.changed (get_or t.history (c.position * 2) 0) false
      → Onward (get_or t.lengths s.w 0) (get_or t.lengths s.w 0) c x
      → event_on s t c Collect ≡ called x (put_changed marks t)
  unfolding phases clears pool_of
  clears_on_lem e same moved =
      let l : LinkNumber = (entry_here p).link in
      moves_on s t c (length p.history) (with_changed l false p) e refl
      (changed_written s p l false (omega (arith, (entry_known known (inl e)).1.link, ap (λ (x : Entry). x.link.0) (entry_known known (inl e)).0, known.tables.sound.shaped.links.changed))
      ∙ ap (λ (u : Tables). put_changed (marked u.changed l.0 false) u) (known_back known)
      ∙ ap (λ (marks : List ℕ). put_changed marks t) (ap (λ (x : Entry). marked t.changed x.link.0 false) (entry_known known (inl e)).0 ∙ sym same))
      (history_length s t c)
      (rw (history_length s t c) moved)

  pub scans_on_lem : {x : Answered} {flags marks : List ℕ} → c.phase ≡ 4
      → flags ≡ set t.snoops c.position 0
      → marks ≡ held_in (take s.r (drop (c.position * s.r) t.registers)) t.held
      → Onward s.w (get_or t.lengths s.w 0) c x
      → event_on s t c Collect ≡ called x (put_held marks (put_snoops flags t))
  unfolding phases scans pool_of tables_of
  scans_on_lem e flags same moved =
      let w : ℕ = c.position in
      moves_on s t c s.w (with_held (held_by (registers_at p w) p.records.held) (with_snoop w false p)) e refl
      (λ j.
      put_held
      ((ap (λ (names : List RecordNumber). words_of (held_by names p.records.held)) (row-stands s t c w (position_known known 4 e))
      ∙ held_marks s.n (take s.r (drop (w * s.r) t.registers)) p.records.held known.tables.sound.shaped.records.held (row_known known e)
      ∙ ap (held_in (take s.r (drop (w * s.r) t.registers))) (words_marks s.n t.held known.exact.held known.tables.marked.held)
      ∙ sym same) j)
      (flag_written false flags j))
      (history_length s t c)
      moved
