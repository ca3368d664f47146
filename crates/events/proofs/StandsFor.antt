-- "Prove that a packed pool with unused bits 0 and the old one it stands for give equal answers and stand for equal tables after any event, once over the kinds of
-- mark" (document 02, request 9): of tables in which a sound pool lies. The call on any tables is in `pool`, many events in `many`, whole traces in `trace`.
--     same_length      one kind of mark has its length, as its numbers have
--     same_pool        the packed tables and the old ones mean one pool
--     same_tables, tables_packed     the tables of a pool, packed, stand for its old ones, and their unused bits are 0
--     event_same       an event
-- A kind of mark is its number of marks and its words, and what is asked of one is proved once: packed marks are as many as their number says, and read and packed
-- again they are the same. Assumes nothing.
use Prim.Native.Nat.{ℕ}
use mathlib.Core.Path.{◌≡◌, sym, ap, ◌∙◌}
use mathlib.Core.Bool.{Bool}
use mathlib.Core.List.{List}
use borrow.Author.Tests.{eq-eqb}
use lib.Dec.{eqb}
use lib.ListN.{length, length-map}
use Rattle.rules.specs.declared.Sizes.{Sizes}
use Rattle.rules.specs.declared.Event.{Event}
use Rattle.rules.specs.declared.Collector.{Collector}
use Rattle.rules.specs.Size.{links}
use Rattle.rules.specs.Pool.{Pool}
use Rattle.rules.specs.View.{bit}
use Rattle.rules.specs.Reply.{Outcome}
use Rattle.rules.specs.Outcome.{outcome}
use Rattle.rules.specs.Sound.{Sound}
use Rattle.soundness.proofs.Kept.{event_keeps_sound}
use Rattle.tables.specs.Bits.{word_count, marks_in, words_of}
use Rattle.tables.specs.Tables.{Tables, put_used, put_held, put_candidates, put_changed}
use Rattle.tables.specs.Lie.{bits, pool_of, tables_of}
use Rattle.tables.specs.Known.{Known}
use Rattle.tables.specs.Event.{written, event_on}
use Rattle.tables.proofs.Packed.{length-words_of, packed_words, marks_words, length-marks_in}
use Rattle.tables.proofs.Marks.{marks-bits}
use Rattle.events.specs.Old.{old_pool_of, old_tables_of, old_written, old_event_on, stands_for, old_form, PackedIn, PackedWords}

-- ---- one kind of mark

pub same_length : {n : ℕ} {words : List ℕ} → PackedIn n words → (m : ℕ) → m ≡ n → eqb (length (bits (marks_in n words))) m ≡ eqb (length words) (word_count m)
same_length {n} {words} h m same =
    eq-eqb (length (bits (marks_in n words))) m (length-map (marks_in n words) bit ∙ length-marks_in n words h.exact ∙ sym same)
    ∙ sym (eq-eqb (length words) (word_count m) (h.exact ∙ ap (λ (k : ℕ). word_count k) (sym same)))

same_marks : (n : ℕ) (on : List Bool) → length on ≡ n → bits (marks_in n (words_of on)) ≡ bits on
same_marks n on h = ap bits (marks_words n on h)

packed_in : (n : ℕ) (on : List Bool) → length on ≡ n → PackedIn n (words_of on)
packed_in n on h = record { exact = length-words_of n on h; packed = packed_words n on h }

-- ---- the pool and the tables

pub same_pool : (s : Sizes) (t : Tables) (c : Collector) → old_pool_of s (stands_for s t) c ≡ pool_of s t c
unfolding old_pool_of stands_for pool_of
same_pool s t c =
    λ j.
    record {
      records =
          record {
            used = marks-bits (marks_in s.n t.used) j;
            count = t.counts;
            held = marks-bits (marks_in s.n t.held) j;
            candidate = marks-bits (marks_in s.n t.candidates) j;
            maker = t.makers;
          };
      links = record { value = (pool_of s t c).links.value; changed = marks-bits (marks_in (links s) t.changed) j };
      workers = (pool_of s t c).workers;
      last = (pool_of s t c).last;
      history = (pool_of s t c).history;
      collector = c;
    }

module _ (s : Sizes) (p : Pool) (sound : Sound s p) where
  pub same_tables : stands_for s (tables_of s p) ≡ old_tables_of s p
  unfolding stands_for old_tables_of tables_of
  same_tables =
      let records = sound.shaped.records in
      λ j.
      put_used (same_marks s.n p.records.used records.used j)
      (put_held (same_marks s.n p.records.held records.held j)
      (put_candidates (same_marks s.n p.records.candidate records.candidate j)
      (put_changed (same_marks (links s) p.links.changed sound.shaped.links.changed j) (tables_of s p))))

  pub tables_packed : PackedWords s (tables_of s p)
  unfolding tables_of
  tables_packed =
      let records = sound.shaped.records in
      record {
        used = packed_in s.n p.records.used records.used;
        held = packed_in s.n p.records.held records.held;
        candidates = packed_in s.n p.records.candidate records.candidate;
        changed = packed_in (links s) p.links.changed sound.shaped.links.changed;
      }

-- ---- an event

module _ {s : Sizes} {t : Tables} {c : Collector} (known : Known s t c) (e : Event) where
  after_sound : Sound s (outcome s (pool_of s t c) e).pool
  after_sound = event_keeps_sound s known.sizes (pool_of s t c) known.tables.sound e

  pub event_same : old_event_on s (stands_for s t) c e ≡ old_form s (event_on s t c e)
  unfolding old_event_on old_written event_on written
  event_same =
      let o : Outcome = outcome s (pool_of s t c) e in
      ap (λ (p : Pool). old_written s (outcome s p e)) (same_pool s t c)
      ∙ (λ j. record { answer = o.answer; collector = o.pool.collector; tables = sym (same_tables s o.pool after_sound) j })

  pub event_packed : PackedWords s (event_on s t c e).tables
  unfolding event_on written
  event_packed = tables_packed s (outcome s (pool_of s t c) e).pool after_sound
