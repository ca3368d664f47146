-- "A sound pool" of tables, clause by clause: what `is_sound` tells.
--     marks_tell, packed_tells, zeros_tell     flags of 0 and 1, unused bits 0, and numbers that are 0
--     pool_shaped                every list of the pool that tables of exact lengths mean has its length
--     sound_tells                the whole test
-- Assumes nothing.
use Prim.Native.Nat.{ℕ, suc, ◌^◌, ◌≤◌, ◌<◌, zero-le}
use mathlib.Core.Path.{◌≡◌, refl, sym, ap, ◌∙◌}
use mathlib.Core.Bool.{Bool, true, false, not}
use mathlib.Core.Logic.Iff
use mathlib.Core.List.{List, []}
use native.Mathlib.Omega.{arith}
use lib.ListN.{length, get_or, drop, length-map, get_or-map}
use Rattle.rules.specs.declared.Sizes.{Sizes}
use Rattle.rules.specs.declared.RecordNumber.{RecordNumber}
use Rattle.rules.specs.declared.LinkNumber.{LinkNumber}
use Rattle.rules.specs.declared.Collector.{Collector}
use Rattle.rules.specs.Size.{links}
use Rattle.rules.specs.Pool.{Entry, Pool, none, count_at, maker_at, value_at, changed_at, register_at, registers_at, log_at}
use Rattle.rules.specs.View.{bit, times, all_logs}
use Rattle.rules.specs.Sound.{Each, Shaped, EntryInRange, Sound, positions, empty_in, entries_in, uncleared, outstanding, counts_for, tally}
use Rattle.laws.proofs.Entries.{times_append}
use Rattle.laws.proofs.Lists.{Each-at}
use Rattle.soundness.proofs.Core.{core, sound}
use Rattle.tables.specs.Bits.{bits_of, Packed}
use Rattle.tables.specs.Tables.{Tables}
use Rattle.tables.specs.Lie.{record_number, link_number_of, is_on, record_numbers, cut, pool_of}
use Rattle.tables.specs.Known.{Exact, Marked, Padded, SoundTables}
use Rattle.tables.proofs.Blocks.{length_cut, cut-sized}
use Rattle.tables.proofs.Logs.{length_logs}
use Rattle.tables.proofs.Packed.{length-marks_in}
use Rattle.clauses.specs.IsSound.{every, is_mark, is_packed, is_marked, is_zero, is_padded, is_in_range, is_sound_pool, is_sound}
use Rattle.clauses.proofs.Tests.{Tells, equal_tells, most_tells, less_tells, ◌and◌, ◌also◌, empty_tells, unless_tells, every_tells, below_tells}
use Rattle.clauses.proofs.Places.{everywhere, everywhere_record, every_record}

-- ---- marks and padding

pub marks_tell : (xs : List ℕ) → Tells (every is_mark xs) (Each (λ x. x ≤ 1) xs)
marks_tell = every_tells (λ x. most_tells x 1)

off_tells : (b : Bool) → Tells (not b) (b ≡ false)
off_tells true = (λ h. sym h, λ h. sym h)
off_tells false = (λ h. refl, λ h. refl)

pub packed_tells : (n : ℕ) (words : List ℕ) → Tells (is_packed n words) (Packed n words)
unfolding is_packed
packed_tells n words =
    Iff.trans
    (every_tells (λ x. less_tells x (2 ^ 64)) words and every_tells off_tells (drop n (bits_of words)))
    (λ (low, unused). record { low = low; unused = unused }, λ x. x.low also x.unused)

marked_tells : (s : Sizes) (t : Tables) → Tells (is_marked s t) (Marked s t)
unfolding is_marked
marked_tells s t =
    Iff.trans
    (packed_tells s.n t.used and packed_tells s.n t.held and packed_tells s.n t.candidates and packed_tells (links s) t.changed and marks_tell t.snoops) (
      λ ((((used, held), candidates), changed), snoops). record { used = used; held = held; candidates = candidates; changed = changed; snoops = snoops },
      λ m. m.used also m.held also m.candidates also m.changed also m.snoops,
    )

pub zeros_tell : (xs : List ℕ) → Tells (every is_zero xs) (Each (λ x. x ≡ 0) xs)
zeros_tell = every_tells (λ x. equal_tells x 0)

padded_tells : (s : Sizes) (t : Tables) → Tells (is_padded s t) (Padded s t)
unfolding is_padded
padded_tells s t =
    Iff.trans
    (below_tells s.w (λ w k. zeros_tell _) and zeros_tell _)
    (λ (logs, history). record { logs = logs; history = history }, λ x. x.logs also x.history)

-- ---- the pool

in_range_tells : (s : Sizes) (e : Entry) → Tells (is_in_range s e) (EntryInRange s e)
in_range_tells s e =
    Iff.trans
    (less_tells e.link.0 (links s) and most_tells e.old.0 s.n)
    (λ (link, old). record { link = link; old = old }, λ x. x.link also x.old)

-- what is tested of what there is holds of every number, since elsewhere stands 0
module _ (s : Sizes) (p : Pool) (shaped : Shaped s p) where
  registers_all : ((w : ℕ) → w < s.w → (r : ℕ) → r < s.r → (register_at p w r).0 ≤ s.n) → (w r : ℕ) → (register_at p w r).0 ≤ s.n
  registers_all h =
      everywhere (λ row. (r : ℕ) → (get_or row r none).0 ≤ s.n) [] (λ r. zero-le) p.workers.registers
      (λ w k.
      let here : w < s.w = omega (arith, shaped.workers.registers) in
      everywhere (λ a. a.0 ≤ s.n) none zero-le (registers_at p w) (λ r j. h w here r (omega (arith, shaped.workers.each w here))))

  values_all : ((l : ℕ) → l < links s → (value_at p (link_number_of l)).0 ≤ s.n) → (l : LinkNumber) → (value_at p l).0 ≤ s.n
  values_all h l = everywhere (λ a. a.0 ≤ s.n) none zero-le p.links.value (λ i k. h i (omega (arith, shaped.links.value))) l.0

  makers_all : ((a : ℕ) → a < s.n → maker_at p (record_number (suc a)) ≤ s.w) → (a : RecordNumber) → maker_at p a ≤ s.w
  makers_all h a =
      everywhere_record (λ n. n ≤ s.w) 0 zero-le p.records.maker
      (everywhere (λ n. n ≤ s.w) 0 zero-le p.records.maker (λ i k. h i (omega (arith, shaped.records.maker)))) a.0

  pool_tells : Tells (is_sound_pool s p) (Sound s p)
  unfolding is_sound_pool outstanding counts_for
  pool_tells =
      Iff.trans
      (most_tells p.collector.phase 6
      and less_tells p.collector.position (positions s p)
      and unless_tells (empty_in p.collector.phase) (empty_tells p.history)
      and unless_tells (entries_in p.collector.phase) (less_tells 0 (length p.history))
      and below_tells s.w (λ w _. below_tells s.r (λ r _. most_tells (register_at p w r).0 s.n))
      and most_tells p.last.0 s.n
      and below_tells (links s) (λ l _. most_tells (value_at p (link_number_of l)).0 s.n)
      and every_tells (in_range_tells s) (all_logs p)
      and every_tells (in_range_tells s) p.history
      and below_tells s.n (λ a _. most_tells (maker_at p (record_number (suc a))) s.w)
      and below_tells s.w (λ w _. most_tells (length (log_at p w)) (links s))
      and most_tells (length p.history) (links s)
      and below_tells (links s) (λ l _. most_tells (times (link_number_of l) p.history) 1)
      and below_tells (links s) (λ l _. equal_tells (times (link_number_of l) (outstanding p)) (bit (changed_at p (link_number_of l))))
      and below_tells s.n (λ a _. equal_tells (count_at p (record_number (suc a))) (tally (counts_for p) (links s) (record_number (suc a))))) (
        λ ((((((((((((((phase, position), empty), some), registers), last), values), logs), history), makers), log-lengths), history_length), once), marks), counts).
            sound
            (record {
              shaped = shaped;
              registers = registers_all registers;
              last = last;
              values = values_all values;
              logs = logs;
              history = history;
              makers = makers_all makers;
              once = λ l. once l.0;
              marks = λ l k. sym (times_append l (all_logs p) (uncleared p)) ∙ marks l.0 k;
              counts = every_record (λ a. count_at p a ≡ tally (counts_for p) (links s) a) s.n counts;
            })
            phase
            position
            empty
            some,
        λ h.
            h.phase
            also h.position
            also h.history_empty
            also h.history_entries
            also (λ w _ r _. h.registers w r)
            also h.last
            also (λ l _. h.values (link_number_of l))
            also h.logs
            also h.history
            also (λ a _. h.makers (record_number (suc a)))
            also (λ w _. h.log_length w)
            also h.history_length
            also (λ l. h.once (link_number_of l))
            also (λ l k. times_append (link_number_of l) (all_logs p) (uncleared p) ∙ (core h).marks (link_number_of l) k)
            also (λ a. h.counts (record_number (suc a)) (omega arith)),
      )

-- ---- the tables

module _ {s : Sizes} {t : Tables} (c : Collector) (exact : Exact s t) where
  pub pool_shaped : Shaped s (pool_of s t c)
  unfolding pool_of
  pool_shaped =
      record {
        records =
            record {
              used = length-marks_in s.n t.used exact.used;
              count = exact.counts;
              held = length-marks_in s.n t.held exact.held;
              candidate = length-marks_in s.n t.candidates exact.candidates;
              maker = exact.makers;
            };
        links = record { value = length-map t.values record_number ∙ exact.values; changed = length-marks_in (links s) t.changed exact.changed };
        workers =
            record {
              registers = length-map rows record_numbers ∙ length_cut s.w s.r t.registers;
              each =
                  λ w k.
                  ap length (get_or-map record_numbers rows w [])
                  ∙ length-map (get_or rows w []) record_number
                  ∙ Each-at (λ row. length row ≡ s.r) rows w [] (omega (arith, length_cut s.w s.r t.registers))
                  (cut-sized s.w s.r t.registers (omega (arith, exact.registers)));
              snoop = length-map t.snoops is_on ∙ exact.snoops;
              log = length_logs s t.logs t.lengths exact.lengths;
            };
      }
    where
      rows : List (List ℕ)
      rows = cut s.w s.r t.registers

  pub sound_tells : Tells (is_sound s t c) (SoundTables s t c)
  unfolding is_sound
  sound_tells =
      Iff.trans
      (marked_tells s t and padded_tells s t and pool_tells s (pool_of s t c) pool_shaped)
      (λ ((marked, padded), pool). record { marked = marked; padded = padded; sound = pool }, λ x. x.marked also x.padded also x.sound)
