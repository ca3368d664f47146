-- The tables of a pool and the pool of tables undo each other.
--     pool_of_tables      a pool with lists of their lengths, written out and read again, is the pool
--     tables_of_pool      tables of their lengths, with unused bits 0 and flags of 0 and 1, lists in their room and 0 past them, read and written out again, are the tables
--     last_apart          the last of n + 1 numbers
--     known_back          tables that are known are the tables of the pool that they mean
--     sound_known         the tables of a sound pool are known
-- The first two are field by field: marks word by word (Packed), flags and record numbers one by one (Marks), registers and logs block by block (Blocks), entries pair by pair (Entered).
-- Assumes nothing.
use Prim.Native.Nat.{ℕ, zero, suc, ◌+◌, ◌*◌, ◌≤◌, ◌<◌, zero-le, suc-le-suc}
use mathlib.Core.Path.{◌≡◌, refl, sym, ap, ◌∙◌, subst, subst₂}
use mathlib.Core.Bool.{true}
use mathlib.Core.List.{List, [], ◌∷◌, ◌++◌, map, zip_with, flatten}
use native.Mathlib.Omega.{arith}
use mathlib.Core.Logic.{⊎_elim}
use native.Mathlib.Nat.{le_of_suc-le-suc, not-suc-le-zero, eq-or-lt_of_le}
use Rattle.laws.proofs.Lists.{Each-at, Each-places, map_at, zip_with_at}
use lib.ListN.{length, get_or, take, drop, length-append, length-map, get_or-append}
use lib.Seq.{take-suc, take_all, get_or_at}
use Rattle.rules.specs.declared.Sizes.{Sizes}
use Rattle.rules.specs.declared.RecordNumber.{RecordNumber}
use Rattle.rules.specs.declared.Collector.{Collector}
use Rattle.rules.specs.Size.{in_range, links}
use Rattle.rules.specs.Pool.{Entry, Workers, Pool}
use Rattle.rules.specs.View.{bit}
use Rattle.rules.specs.Sound.{Each, Sound, ShapedWorkers, Shaped}
use Rattle.tables.specs.Tables.{Tables}
use Rattle.tables.specs.Lie.{record_numbers, numbers, cut, entries, laid, room, pool_of, tables_of}
use Rattle.tables.specs.Known.{Exact, Marked, block, Padded, Known}
use Rattle.tables.proofs.Blocks.{Sized, length_cut, cut_at, cut-sized, joined_cut, cut_joined_before, cut_joined, length_joined}
use Rattle.tables.proofs.Entered.{length-entries, length-laid, laid_past, entries-laid, laid-entries}
use Rattle.tables.proofs.Packed.{length-words_of, packed_words, marks_words, words_marks}
use Rattle.tables.proofs.Marks.{marks-bits, bits-marks, bits-low, named_numbers, numbers_named}

-- ---- lists

map_undone : {A : Type 0} {B : Type 0} (f : A → B) (g : B → A) → ((x : A) → g (f x) ≡ x) → (xs : List A) → map g (map f xs) ≡ xs
map_undone f g h [] = refl
map_undone f g h (x ∷ xs) = λ j. h x j ∷ map_undone f g h xs j

-- the last of n + 1 numbers
pub last_apart : (n : ℕ) (xs : List ℕ) → length xs ≡ n + 1 → take n xs ++ (get_or xs n 0 ∷ []) ≡ xs
last_apart n xs h = sym (take-suc xs n 0 (omega arith)) ∙ take_all (suc n) xs (omega arith)

-- ---- from a pool and back

-- the logs, read from the room in which they are laid
logs_back : (most : ℕ) (logs : List (List Entry)) (rest : List ℕ) → Each (λ l. length l ≤ most) logs
    → zip_with entries (map length logs ++ rest) (map (laid most) logs) ≡ logs
unfolding zip_with
logs_back most [] [] h = refl
logs_back most [] (n ∷ rest) h = refl
logs_back most (l ∷ logs) rest h = λ j. entries-laid most l h.0 j ∷ logs_back most logs rest h.1 j

pub rows_sized : (s : Sizes) (ws : Workers) → ShapedWorkers s ws → Each (λ l. length l ≡ s.r) ws.registers
rows_sized s ws shaped = Each-places (λ l. length l ≡ s.r) [] ws.registers (λ w k. shaped.each w (omega (arith, shaped.registers)))

pub sized_rows : (size : ℕ) (rows : List (List RecordNumber)) → Each (λ l. length l ≡ size) rows → Sized size (map numbers rows)
sized_rows size [] h = tt
sized_rows size (row ∷ rows) h = (length-map row (λ a. a.0) ∙ h.0, sized_rows size rows h.1)

pub length_rows : (s : Sizes) (ws : Workers) → ShapedWorkers s ws → length (flatten (map numbers ws.registers)) ≡ s.w * s.r
length_rows s ws shaped =
    length_joined s.r (map numbers ws.registers) (sized_rows s.r ws.registers (rows_sized s ws shaped))
    ∙ ap (λ (n : ℕ). n * s.r) (length-map ws.registers numbers ∙ shaped.registers)

pub sized_logs : (most : ℕ) (logs : List (List Entry)) → Sized (most * 2) (map (laid most) logs)
sized_logs most [] = tt
sized_logs most (l ∷ logs) = (length-laid most l, sized_logs most logs)

module _ (s : Sizes) (p : Pool) (shaped : Shaped s p) (logs : (w : ℕ) → length (get_or p.workers.log w []) ≤ links s) (history : length p.history ≤ links s) where
  logs_low : Each (λ l. length l ≤ links s) p.workers.log
  logs_low = Each-places (λ l. length l ≤ links s) [] p.workers.log (λ w k. logs w)

  -- the blocks of the tables
  pub rows_cut : cut s.w s.r (tables_of s p).registers ≡ map numbers p.workers.registers
  unfolding tables_of
  rows_cut =
      ap (λ (n : ℕ). cut n s.r (tables_of s p).registers) (sym (length-map p.workers.registers numbers ∙ shaped.workers.registers))
      ∙ cut_joined_before s.r (map numbers p.workers.registers) (p.last.0 ∷ []) (sized_rows s.r p.workers.registers (rows_sized s p.workers shaped.workers))

  pub logs_cut : cut s.w (room s) (tables_of s p).logs ≡ map (laid (links s)) p.workers.log
  unfolding tables_of
  logs_cut =
      ap (λ (n : ℕ). cut n (room s) (flatten (map (laid (links s)) p.workers.log))) (sym (length-map p.workers.log (laid (links s)) ∙ shaped.workers.log))
      ∙ cut_joined (room s) (map (laid (links s)) p.workers.log) (sized_logs (links s) p.workers.log)

  last_there : get_or (tables_of s p).registers (s.w * s.r) 0 ≡ p.last.0
  unfolding tables_of
  last_there = get_or_at (flatten (map numbers p.workers.registers)) p.last.0 [] 0 (s.w * s.r) (length_rows s p.workers shaped.workers)

  history_length : get_or (tables_of s p).lengths s.w 0 ≡ length p.history
  unfolding tables_of
  history_length = get_or_at (map length p.workers.log) (length p.history) [] 0 s.w (length-map p.workers.log length ∙ shaped.workers.log)

  pub pool_of_tables : pool_of s (tables_of s p) p.collector ≡ p
  unfolding pool_of tables_of
  pool_of_tables =
      λ j.
      record {
        records =
            record {
              used = marks_words s.n p.records.used shaped.records.used j;
              count = p.records.count;
              held = marks_words s.n p.records.held shaped.records.held j;
              candidate = marks_words s.n p.records.candidate shaped.records.candidate j;
              maker = p.records.maker;
            };
        links = record { value = named_numbers p.links.value j; changed = marks_words (links s) p.links.changed shaped.links.changed j };
        workers =
            record {
              registers = (ap (map record_numbers) rows_cut ∙ map_undone numbers record_numbers named_numbers p.workers.registers) j;
              snoop = marks-bits p.workers.snoop j;
              log =
                  (ap (zip_with entries (tables_of s p).lengths) logs_cut
                  ∙ logs_back (links s) p.workers.log (length p.history ∷ []) logs_low) j;
            };
        last = record { 0 = last_there j };
        history = (ap (λ (n : ℕ). entries n (laid (links s) p.history)) history_length ∙ entries-laid (links s) p.history history) j;
        collector = p.collector;
      }

-- ---- from tables and back

-- the rooms, read and laid again
rooms_back : (most : ℕ) (lengths : List ℕ) (rooms : List (List ℕ)) → length rooms ≤ length lengths
    → ((i : ℕ) → i < length rooms → (get_or lengths i 0 ≤ most) × (length (get_or rooms i []) ≡ most * 2) × Each (λ x. x ≡ 0) (drop (get_or lengths i 0 * 2) (get_or rooms i [])))
    → map (laid most) (zip_with entries lengths rooms) ≡ rooms
unfolding zip_with
rooms_back most [] [] h each = refl
rooms_back most (n ∷ lengths) [] h each = refl
rooms_back most [] (x ∷ rooms) h each = absurd (not-suc-le-zero h)
rooms_back most (n ∷ lengths) (x ∷ rooms) h each =
    let here = each zero (suc-le-suc zero-le) in
    λ j. laid-entries most n x here.1 here.0 here.2 j ∷ rooms_back most lengths rooms (le_of_suc-le-suc h) (λ i k. each (suc i) (suc-le-suc k)) j

lengths_back : (lengths : List ℕ) (rooms : List (List ℕ)) → length rooms ≤ length lengths → map length (zip_with entries lengths rooms) ≡ take (length rooms) lengths
unfolding zip_with
lengths_back [] [] h = refl
lengths_back (n ∷ lengths) [] h = refl
lengths_back [] (x ∷ rooms) h = absurd (not-suc-le-zero h)
lengths_back (n ∷ lengths) (x ∷ rooms) h = λ j. length-entries n x j ∷ lengths_back lengths rooms (le_of_suc-le-suc h) j

module _ (s : Sizes) (t : Tables) (c : Collector) (exact : Exact s t) (marked : Marked s t) (padded : Padded s t) (low : (w : ℕ) → w ≤ s.w → get_or t.lengths w 0 ≤ links s) where
  rooms : List (List ℕ)
  rooms = cut s.w (room s) t.logs

  enough : length rooms ≤ length t.lengths
  unfolding rooms
  enough = omega (arith, length_cut s.w (room s) t.logs, exact.lengths)

  each_room : (i : ℕ) → i < length rooms
      → (get_or t.lengths i 0 ≤ links s) × (length (get_or rooms i []) ≡ room s) × Each (λ x. x ≡ 0) (drop (get_or t.lengths i 0 * 2) (get_or rooms i []))
  unfolding rooms
  each_room i k =
      let here : i < s.w = omega (arith, length_cut s.w (room s) t.logs) in (
        low i (omega arith),
        Each-at (λ b. length b ≡ room s) rooms i [] k (cut-sized s.w (room s) t.logs (omega (arith, exact.logs))),
        subst (λ (b : List ℕ). Each (λ x. x ≡ 0) (drop (get_or t.lengths i 0 * 2) b)) (sym (cut_at s.w (room s) t.logs i here)) (padded.logs i here),
      )

  lengths_whole : map length (zip_with entries t.lengths rooms) ++ (length (entries (get_or t.lengths s.w 0) t.history) ∷ []) ≡ t.lengths
  unfolding rooms
  lengths_whole =
      (λ j. (lengths_back t.lengths rooms enough ∙ ap (λ (n : ℕ). take n t.lengths) (length_cut s.w (room s) t.logs)) j ++ (length-entries (get_or t.lengths s.w 0) t.history j ∷ []))
      ∙ last_apart s.w t.lengths exact.lengths

  pub tables_of_pool : tables_of s (pool_of s t c) ≡ t
  unfolding pool_of tables_of rooms
  tables_of_pool =
      λ j.
      record {
        used = words_marks s.n t.used exact.used marked.used j;
        counts = t.counts;
        held = words_marks s.n t.held exact.held marked.held j;
        candidates = words_marks s.n t.candidates exact.candidates marked.candidates j;
        makers = t.makers;
        values = numbers_named t.values j;
        changed = words_marks (links s) t.changed exact.changed marked.changed j;
        registers =
            ((λ i.
            (ap flatten (map_undone record_numbers numbers numbers_named (cut s.w s.r t.registers))
            ∙ joined_cut s.w s.r t.registers (omega (arith, exact.registers))) i
            ++ (get_or t.registers (s.w * s.r) 0 ∷ []))
            ∙ last_apart (s.w * s.r) t.registers exact.registers) j;
        snoops = bits-marks t.snoops marked.snoops j;
        logs = (ap flatten (rooms_back (links s) t.lengths rooms enough each_room) ∙ joined_cut s.w (room s) t.logs (omega (arith, exact.logs)) ∙ take_all (s.w * room s) t.logs (omega (arith, exact.logs))) j;
        history = laid-entries (links s) (get_or t.lengths s.w 0) t.history exact.history (low s.w (omega arith)) padded.history j;
        lengths = lengths_whole j;
      }

-- ---- tables that are known

module _ {s : Sizes} {t : Tables} {c : Collector} (known : Known s t c) where
  -- the length that stands for a log, or for the history
  pub log_known : (w : ℕ) → w < s.w → get_or (pool_of s t c).workers.log w [] ≡ entries (get_or t.lengths w 0) (block s t w)
  unfolding pool_of
  log_known w k =
      zip_with_at entries t.lengths (cut s.w (room s) t.logs) w 0 [] []
      (omega (arith, known.exact.lengths))
      (omega (arith, length_cut s.w (room s) t.logs))
      ∙ ap (entries (get_or t.lengths w 0)) (cut_at s.w (room s) t.logs w k)

  pub length_known : (w : ℕ) → w ≤ s.w → get_or t.lengths w 0 ≤ links s
  unfolding pool_of
  length_known w k =
      ⊎_elim
      (λ e.
      omega (arith, known.tables.sound.history_length, length-entries (get_or t.lengths s.w 0) t.history, ap (λ (n : ℕ). get_or t.lengths n 0) e))
      (λ (h : w < s.w).
      omega (arith, known.tables.sound.log_length w, ap length (log_known w h), length-entries (get_or t.lengths w 0) (block s t w)))
      (eq-or-lt_of_le k)

  pub known_back : tables_of s (pool_of s t c) ≡ t
  known_back = tables_of_pool s t c known.exact known.tables.marked known.tables.padded length_known

-- ---- the tables of a sound pool

module _ (s : Sizes) (range : in_range s ≡ true) (p : Pool) (sound : Sound s p) where
  exact_written : Exact s (tables_of s p)
  unfolding tables_of
  exact_written =
      let shaped = sound.shaped in
      record {
        used = length-words_of s.n p.records.used shaped.records.used;
        counts = shaped.records.count;
        held = length-words_of s.n p.records.held shaped.records.held;
        candidates = length-words_of s.n p.records.candidate shaped.records.candidate;
        makers = shaped.records.maker;
        values = length-map p.links.value (λ a. a.0) ∙ shaped.links.value;
        changed = length-words_of (links s) p.links.changed shaped.links.changed;
        registers =
            length-append (flatten (map numbers p.workers.registers)) (p.last.0 ∷ [])
            ∙ ap (λ (n : ℕ). n + 1) (length_rows s p.workers shaped.workers);
        snoops = length-map p.workers.snoop bit ∙ shaped.workers.snoop;
        logs =
            length_joined (room s) (map (laid (links s)) p.workers.log) (sized_logs (links s) p.workers.log)
            ∙ ap (λ (n : ℕ). n * room s) (length-map p.workers.log (laid (links s)) ∙ shaped.workers.log);
        history = length-laid (links s) p.history;
        lengths =
            length-append (map length p.workers.log) (length p.history ∷ [])
            ∙ ap (λ (n : ℕ). n + 1) (length-map p.workers.log length ∙ shaped.workers.log);
      }

  padded_written : Padded s (tables_of s p)
  unfolding tables_of
  padded_written =
      record {
        logs = at_worker;
        history =
            subst (λ (n : ℕ). Each (λ x. x ≡ 0) (drop (n * 2) (tables_of s p).history))
            (sym (history_length s p sound.shaped sound.log_length sound.history_length))
            (past p.history);
      }
    where
      past : (list : List Entry) → Each (λ x. x ≡ 0) (drop (length list * 2) (laid (links s) list))
      past list = laid_past (links s) list

      log : ℕ → List Entry
      log w = get_or p.workers.log w []

      inside : (w : ℕ) → w < s.w → w < length p.workers.log
      inside w k = omega (arith, sound.shaped.workers.log)

      length_at : (w : ℕ) → w < s.w → get_or (tables_of s p).lengths w 0 ≡ length (log w)
      length_at w k =
          get_or-append (map length p.workers.log) (length p.history ∷ []) 0 w (omega (arith, length-map p.workers.log length, inside w k))
          ∙ map_at length p.workers.log w [] 0 (inside w k)

      block_at : (w : ℕ) → w < s.w → block s (tables_of s p) w ≡ laid (links s) (log w)
      block_at w k =
          sym (cut_at s.w (room s) (tables_of s p).logs w k)
          ∙ ap (λ (bs : List (List ℕ)). get_or bs w []) (logs_cut s p sound.shaped sound.log_length sound.history_length)
          ∙ map_at (laid (links s)) p.workers.log w [] [] (inside w k)

      at_worker : (w : ℕ) → w < s.w → Each (λ x. x ≡ 0) (drop (get_or (tables_of s p).lengths w 0 * 2) (block s (tables_of s p) w))
      at_worker w k =
          subst₂ (λ (n : ℕ) (b : List ℕ). Each (λ x. x ≡ 0) (drop (n * 2) b)) (sym (length_at w k)) (sym (block_at w k)) (past (log w))

  pub sound_known : Known s (tables_of s p) p.collector
  unfolding tables_of
  sound_known =
      record {
        sizes = range;
        exact = exact_written;
        tables =
            record {
              marked =
                  record {
                    used = packed_words s.n p.records.used sound.shaped.records.used;
                    held = packed_words s.n p.records.held sound.shaped.records.held;
                    candidates = packed_words s.n p.records.candidate sound.shaped.records.candidate;
                    changed = packed_words (links s) p.links.changed sound.shaped.links.changed;
                    snoops = bits-low p.workers.snoop;
                  };
              padded = padded_written;
              sound = subst (Sound s) (sym (pool_of_tables s p sound.shaped sound.log_length sound.history_length)) sound;
            };
      }
