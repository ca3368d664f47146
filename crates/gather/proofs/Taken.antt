-- Phase 2: a worker's log is added at the end of the history and emptied.
--     joined_front, joined_part     blocks of which one is written from its front, and the front of a block in the table
--     logs_emptied, history_joined, lengths_taken     what becomes of the logs, the history and their lengths, table by table
--     taken_in, log_taken     the tables of the pool after it
--     lengths_here, part_here     what the code reads and lends
--     Taken, takes_on_lem        the step on known tables, with what it does to the records
-- Assumes nothing.
use Prim.Native.Nat.{ℕ, zero, suc, ◌+◌, ◌*◌, ◌≤◌, ◌<◌}
use mathlib.Core.Path.{◌≡◌, refl, sym, ap, ◌∙◌}
use mathlib.Core.List.{List, [], ◌∷◌, ◌++◌, map, flatten, append_assoc}
use native.Mathlib.Omega.{arith}
use native.Mathlib.Nat.{suc-mul, zero-mul, le_of_suc-le-suc, not-suc-le-zero}
use lib.ListN.{length, get_or, take, drop, set, replicate, length-append, length-map, length-set}
use lib.Seq.{take-append-add, drop-append-add, drop-append-le, take-take, set-append_left, set_at, paste}
use Rattle.rules.specs.declared.Sizes.{Sizes}
use Rattle.rules.specs.declared.Collector.{Collector}
use Rattle.rules.specs.declared.Answered.{Answered}
use Rattle.rules.specs.declared.Event.TheVariants.{Collect}
use Rattle.rules.specs.Size.{links}
use Rattle.rules.specs.Pool.{Entry, Pool, log_at, with_log, with_history}
use Rattle.rules.specs.Collect.{made_by, takes, phases}
use Rattle.rules.specs.Sound.{ShapedWorkers}
use Rattle.laws.proofs.Lists.{map-set, map_at}
use Rattle.laws.proofs.Number.{links_most}
use Rattle.soundness.proofs.Known.{history_has_room}
use Rattle.tables.specs.Tables.{Tables, put_candidates, put_makers, put_logs, put_history, put_lengths}
use Rattle.tables.specs.Bits.{words_of, with_standing}
use Rattle.tables.specs.Lie.{laid, room, pool_of, tables_of}
use Rattle.tables.specs.Known.{Known}
use Rattle.tables.specs.Event.{event_on}
use Rattle.tables.proofs.Blocks.{Sized, cut_at, cut_joined}
use Rattle.tables.proofs.Entered.{laid_joined, laid-emptied}
use Rattle.tables.proofs.RoundTrip.{sized_logs, known_back}
use Rattle.tables.proofs.Standing.{with_marks}
use Rattle.tables.proofs.Stand.{log_length, history_length}
use Rattle.gather.specs.Raw.{unmade}
use Rattle.gather.proofs.Here.{position_known, room_known}
use Rattle.gather.proofs.Moves.{called, Onward, moves_on}

-- ---- the front of a block

module _ (size : ℕ) where
  joined_front : (blocks : List (List ℕ)) (w k : ℕ) (xs : List ℕ) → Sized size blocks → w < length blocks → k ≤ size
      → flatten (set blocks w (xs ++ drop k (get_or blocks w []))) ≡ take (w * size) (flatten blocks) ++ (xs ++ drop k (drop (w * size) (flatten blocks)))
  unfolding flatten
  joined_front [] w k xs h l most = absurd (not-suc-le-zero l)
  joined_front (b ∷ blocks) zero k xs h l most =
      rw zero-mul (append_assoc xs _ _ ∙ ap (λ t. xs ++ t) (sym (drop-append-le k b (flatten blocks) (omega (arith, h.0)))))
  joined_front (b ∷ blocks) (suc w) k xs h l most =
      let e : suc w * size ≡ length b + w * size = omega (arith, suc-mul w size, h.0) in
      rw (e, take-append-add, drop-append-add)
      (ap (λ t. b ++ t) (joined_front blocks w k xs h.1 (le_of_suc-le-suc l) most) ∙ sym (append_assoc b _ _))

  joined_part : (blocks : List (List ℕ)) (w k : ℕ) → Sized size blocks → w < length blocks → k ≤ size
      → take k (get_or blocks w []) ≡ take k (drop (w * size) (flatten blocks))
  joined_part blocks w k h l most =
      ap (take k) (ap (λ (bs : List (List ℕ)). get_or bs w []) (sym (cut_joined size blocks h)) ∙ cut_at (length blocks) size (flatten blocks) w l)
      ∙ take-take k size (drop (w * size) (flatten blocks)) most

-- ---- a log, its room, and its length

abbrev table : ℕ → List (List Entry) → List ℕ
table most logs = flatten (map (laid most) logs)

module _ (most : ℕ) (logs : List (List Entry)) (w : ℕ) (inside : w < length logs) where
  inside_rooms : w < length (map (laid most) logs)
  inside_rooms = omega (arith, length-map logs (laid most))

  room_here : get_or (map (laid most) logs) w [] ≡ laid most (get_or logs w [])
  room_here = map_at (laid most) logs w [] [] inside

  logs_emptied : let n : ℕ = length (get_or logs w []) in n ≤ most
      → table most (set logs w []) ≡ take (w * (most * 2)) (table most logs) ++ (replicate (n * 2) 0 ++ drop (n * 2) (drop (w * (most * 2)) (table most logs)))
  logs_emptied fits =
      let n : ℕ = length (get_or logs w []) in
      ap flatten
      (map-set (laid most) logs w []
      ∙ ap (set (map (laid most) logs) w)
      (laid-emptied most (get_or logs w []) fits ∙ ap (λ (b : List ℕ). replicate (n * 2) 0 ++ drop (n * 2) b) (sym room_here)))
      ∙ joined_front (most * 2) (map (laid most) logs) w (n * 2) (replicate (n * 2) 0) (sized_logs most logs) inside_rooms (omega arith)

  history_joined : (history : List Entry) → let n : ℕ = length (get_or logs w []) in length history + n ≤ most
      → laid most (history ++ get_or logs w []) ≡ paste (laid most history) (length history * 2) (drop (w * (most * 2)) (table most logs)) (n * 2)
  history_joined history fits =
      let n : ℕ = length (get_or logs w []) in
      laid_joined most most history (get_or logs w []) fits (omega arith)
      ∙ ap (λ (part : List ℕ). take (length history * 2) (laid most history) ++ part ++ drop (length history * 2 + n * 2) (laid most history))
      (sym (ap (take (n * 2)) room_here) ∙ joined_part (most * 2) (map (laid most) logs) w (n * 2) (sized_logs most logs) inside_rooms (omega arith))

  lengths_taken : (history : List Entry)
      → map length (set logs w []) ++ (length (history ++ get_or logs w []) ∷ [])
      ≡ set (set (map length logs ++ (length history ∷ [])) w 0) (length logs) (length history + length (get_or logs w []))
  lengths_taken history =
      let n : ℕ = length (get_or logs w []) in
      let size = length-map logs length in
      sym
      (ap (λ (ns : List ℕ). set ns (length logs) (length history + n)) (set-append_left (map length logs) (length history ∷ []) w 0 (omega arith))
      ∙ set_at (set (map length logs) w 0) (length history) [] (length history + n) (length logs) (length-set (map length logs) w 0 ∙ size)
      ∙ (λ j. sym (map-set length logs w []) j ++ (sym (length-append history (get_or logs w [])) j ∷ [])))

-- ---- the tables of the pool after it

-- tables of which worker w's log, of n entries, is taken to a history of m
abbrev taken_in : Sizes → (w n m : ℕ) → Tables → Tables
taken_in s w n m t =
    let from : ℕ = w * room s in
    put_logs (take from t.logs ++ (replicate (n * 2) 0 ++ drop (n * 2) (drop from t.logs)))
    (put_history (paste t.history (m * 2) (drop from t.logs) (n * 2)) (put_lengths (set (set t.lengths w 0) s.w (m + n)) t))

log_taken : (s : Sizes) (p : Pool) (w : ℕ) → ShapedWorkers s p.workers → w < s.w → length p.history + length (log_at p w) ≤ links s
    → tables_of s (with_log w [] (with_history (p.history ++ log_at p w) p)) ≡ taken_in s w (length (log_at p w)) (length p.history) (tables_of s p)
unfolding tables_of
log_taken s p w shaped k fits =
    let logs = p.workers.log in
    let inside : w < length logs = omega (arith, shaped.log) in
    λ j.
    put_logs (logs_emptied (links s) logs w inside (omega arith) j)
    (put_history (history_joined (links s) logs w inside p.history fits j)
    (put_lengths
    ((lengths_taken (links s) logs w inside p.history
    ∙ ap (λ (last : ℕ). set (set (tables_of s p).lengths w 0) last (length p.history + length (log_at p w))) shaped.log) j)
    (tables_of s p)))

-- ---- what the code reads and lends

module _ {s : Sizes} {t : Tables} {c : Collector} (known : Known s t c) (e : c.phase ≡ 2) where
  -- the two lengths: the history has room for the log
  pub lengths_here : (worker last : ℕ) → worker ≡ c.position → last ≡ s.w
      → let ns = t.lengths in
      (get_or ns worker 0 ≡ get_or ns c.position 0)
      × (get_or ns last 0 ≡ get_or ns s.w 0)
      × (get_or ns s.w 0 + get_or ns c.position 0 ≤ links s)
      × (links s ≤ 8208)
      × (worker < length ns)
  lengths_here worker last first second =
      let ns = t.lengths in (
        ap (λ (i : ℕ). get_or ns i 0) first,
        ap (λ (i : ℕ). get_or ns i 0) second,
        room_known known e,
        links_most s known.sizes,
        omega (arith, position_known known 2 e, known.exact.lengths),
      )

  -- the worker's log, a part of the logs
  pub part_here : (from n : ℕ) → (from ≡ c.position * room s) × (from + room s ≤ s.w * room s) → n ≡ get_or t.lengths c.position 0
      → (from + n * 2 ≡ c.position * room s + get_or t.lengths c.position 0 * 2) × (c.position * room s + get_or t.lengths c.position 0 * 2 ≤ length t.logs)
  part_here from n begin many = (omega (arith, begin.0), omega (arith, begin, room_known known e, known.exact.logs))

-- ---- the step

-- what the step makes of the tables that it is lent, t being all of them
pub record Taken (s : Sizes) (t : Tables) (w : ℕ) (cs ms ls hs ns : List ℕ) : Type 0 where
  pub candidates : cs ≡ with_standing (w + 1) t.makers t.candidates
  pub makers : ms ≡ unmade w t.makers
  pub logs : let n : ℕ = get_or t.lengths w 0 in ls ≡ take (w * room s) t.logs ++ (replicate (n * 2) 0 ++ drop (n * 2) (drop (w * room s) t.logs))
  pub history : hs ≡ paste t.history (get_or t.lengths s.w 0 * 2) (drop (w * room s) t.logs) (get_or t.lengths w 0 * 2)
  pub lengths : ns ≡ set (set t.lengths w 0) s.w (get_or t.lengths s.w 0 + get_or t.lengths w 0)

pub takes_on_lem : {s : Sizes} {t : Tables} {c : Collector} {x : Answered} {cs ms ls hs ns : List ℕ} → Known s t c → c.phase ≡ 2
    → Taken s t c.position cs ms ls hs ns
    → Onward s.w (get_or t.lengths s.w 0 + get_or t.lengths c.position 0) c x
    → event_on s t c Collect ≡ called x (put_candidates cs (put_makers ms (put_logs ls (put_history hs (put_lengths ns t)))))
unfolding phases takes made_by unmade pool_of tables_of
takes_on_lem {s} {t} {c} known e taken moved =
    let p : Pool = pool_of s t c in
    let w : ℕ = c.position in
    let worker : w < s.w = position_known known 2 e in
    let n : length (log_at p w) ≡ get_or t.lengths w 0 = log_length s t c known w worker in
    let m : length p.history ≡ get_or t.lengths s.w 0 = history_length s t c in
    moves_on s t c s.w (made_by w (with_log w [] (with_history (p.history ++ log_at p w) p))) e refl
    (ap (λ (u : Tables). put_candidates (words_of (made_by w p).records.candidate) (put_makers (unmade w t.makers) u))
    (log_taken s p w known.tables.sound.shaped.workers worker (history_has_room known.tables.sound w e worker)
    ∙ (λ j. taken_in s w (n j) (m j) (known_back known j)))
    ∙ (λ j.
    put_candidates ((with_marks s.n (w + 1) t.makers t.candidates known.exact.makers known.exact.candidates known.tables.marked.candidates ∙ sym taken.candidates) j)
    (put_makers (sym taken.makers j) (put_logs (sym taken.logs j) (put_history (sym taken.history j) (put_lengths (sym taken.lengths j) t))))))
    (length-append p.history (log_at p w) ∙ (λ j. m j + n j))
    moved
