-- The logs in their table, noted one after another.
--     rest_part                          the part past a log, up to the next
--     LogsEntered                        what is noted of the first logs, and what stands past them
--     logs_none, logs_more, logs_all     of none of them, of one more, and of all
--     logs_most, all_logs_most           how often a link can have been seen after them
-- Assumes nothing.
use Prim.Native.Nat.{ℕ, ◌+◌, ◌-◌, ◌*◌, ◌<◌}
use mathlib.Core.Path.{◌≡◌, refl, sym, ap, ◌∙◌, subst}
use mathlib.Core.Bool.{Bool, true, ◌&&◌}
use mathlib.Core.List.{List, [], ◌∷◌, ◌++◌, flatten, append-nil, append_assoc}
use native.Mathlib.Omega.{arith}
use native.Mathlib.Numerals.{add-one}
use native.Mathlib.Nat.{mul-le-mul_left}
use lib.ListN.{length, get_or, take, drop}
use lib.Seq.{take-suc, take_all, drop-drop}
use Rattle.std.proofs.lemmas.List.{drop-take}
use Rattle.rules.specs.declared.Sizes.{Sizes}
use Rattle.rules.specs.Size.{links}
use Rattle.rules.specs.Pool.{Entry}
use Rattle.tables.specs.Lie.{cut, entries, room, logs_in}
use Rattle.tables.proofs.Logs.{LogTables, joined_most, length_logs, short, log_part}
use Rattle.laws.proofs.Number.{bounds, links_most}
use Rattle.clauses.specs.IsSound.{every, below, is_zero}
use Rattle.clauses.specs.Entered.{Noted, entered_all}
use Rattle.clauses.specs.Inspected.{padded_logs}
use Rattle.inspect.proofs.Most.{Most, most_more}
use Rattle.inspect.proofs.Noting.{entered_append, entered_most}
use Rattle.inspect.proofs.Tested.{below_more}

-- ---- lists of lists

flatten_one_more : {A : Type 0} (ls : List (List A)) (l : List A) → flatten (ls ++ (l ∷ [])) ≡ flatten ls ++ l
unfolding flatten
flatten_one_more [] l = append-nil l
flatten_one_more (x ∷ ls) l = ap (λ t. x ++ t) (flatten_one_more ls l) ∙ sym (append_assoc x (flatten ls) l)

-- ---- what is noted of the first logs

abbrev noted_logs : Sizes → (logs lengths : List ℕ) → ℕ → Noted → Noted
noted_logs s logs lengths w = entered_all (links s) s.n 1 (flatten (take w (logs_in s logs lengths)))

-- 0 past a log's length
abbrev padded_log : Sizes → (logs lengths : List ℕ) → ℕ → Bool
padded_log s logs lengths w = every is_zero (drop (get_or lengths w 0 * 2) (take (room s) (drop (w * room s) logs)))

pub record LogsEntered (s : Sizes) (logs lengths : List ℕ) (start : Noted) (w : ℕ) (padded : Bool) (x : Noted) : Type 0 where
  pub entered : noted_logs s logs lengths w start ≡ x
  pub tested : padded ≡ below w (padded_log s logs lengths)

-- ---- the logs

module _ {s : Sizes} {logs lengths : List ℕ} (right : LogTables s logs lengths) where
  many_logs : length (logs_in s logs lengths) ≡ s.w
  many_logs = length_logs s logs lengths right.counted

  -- the n entries of a log from its place on, as the code cuts them out
  module _ {w from n : ℕ} (here : w < s.w) (place : from ≡ w * room s) (many : n ≡ get_or lengths w 0) where
    -- what stands past them, up to the next log
    rest_part : take (from + room s - (from + n * 2)) (drop (from + n * 2) logs) ≡ drop (get_or lengths w 0 * 2) (take (room s) (drop (w * room s) logs))
    rest_part =
        let rest : ℕ = from + room s - (from + n * 2) in
        ap (take rest) (sym (drop-drop (n * 2) from logs))
        ∙ sym (drop-take (n * 2) rest (drop from logs))
        ∙ (λ j. drop (n * 2) (take ((let e : n * 2 + rest ≡ room s = omega (arith, short right here place many) in e) j) (drop from logs)))
        ∙ (λ j. drop (many j * 2) (take (room s) (drop (place j) logs)))

    -- what `enter` and `all_zero` tell of one log more
    pub logs_more : (start : Noted) {padded zeros : Bool} {x y : Noted} → LogsEntered s logs lengths start w padded x
        → entered_all (links s) s.n 1 (entries n (take (from + n * 2 - from) (drop from logs))) x ≡ y
        → zeros ≡ every is_zero (take (from + room s - (from + n * 2)) (drop (from + n * 2) logs))
        → LogsEntered s logs lengths start (w + 1) (padded && zeros) y
    logs_more start h e z =
        let all : List (List Entry) = logs_in s logs lengths in
        let log : List Entry = entries n (take (from + n * 2 - from) (drop from logs)) in
        record {
          entered =
              ap (λ (k : ℕ). noted_logs s logs lengths k start) (add-one w)
              ∙ ap (λ (es : List Entry). entered_all (links s) s.n 1 es start)
              (ap flatten (take-suc all w [] (omega (arith, many_logs))) ∙ flatten_one_more (take w all) (get_or all w []) ∙ ap (λ (l : List Entry). flatten (take w all) ++ l) (log_part right here place many))
              ∙ entered_append (links s) s.n 1 (flatten (take w all)) log start
              ∙ ap (entered_all (links s) s.n 1 log) h.entered
              ∙ e;
          tested = (λ j. h.tested j && (z ∙ ap (every is_zero) rest_part) j) ∙ below_more (padded_log s logs lengths) w refl;
        }

  pub logs_all : (start : Noted) {w : ℕ} {padded : Bool} {x : Noted} → w ≡ s.w → LogsEntered s logs lengths start w padded x
      → (entered_all (links s) s.n 1 (flatten (logs_in s logs lengths)) start ≡ x) × (padded ≡ padded_logs s logs lengths)
  unfolding padded_logs
  logs_all start {w} e h =
      let all : take w (logs_in s logs lengths) ≡ logs_in s logs lengths = take_all w (logs_in s logs lengths) (omega (arith, many_logs)) in (
        ap (λ (ls : List (List Entry)). entered_all (links s) s.n 1 (flatten ls) start) (sym all) ∙ h.entered,
        h.tested ∙ ap (λ (n : ℕ). below n (padded_log s logs lengths)) e,
      )

  pub logs_most : (start : Noted) (b w : ℕ) {x : Noted} → noted_logs s logs lengths w start ≡ x → Most b start.seen → Most (b + w * 8208) x.seen
  logs_most start b w e h =
      subst (λ (x : Noted). Most (b + w * 8208) x.seen) e
      (most_more (noted_logs s logs lengths w start).seen
      (omega (arith, joined_most (links s) w lengths (cut s.w (room s) logs) right.low, mul-le-mul_left w (links_most s right.sizes)))
      (entered_most (links s) s.n 1 (flatten (take w (logs_in s logs lengths))) start b h))

  pub all_logs_most : (start : Noted) (b : ℕ) {x : Noted}
      → entered_all (links s) s.n 1 (flatten (logs_in s logs lengths)) start ≡ x → Most b start.seen → Most (b + 65664) x.seen
  all_logs_most start b {x} e h =
      let all : take s.w (logs_in s logs lengths) ≡ logs_in s logs lengths = take_all s.w (logs_in s logs lengths) (omega (arith, many_logs)) in
      most_more x.seen (omega (arith, (bounds s right.sizes).w_most))
      (logs_most start b s.w (ap (λ (ls : List (List Entry)). entered_all (links s) s.n 1 (flatten ls) start) all ∙ e) h)

pub logs_none : (s : Sizes) (logs lengths : List ℕ) (start : Noted) → LogsEntered s logs lengths start 0 true start
unfolding entered_all flatten below
logs_none s logs lengths start = record { entered = refl; tested = refl }
