-- The search for the one entry of a link, through a log and through all logs.
--     next_below                    an entry before another
--     passed_found, passed_more     the entries passed are for other links; the next is for the link, or for another too
--     told_by, from_newest          what the first pair of numbers for the link tells; of a log, from its newest entry down, it is what its entries say
--     told, told_nothing            what entries say of a link tells whether one of them is for it
--     look_up_one, look_up_found, look_up_more, look_up_none     no log that is passed has the one entry; the next has it, or not; none is passed at first
-- None of these laws tells which entry is found where two are for the link. Assumes nothing.
use Prim.Native.Nat.{ℕ, zero, suc, ◌+◌, ◌-◌, ◌*◌, ◌≤◌, ◌<◌}
use mathlib.Core.Path.{◌≡◌, refl, sym, ap, ◌∙◌}
use mathlib.Core.Logic.{⊎_elim}
use mathlib.Core.Bool.{Bool, true, false, cond}
use lib.Dec.{eqb}
use mathlib.Core.List.{List, [], ◌∷◌, ◌++◌, flatten, reverse}
use native.Mathlib.Omega.{arith}
use native.Mathlib.Nat.{eq-zero-or-pos}
use lib.ListN.{length, get_or, take, drop, take-append-drop}
use lib.Seq.{drop-cons, drop-length, drop-drop}
use Rattle.std.specs.Simd.{first_chunks}
use Rattle.std.specs.Option.{unwrap_or, option_map}
use Rattle.std.specs.List.{find}
use Rattle.std.proofs.Common.{Some}
use Rattle.std.proofs.lemmas.Bool.{eqb-true, eqb-false}
use Rattle.std.proofs.lemmas.List.{get_or-take, get_or-drop, reverse-append}
use Rattle.rules.specs.declared.RecordNumber.{RecordNumber}
use Rattle.rules.specs.declared.LinkNumber.{LinkNumber}
use Rattle.rules.specs.Pool.{Entry, none}
use Rattle.rules.specs.View.{times, old_in, look_up}
use Rattle.tables.specs.Lie.{entries, record_number}
use Rattle.tables.proofs.Entered.{entry_in}
use Rattle.laws.proofs.Entries.{times_append, times_one, times_none, old_in_append, old_in_absent, old_in_present, old_in_here}
use Rattle.laws.proofs.LookUp.{times_logs, look_up_first}
use Rattle.tables.proofs.Rooms.{entries-take, entries_next}

-- ---- through a log, from its end

-- a place that is not the first has an entry before it
pub next_below : (P : ℕ → Type 0) (i k : ℕ) → 1 < i → i ≡ k * 2 → P k → (j : ℕ) × (i - 2 ≡ j * 2) × P (suc j)
next_below P i zero more place h = absurd (omega arith)
next_below P i (suc j) more place h = (j, omega arith, h)

chunks_push : (k : ℕ) (room : List ℕ) → first_chunks 2 (suc k) room ≡ first_chunks 2 k room ++ (take 2 (drop (k * 2) room) ∷ [])
chunks_push zero room = refl
chunks_push (suc k) room =
    ap (λ xs. take 2 room ∷ xs) (chunks_push k (drop 2 room) ∙ ap (λ ys. first_chunks 2 k (drop 2 room) ++ (take 2 ys ∷ [])) (drop-drop (k * 2) 2 room ∙ ap (λ (i : ℕ). drop i room) (let twice : 2 + k * 2 ≡ suc k * 2 = omega arith in twice)))

pair_stands : (k : ℕ) (room : List ℕ) (i : ℕ) → i < 2 → get_or (take 2 (drop (k * 2) room)) i 0 ≡ get_or room (k * 2 + i) 0
pair_stands k room i low = get_or-take 2 (drop (k * 2) room) i 0 low ∙ get_or-drop (k * 2) room i 0

-- of the first n entries of a log those behind the first k + 1 are for other links
module _ (l : LinkNumber) (room : List ℕ) (n k : ℕ) (others : times l (entries n room) ≡ times l (entries (suc k) room)) where
  with_next : times l (entries n room) ≡ times l (entries k room) + times l (entry_in room k ∷ [])
  with_next = others ∙ ap (times l) (entries_next k room) ∙ times_append l (entries k room) (entry_in room k ∷ [])

  pub passed_found : get_or room (k * 2) 0 ≡ l.0 → times l (entries n room) ≤ 1 → k < n → (a : RecordNumber) → old_in l (entries n room) a ≡ (entry_in room k).old
  passed_found is one more a =
      let es = entries n room in
      let b = old_in l (drop (suc k) es) a in
      ap (λ xs. old_in l xs a) (sym (take-append-drop (suc k) es))
      ∙ old_in_append l (take (suc k) es) (drop (suc k) es) a
      ∙ ap (λ xs. old_in l xs b) (entries-take (suc k) n room more ∙ entries_next k room)
      ∙ old_in_append l (entries k room) (entry_in room k ∷ []) b
      ∙ old_in_absent l (entries k room) (old_in l (entry_in room k ∷ []) b) (omega (arith, with_next, times_one l (entry_in room k) is))
      ∙ old_in_here l (entry_in room k) [] b is

  pub passed_more : (get_or room (k * 2) 0 ≡ l.0 → ⊥) → times l (entries n room) ≡ times l (entries k room)
  passed_more other = omega (arith, with_next, times_none l (entry_in room k) other)

-- these two numbers are an entry for the link, with this old value
abbrev pub is_for : LinkNumber → List ℕ → Bool
is_for l pair = eqb (get_or pair 0 0) l.0

abbrev pub old_of : List ℕ → RecordNumber
old_of pair = record_number (get_or pair 1 0)

abbrev pub told_by : LinkNumber → List (List ℕ) → RecordNumber → RecordNumber
told_by l pairs a = unwrap_or (option_map old_of (find (is_for l) pairs)) a

pub from_newest : (l : LinkNumber) (room : List ℕ) (n k : ℕ) → k ≤ n → times l (entries n room) ≡ times l (entries k room) → times l (entries n room) ≤ 1
    → (a : RecordNumber) → old_in l (entries n room) a ≡ told_by l (reverse (first_chunks 2 k room)) a
unfolding times entries
from_newest l room n zero low others one a = old_in_absent l (entries n room) a others
from_newest l room n (suc k) low others one a =
    by_test (is_for l pair) refl (λ left. from_newest l room n k (omega arith) left one a)
    ∙ ap (λ pairs. told_by l pairs a) (sym (ap reverse (chunks_push k room) ∙ reverse-append (first_chunks 2 k room) (pair ∷ [])))
  where
    pair : List ℕ
    pair = take 2 (drop (k * 2) room)

    link_is : get_or pair 0 0 ≡ get_or room (k * 2) 0
    link_is = pair_stands k room 0 (omega arith) ∙ ap (λ (i : ℕ). get_or room i 0) (let first : k * 2 + 0 ≡ k * 2 = omega arith in first)

    rest : RecordNumber
    rest = told_by l (reverse (first_chunks 2 k room)) a

    by_test : (b : Bool) → is_for l pair ≡ b → (times l (entries n room) ≡ times l (entries k room) → old_in l (entries n room) a ≡ rest)
        → old_in l (entries n room) a ≡ unwrap_or (option_map old_of (cond b (Some pair) (find (is_for l) (reverse (first_chunks 2 k room))))) a
    by_test true e next = passed_found l room n k others (sym link_is ∙ eqb-true _ _ e) one low a ∙ sym (ap record_number (pair_stands k room 1 (omega arith)))
    by_test false e next = next (passed_more l room n k others (λ is. eqb-false _ _ e (link_is ∙ is)))

-- ---- what entries say of a link

abbrev another : RecordNumber
another = record { 0 = 1 }

number_same : {a b : RecordNumber} → a ≡ b → a.0 ≡ b.0
number_same e = ap (λ (a : RecordNumber). a.0) e

module _ (l : LinkNumber) (es : List Entry) where
  -- one thing, whatever stands behind them: one is for the link
  pub told : (a : RecordNumber) → ((b : RecordNumber) → old_in l es b ≡ a) → 0 < times l es
  told a says =
      ⊎_elim
      (λ z. absurd (omega (arith, number_same (sym (old_in_absent l es none z) ∙ says none), number_same (sym (old_in_absent l es another z) ∙ says another))))
      (λ h. h)
      (eq-zero-or-pos (times l es))

  -- nothing: none is
  pub told_nothing : ((b : RecordNumber) → old_in l es b ≡ b) → times l es ≡ 0
  told_nothing says =
      ⊎_elim
      (λ z. z)
      (λ h. absurd (omega (arith, number_same (sym (says none) ∙ old_in_present l es none another h ∙ says another))))
      (eq-zero-or-pos (times l es))

-- ---- through all logs, from the last

module _ (l : LinkNumber) (logs : List (List Entry)) (w : ℕ) (here : w < length logs) where
  -- one log has no more entries for the link than all have
  pub look_up_one : times l (flatten logs) ≡ 1 → times l (get_or logs w []) ≤ 1
  unfolding times
  look_up_one one = omega (arith, times_logs l logs w here [])

  pub look_up_found : times l (flatten logs) ≡ 1 → (a : RecordNumber) → ((b : RecordNumber) → old_in l (get_or logs w []) b ≡ a) → a ≡ look_up l logs
  look_up_found one a says = sym (look_up_first l logs w here none (omega arith) (told l (get_or logs w []) a says) ∙ says none)

  pub look_up_more : times l (flatten (drop (suc w) logs)) ≡ 0 → ((b : RecordNumber) → old_in l (get_or logs w []) b ≡ b) → times l (flatten (drop w logs)) ≡ 0
  unfolding flatten
  look_up_more passed says =
      omega (
        arith,
        ap (λ ls. times l (flatten ls)) (drop-cons logs w [] here),
        times_append l (get_or logs w []) (flatten (drop (suc w) logs)),
        told_nothing l (get_or logs w []) says,
      )

module _ (l : LinkNumber) (logs : List (List Entry)) where
  pub look_up_none : (w : ℕ) → w ≡ length logs → times l (flatten (drop w logs)) ≡ 0
  unfolding flatten times
  look_up_none w e = ap (λ (n : ℕ). times l (flatten (drop n logs))) e ∙ ap (λ ls. times l (flatten ls)) (drop-length logs)
