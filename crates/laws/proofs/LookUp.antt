-- The look-up in the logs, and the view value.
--     times_logs                        how often a link stands in all logs, where one of them is written
--     look_up_keeps                     what holds of none and of every old value holds of what is looked up
--     look_up_each                      where no link has two entries, each is found
--     look_up_absent                    no log says anything of the link
--     look_up_without, look_up_first    a log is emptied that says nothing of the link, or that has its one entry
--     look_up-more, look_up-added       a log gets an entry more, for another link or for this one
--     view_marked, view_unmarked        the view value, by the mark
--     view_keeps                        what holds of none, of every old value and of the link's value holds of the view value
-- Only one entry of all logs is for a link: no law here tells which is found where two are. Assumes nothing.
use Prim.Native.Nat.{ℕ, suc, ◌+◌, ◌≤◌, ◌<◌}
use mathlib.Core.Path.{◌≡◌, refl, sym, ap, ◌∙◌, subst}
use mathlib.Core.Bool.{Bool, true, false, cond}
use mathlib.Core.List.{List, [], ◌∷◌, ◌++◌, flatten}
use native.Mathlib.Omega.{arith}
use lib.ListN.{length, get_or, take, drop, set}
use lib.Seq.{append_snoc, set-get_or}
use Rattle.rules.specs.declared.LinkNumber.{LinkNumber}
use Rattle.rules.specs.declared.RecordNumber.{RecordNumber}
use Rattle.rules.specs.Pool.{Entry, Pool, none, value_at, changed_at}
use Rattle.rules.specs.View.{times, old_in, all_logs, look_up, view_value}
use Rattle.rules.specs.Sound.{Each}
use Rattle.laws.proofs.Lists.{flatten-set}
use Rattle.laws.proofs.Entries.{times_append, times_cons, times_one, old_in_append, old_in_absent, old_in_present, old_in_here, old_in_there, old_in_keeps}

-- ---- all logs

pub look_up_keeps : (P : RecordNumber → Type 0) (l : LinkNumber) (logs : List (List Entry)) → Each (λ e. P e.old) (flatten logs) → P none → P (look_up l logs)
unfolding look_up
look_up_keeps P l logs h k = old_in_keeps P l (flatten logs) none h k

pub look_up_absent : (l : LinkNumber) (logs : List (List Entry)) → times l (flatten logs) ≡ 0 → look_up l logs ≡ none
unfolding look_up
look_up_absent l logs h = old_in_absent l (flatten logs) none h

-- each entry that stands behind some others is the first for its link, where no link has two
found_behind : (before xs : List Entry) → Each (λ e. times e.link (before ++ xs) ≤ 1) xs → Each (λ e. old_in e.link (before ++ xs) none ≡ e.old) xs
found_behind before [] h = tt
found_behind before (e ∷ xs) h = (
  old_in_append e.link before (e ∷ xs) none
      ∙ old_in_absent e.link before (old_in e.link (e ∷ xs) none) (omega (arith, h.0, times_append e.link before (e ∷ xs), times_cons e.link e xs, times_one e.link e refl))
      ∙ old_in_here e.link e xs none refl,
  subst (λ (ys : List Entry). Each (λ x. old_in x.link ys none ≡ x.old) xs) (append_snoc before e xs)
      (found_behind (before ++ (e ∷ [])) xs (subst (λ (ys : List Entry). Each (λ x. times x.link ys ≤ 1) xs) (sym (append_snoc before e xs)) h.1)),
)

-- the look-up finds every entry, where no link has two
pub look_up_each : (logs : List (List Entry)) → Each (λ e. times e.link (flatten logs) ≤ 1) (flatten logs) → Each (λ e. look_up e.link logs ≡ e.old) (flatten logs)
unfolding look_up
look_up_each logs h = found_behind [] (flatten logs) h

-- ---- all logs, of which one is written

module _ (l : LinkNumber) (logs : List (List Entry)) (w : ℕ) (here : w < length logs) where
  before : List Entry
  before = flatten (take w logs)

  behind : List Entry
  behind = flatten (drop (suc w) logs)

  times-set : (xs : List Entry) → times l (flatten (set logs w xs)) ≡ times l before + (times l xs + times l behind)
  unfolding before behind
  times-set xs =
      ap (times l) (flatten-set logs w xs here)
      ∙ times_append l before (xs ++ behind)
      ∙ ap (λ (n : ℕ). times l before + n) (times_append l xs behind)

  -- what is written may be what stood there
  unwritten : set logs w (get_or logs w []) ≡ logs
  unwritten = set-get_or logs w []

  times_at : times l (flatten logs) ≡ times l before + (times l (get_or logs w []) + times l behind)
  times_at = ap (λ ls. times l (flatten ls)) (sym unwritten) ∙ times-set (get_or logs w [])

  pub times_logs : (xs : List Entry) → times l (flatten (set logs w xs)) + times l (get_or logs w []) ≡ times l (flatten logs) + times l xs
  times_logs xs = omega (arith, times_at, times-set xs)

  old_set : (xs : List Entry) (a : RecordNumber) → old_in l (flatten (set logs w xs)) a ≡ old_in l before (old_in l xs (old_in l behind a))
  unfolding before behind
  old_set xs a =
      ap (λ es. old_in l es a) (flatten-set logs w xs here)
      ∙ old_in_append l before (xs ++ behind) a
      ∙ ap (old_in l before) (old_in_append l xs behind a)

  old_at : (a : RecordNumber) → old_in l (flatten logs) a ≡ old_in l before (old_in l (get_or logs w []) (old_in l behind a))
  old_at a = ap (λ ls. old_in l (flatten ls) a) (sym unwritten) ∙ old_set (get_or logs w []) a

  -- a log that says nothing of the link is emptied
  pub look_up_without : times l (get_or logs w []) ≡ 0 → look_up l (set logs w []) ≡ look_up l logs
  unfolding look_up old_in
  look_up_without h =
      old_set [] none ∙ ap (old_in l before) (sym (old_in_absent l (get_or logs w []) (old_in l behind none) h)) ∙ sym (old_at none)

  -- where one entry of all logs is for the link, and it stands in this log, the look-up finds it
  pub look_up_first : (a : RecordNumber) → times l (flatten logs) ≤ 1 → 0 < times l (get_or logs w []) → look_up l logs ≡ old_in l (get_or logs w []) a
  unfolding look_up
  look_up_first a h k =
      old_at none
      ∙ old_in_absent l before (old_in l (get_or logs w []) (old_in l behind none)) (omega (arith, times_at))
      ∙ old_in_present l (get_or logs w []) (old_in l behind none) a k

  -- the log gets an entry more, for another link
  pub look_up-more : (e : Entry) → (e.link.0 ≡ l.0 → ⊥) → look_up l (set logs w (get_or logs w [] ++ (e ∷ []))) ≡ look_up l logs
  unfolding look_up old_in
  look_up-more e h =
      old_set (get_or logs w [] ++ (e ∷ [])) none
      ∙ ap (old_in l before) (old_in_append l (get_or logs w []) (e ∷ []) (old_in l behind none)
      ∙ ap (old_in l (get_or logs w [])) (old_in_there l e [] (old_in l behind none) h))
      ∙ sym (old_at none)

  -- the log gets an entry more, for this link, of which no log said anything
  pub look_up-added : (e : Entry) → e.link.0 ≡ l.0 → times l (flatten logs) ≡ 0 → look_up l (set logs w (get_or logs w [] ++ (e ∷ []))) ≡ e.old
  unfolding look_up
  look_up-added e h k =
      old_set (get_or logs w [] ++ (e ∷ [])) none
      ∙ old_in_absent l before (old_in l (get_or logs w [] ++ (e ∷ [])) (old_in l behind none)) (omega (arith, times_at))
      ∙ old_in_append l (get_or logs w []) (e ∷ []) (old_in l behind none)
      ∙ old_in_absent l (get_or logs w []) (old_in l (e ∷ []) (old_in l behind none)) (omega (arith, times_at))
      ∙ old_in_here l e [] (old_in l behind none) h

-- ---- the view value

pub view_marked : (p : Pool) (l : LinkNumber) → changed_at p l ≡ true → view_value p l ≡ look_up l p.workers.log
unfolding view_value
view_marked p l e = ap (λ b. cond b (look_up l p.workers.log) (value_at p l)) e

pub view_unmarked : (p : Pool) (l : LinkNumber) → changed_at p l ≡ false → view_value p l ≡ value_at p l
unfolding view_value
view_unmarked p l e = ap (λ b. cond b (look_up l p.workers.log) (value_at p l)) e

pub view_keeps : (P : RecordNumber → Type 0) (p : Pool) (l : LinkNumber) → Each (λ e. P e.old) (all_logs p) → P none → P (value_at p l) → P (view_value p l)
unfolding view_value all_logs
view_keeps P p l old nothing value = by_mark (changed_at p l)
  where
    by_mark : (b : Bool) → P (cond b (look_up l p.workers.log) (value_at p l))
    by_mark true = look_up_keeps P l p.workers.log old nothing
    by_mark false = value
