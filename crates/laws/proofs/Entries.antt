-- Laws of the entries that stand for a link.
--     times_append, old_in_append      of two lists of entries, one after the other
--     old_in_absent, old_in_present, old_in_else     where no entry is for the link, and where one is
--     times_one, times_none, times_cons, old_in_here, old_in_there     the first entry is for the link, or for another
--     times_foreign                   a link that no entry is for
--     times_each                      each entry stands among the entries
--     old_in_keeps, Each-link          what holds of every old value, and of the link of every entry
--     times_from                      the entries of a list from a place on
-- Assumes nothing.
use Prim.Native.Nat.{ℕ, ◌+◌, ◌≤◌, ◌<◌}
use mathlib.Core.Path.{◌≡◌, refl, sym, ap, ◌∙◌, subst}
use mathlib.Core.Logic.{⊎_elim}
use mathlib.Core.Bool.{Bool, true, false, cond}
use mathlib.Core.List.{List, [], ◌∷◌, ◌++◌}
use native.Mathlib.Omega.{arith}
use native.Mathlib.Nat.{eq-zero-or-pos}
use borrow.Author.Tests.{eq-eqb, ne_eqb}
use lib.ListN.{take, drop, take-append-drop}
use lib.Seq.{append_snoc}
use Rattle.rules.specs.declared.LinkNumber.{LinkNumber}
use Rattle.rules.specs.declared.RecordNumber.{RecordNumber}
use Rattle.rules.specs.Pool.{Entry}
use Rattle.rules.specs.View.{bit, stands_for, times, old_in}
use Rattle.rules.specs.Sound.{Each}
use Rattle.laws.proofs.Tests.{eqb_cases}
use Rattle.laws.proofs.Number.{link_same}

-- ---- one list after another

pub times_append : (l : LinkNumber) (xs ys : List Entry) → times l (xs ++ ys) ≡ times l xs + times l ys
unfolding times
times_append l [] ys = omega arith
times_append l (e ∷ xs) ys = omega (arith, times_append l xs ys)

pub old_in_append : (l : LinkNumber) (xs ys : List Entry) (a : RecordNumber) → old_in l (xs ++ ys) a ≡ old_in l xs (old_in l ys a)
unfolding old_in
old_in_append l [] ys a = refl
old_in_append l (e ∷ xs) ys a = ap (cond (stands_for l e) e.old) (old_in_append l xs ys a)

-- ---- no entry for the link, or one

cond_off : (b : Bool) (x y : RecordNumber) → bit b ≡ 0 → cond b x y ≡ y
cond_off true x y h = absurd (omega arith)
cond_off false x y h = refl

cond_else : (b : Bool) (x : RecordNumber) {y z : RecordNumber} → (bit b ≡ 0 → y ≡ z) → cond b x y ≡ cond b x z
cond_else true x h = refl
cond_else false x h = h refl

pub old_in_absent : (l : LinkNumber) (xs : List Entry) (a : RecordNumber) → times l xs ≡ 0 → old_in l xs a ≡ a
unfolding old_in times
old_in_absent l [] a h = refl
old_in_absent l (e ∷ xs) a h = cond_off (stands_for l e) e.old (old_in l xs a) (omega arith) ∙ old_in_absent l xs a (omega arith)

pub old_in_present : (l : LinkNumber) (xs : List Entry) (a b : RecordNumber) → 0 < times l xs → old_in l xs a ≡ old_in l xs b
unfolding old_in times
old_in_present l [] a b h = absurd (omega arith)
old_in_present l (e ∷ xs) a b h = cond_else (stands_for l e) e.old (λ (z : bit (stands_for l e) ≡ 0). old_in_present l xs a b (omega arith))

-- whatever stands behind the entries matters only where none of them is for the link
pub old_in_else : (l : LinkNumber) (xs : List Entry) {a b : RecordNumber} → (times l xs ≡ 0 → a ≡ b) → old_in l xs a ≡ old_in l xs b
old_in_else l xs {a} {b} h =
    ⊎_elim (λ z. ap (old_in l xs) (h z)) (λ (q : 0 < times l xs). old_in_present l xs a b q) (eq-zero-or-pos (times l xs))

-- ---- the first entry

pub times_one : (l : LinkNumber) (e : Entry) → e.link.0 ≡ l.0 → times l (e ∷ []) ≡ 1
unfolding times
times_one l e h = ap (λ b. bit b + 0) (eq-eqb e.link.0 l.0 h)

pub times_none : (l : LinkNumber) (e : Entry) → (e.link.0 ≡ l.0 → ⊥) → times l (e ∷ []) ≡ 0
unfolding times
times_none l e h = ap (λ b. bit b + 0) (ne_eqb e.link.0 l.0 h)

pub times_cons : (l : LinkNumber) (e : Entry) (xs : List Entry) → times l (e ∷ xs) ≡ times l (e ∷ []) + times l xs
times_cons l e xs = times_append l (e ∷ []) xs

pub old_in_here : (l : LinkNumber) (e : Entry) (xs : List Entry) (a : RecordNumber) → e.link.0 ≡ l.0 → old_in l (e ∷ xs) a ≡ e.old
unfolding old_in
old_in_here l e xs a h = ap (λ b. cond b e.old (old_in l xs a)) (eq-eqb e.link.0 l.0 h)

pub old_in_there : (l : LinkNumber) (e : Entry) (xs : List Entry) (a : RecordNumber) → (e.link.0 ≡ l.0 → ⊥) → old_in l (e ∷ xs) a ≡ old_in l xs a
unfolding old_in
old_in_there l e xs a h = ap (λ b. cond b e.old (old_in l xs a)) (ne_eqb e.link.0 l.0 h)

-- ---- what holds of every old value, and of every link of an entry

pub old_in_keeps : (P : RecordNumber → Type 0) (l : LinkNumber) (xs : List Entry) (a : RecordNumber) → Each (λ e. P e.old) xs → P a → P (old_in l xs a)
unfolding old_in
old_in_keeps P l [] a h k = k
old_in_keeps P l (e ∷ xs) a h k = cond_keeps (stands_for l e) h.0 (old_in_keeps P l xs a h.1 k)
  where
    cond_keeps : (b : Bool) {x y : RecordNumber} → P x → P y → P (cond b x y)
    cond_keeps true hx hy = hx
    cond_keeps false hx hy = hy

-- a link that stands among the entries has what holds of the link of each
pub Each-link : (P : LinkNumber → Type 0) (l : LinkNumber) (xs : List Entry) → Each (λ e. P e.link) xs → 0 < times l xs → P l
unfolding times
Each-link P l [] h k = absurd (omega arith)
Each-link P l (e ∷ xs) h k =
    ⊎_elim (λ c. subst P (link_same e.link l c.0) h.0) (λ c. Each-link P l xs h.1 (omega (arith, ap bit c.1))) (eqb_cases e.link.0 l.0)

-- a link that no entry is for
pub times_foreign : (l : LinkNumber) (xs : List Entry) → Each (λ e. e.link.0 ≡ l.0 → ⊥) xs → times l xs ≡ 0
unfolding times
times_foreign l [] h = refl
times_foreign l (e ∷ xs) h = omega (arith, ap bit (ne_eqb e.link.0 l.0 h.0), times_foreign l xs h.1)

-- each entry stands among the entries
pub times_each : (before xs : List Entry) → Each (λ e. 0 < times e.link (before ++ xs)) xs
times_each before [] = tt
times_each before (e ∷ xs) = (
  omega (arith, times_append e.link before (e ∷ xs), times_cons e.link e xs, times_one e.link e refl),
  subst (λ (ys : List Entry). Each (λ x. 0 < times x.link ys) xs) (append_snoc before e xs) (times_each (before ++ (e ∷ [])) xs),
)

-- ---- the entries from a place on

module _ (l : LinkNumber) (xs : List Entry) (i : ℕ) where
  -- no more of them than of all
  pub times_from : times l (drop i xs) ≤ times l xs
  times_from = omega (arith, sym (ap (times l) (take-append-drop i xs)) ∙ times_append l (take i xs) (drop i xs))
