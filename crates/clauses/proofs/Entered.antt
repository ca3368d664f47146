-- What is noted of each link after a list of entries.
--     raised                           a table of which one number rises
--     own_place, no_place, place_low   the place of a link
--     Sized, sized-entered             there are 8,208 places, before and after
--     entered_tells                    every entry is in range
--     seen_entered                     what was seen of a link rises with each of its entries
--     last_entered                     the last that is noted of a link is the old value of its one entry
--     valued_tells, sized-valued, last_valued     the links' values are noted
-- Assumes nothing.
use Prim.Native.Nat.{ℕ, ◌+◌, ◌*◌, ◌≤◌, ◌<◌}
use mathlib.Core.Path.{◌≡◌, refl, sym, ap, ◌∙◌}
use mathlib.Core.Logic.Iff
use mathlib.Core.Logic.{⊎_elim}
use mathlib.Core.Bool.{cond}
use mathlib.Core.List.{List, [], ◌∷◌, ◌++◌}
use native.Mathlib.Omega.{arith}
use borrow.Author.Tests.{lt-ltb, le-ltb}
use lib.Dec.{eqb}
use lib.ListN.{length, get_or, drop, set, length-set, get_or-append}
use lib.Seq.{get_or-set_same, get_or-set_other, length-paste, take-length}
use Rattle.rules.specs.declared.Sizes.{Sizes}
use Rattle.rules.specs.declared.LinkNumber.{LinkNumber}
use Rattle.rules.specs.declared.RecordNumber.{RecordNumber}
use Rattle.rules.specs.Size.{links}
use Rattle.rules.specs.Pool.{Entry}
use Rattle.rules.specs.View.{bit, times, old_in}
use Rattle.rules.specs.Sound.{Each, EntryInRange}
use Rattle.tables.specs.Lie.{record_number}
use Rattle.laws.proofs.Tests.{eqb_cases, below_or_not}
use Rattle.laws.proofs.Entries.{times_cons, times_one, old_in_absent, old_in_here, old_in_there}
use Rattle.clauses.specs.Entered.{Noted, place_of, entered, entered_all}
use Rattle.clauses.specs.Inspected.{valued}
use Rattle.clauses.proofs.Tests.{Tells, most_tells, less_tells, ◌and◌, every_tells}

-- ---- a number rises

pub raised : (xs : List ℕ) (i by j : ℕ) → i < length xs → get_or (set xs i (get_or xs i 0 + by)) j 0 ≡ get_or xs j 0 + bit (eqb i j) * by
raised xs i by j h =
    let v : ℕ = get_or xs i 0 + by in
    ⊎_elim
    (λ e.
    ap (λ (k : ℕ). get_or (set xs i v) k 0) (sym e.0)
    ∙ get_or-set_same xs i v 0 h
    ∙ omega (arith, ap (λ (k : ℕ). get_or xs k 0) e.0, ap (λ b. bit b * by) e.1))
    (λ e. get_or-set_other xs i j v 0 (λ k. e.0 (sym k)) ∙ omega (arith, ap (λ b. bit b * by) e.1))
    (eqb_cases i j)

-- ---- entries

-- each link has its own place
pub own_place : (l : ℕ) → l < 8208 → place_of l ≡ l
unfolding place_of
own_place l low = ap (λ b. cond b l 0) (lt-ltb l 8208 low)

pub no_place : (l : ℕ) → 8208 ≤ l → place_of l ≡ 0
unfolding place_of
no_place l past = ap (λ b. cond b l 0) (le-ltb l 8208 past)

pub place_low : (l : ℕ) → place_of l < 8208
place_low l = ⊎_elim (λ low. omega (arith, own_place l low)) (λ past. omega (arith, no_place l past)) (below_or_not l 8208)

pub record Sized (x : Noted) : Type 0 where
  pub seen : length x.seen ≡ 8208
  pub last : length x.last ≡ 8208

module _ (s : Sizes) (by : ℕ) where
  abbrev enter : List Entry → Noted → Noted
  enter = entered_all (links s) s.n by

  abbrev enter_one : Entry → Noted → Noted
  enter_one = entered (links s) s.n by

  sized_one : (e : Entry) (x : Noted) → Sized x → Sized (enter_one e x)
  unfolding entered
  sized_one e x h = record { seen = length-set x.seen _ _ ∙ h.seen; last = length-set x.last _ _ ∙ h.last }

  pub sized-entered : (xs : List Entry) (x : Noted) → Sized x → Sized (enter xs x)
  unfolding entered_all
  sized-entered [] x h = h
  sized-entered (e ∷ xs) x h = sized-entered xs (enter_one e x) (sized_one e x h)

  pub entered_tells : (xs : List Entry) (x : Noted) {A : Type 0} → Tells x.ok A → Tells (enter xs x).ok (A × Each (EntryInRange s) xs)
  unfolding entered_all entered
  entered_tells [] x h = (λ k. (h.0 k, tt), λ k. h.1 k.0)
  entered_tells (e ∷ xs) x h =
      Iff.trans (entered_tells xs (enter_one e x) (h and less_tells e.link.0 (links s) and most_tells e.old.0 s.n))
      (λ (((a, link), old), rest). (a, (record { link = link; old = old }, rest)), λ (a, (here, rest)). (((a, here.link), here.old), rest))

  -- ---- entries in range, each of which has its own place

  module _ (low : links s ≤ 8208) (l : LinkNumber) where
    stands : (e : Entry) → EntryInRange s e → place_of e.link.0 ≡ e.link.0
    stands e h = own_place e.link.0 (omega (arith, h.link))

    pub seen_entered : (xs : List Entry) (x : Noted) → Sized x → Each (EntryInRange s) xs
        → get_or (enter xs x).seen l.0 0 ≡ get_or x.seen l.0 0 + times l xs * by
    unfolding entered_all entered times
    seen_entered [] x h range = omega arith
    seen_entered (e ∷ xs) x h range =
        seen_entered xs (enter_one e x) (sized_one e x h) range.1
        ∙ omega (arith, raised x.seen (place_of e.link.0) by l.0 (omega (arith, place_low e.link.0, h.seen)), ap (λ (i : ℕ). bit (eqb i l.0) * by) (stands e range.0))

    pub last_entered : (xs : List Entry) (x : Noted) → Sized x → Each (EntryInRange s) xs → times l xs ≤ 1
        → record_number (get_or (enter xs x).last l.0 0) ≡ old_in l xs (record_number (get_or x.last l.0 0))
    unfolding entered_all entered old_in
    last_entered [] x h range once = refl
    last_entered (e ∷ xs) x h range once =
        last_entered xs (enter_one e x) (sized_one e x h) range.1 (omega (arith, times_cons l e xs))
        ∙ ⊎_elim
        (λ same.
        old_in_absent l xs _ (omega (arith, times_cons l e xs, times_one l e same.0))
        ∙ ap (λ (k : ℕ). record_number (get_or (set x.last place e.old.0) k 0)) (sym (own ∙ same.0))
        ∙ ap record_number (get_or-set_same x.last place e.old.0 0 (omega (arith, h.last, place_low e.link.0)))
        ∙ sym (old_in_here l e xs before same.0))
        (λ other.
        ap (λ (n : ℕ). old_in l xs (record_number n)) (get_or-set_other x.last place l.0 e.old.0 0 (λ k. other.0 (sym own ∙ sym k)))
        ∙ sym (old_in_there l e xs before other.0))
        (eqb_cases e.link.0 l.0)
      where
        place : ℕ
        place = place_of e.link.0

        own : place ≡ e.link.0
        own = stands e range.0

        before : RecordNumber
        before = record_number (get_or x.last l.0 0)

-- ---- the links' values

module _ (records : ℕ) (values : List ℕ) (x : Noted) where
  pub valued_tells : {A : Type 0} → Tells x.ok A → Tells (valued records values x).ok (A × Each (λ n. n ≤ records) values)
  unfolding valued
  valued_tells h = h and every_tells (λ n. most_tells n records) values

  pub sized-valued : length values ≤ 8208 → Sized x → Sized (valued records values x)
  unfolding valued
  sized-valued low h =
      record { seen = h.seen; last = length-paste x.last 0 values (length values) (omega (arith, h.last)) (omega arith) ∙ h.last }

  pub last_valued : (l : ℕ) → l < length values → get_or (valued records values x).last l 0 ≡ get_or values l 0
  unfolding valued
  last_valued l k =
      ap (λ ys. get_or (ys ++ drop (0 + length values) x.last) l 0) (take-length values) ∙ get_or-append values (drop (0 + length values) x.last) 0 l k
