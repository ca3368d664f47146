-- The numbers of events in a list.
--     hit, times                       how often a number stands there
--     times_append, stands-times, times-stands     of two lists, and as a test
--     Insert, put_inserts              one event more, somewhere in a list
--     times_inserted, hit_same, hit_other, length_inserted, order_inserted     what that changes
--     all_stand, each_once                        n events among which each number from 1 to n stands: each stands once
-- Assumes nothing.
use Prim.Native.Nat.{ℕ, zero, suc, ◌+◌, ◌≤◌, ◌<◌}
use mathlib.Core.Path.{◌≡◌, refl, ap}
use mathlib.Core.Logic.{⊎_elim}
use mathlib.Core.Bool.{Bool, true, false, cond, ◌||◌}
use mathlib.Core.List.{List, [], ◌∷◌, ◌++◌, flatten}
use native.Mathlib.Omega.{arith}
use native.Mathlib.Nat.{le_of_suc-le-suc, not-suc-le-zero}
use borrow.Author.Tests.{eq-eqb, ne_eqb}
use lib.Dec.{eqb}
use lib.ListN.{length, get_or, set}
use Rattle.rules.specs.View.{bit}
use Rattle.laws.proofs.Tests.{never, below_or_not, eqb_cases, bit_most, and_left, and_right, and_both}
use Rattle.join.specs.Part.{Numbered}
use Rattle.join.specs.Joined.{stands, stand_to, field_of, in_order}

-- ---- how often a number stands in a list

abbrev pub hit : ℕ → Numbered → ℕ
hit x e = bit (eqb e.number x)

unfoldable pub times : ℕ → List Numbered → ℕ
times x [] = 0
times x (e ∷ events) = hit x e + times x events

pub times_append : (x : ℕ) (xs ys : List Numbered) → times x (xs ++ ys) ≡ times x xs + times x ys
unfolding times
times_append x [] ys = omega arith
times_append x (e ∷ xs) ys = omega (arith, times_append x xs ys)

pub stands-times : (x : ℕ) (events : List Numbered) → stands x events ≡ true → 1 ≤ times x events
unfolding times stands
stands-times x [] h = absurd (never h)
stands-times x (e ∷ events) h = by_test (eqb e.number x) h (stands-times x events)
  where
    by_test : (b : Bool) → (b || stands x events) ≡ true → (stands x events ≡ true → 1 ≤ times x events) → 1 ≤ bit b + times x events
    by_test true k rest = omega arith
    by_test false k rest = omega (arith, rest k)

pub times-stands : (x : ℕ) (events : List Numbered) → 1 ≤ times x events → stands x events ≡ true
unfolding times stands
times-stands x [] h = absurd (omega arith)
times-stands x (e ∷ events) h = by_test (eqb e.number x) h (times-stands x events)
  where
    by_test : (b : Bool) → 1 ≤ bit b + times x events → (1 ≤ times x events → stands x events ≡ true) → (b || stands x events) ≡ true
    by_test true k rest = refl
    by_test false k rest = rest (omega arith)

-- ---- one event more

pub data Insert (e : Numbered) : List Numbered → List Numbered → Type 0 where
  here : {xs : List Numbered} → Insert e xs (e ∷ xs)
  there : {a : Numbered} {xs ys : List Numbered} → Insert e xs ys → Insert e (a ∷ xs) (a ∷ ys)

insert_behind : (e : Numbered) (xs ys : List Numbered) → Insert e (xs ++ ys) ((xs ++ (e ∷ [])) ++ ys)
insert_behind e [] ys = here
insert_behind e (a ∷ xs) ys = there (insert_behind e xs ys)

insert_before : {e : Numbered} (xs : List Numbered) {ys zs : List Numbered} → Insert e ys zs → Insert e (xs ++ ys) (xs ++ zs)
insert_before [] h = h
insert_before (a ∷ xs) h = there (insert_before xs h)

-- an event that is added to one of several lists
pub put_inserts : (e : Numbered) (lists : List (List Numbered)) (i : ℕ) → i < length lists
    → Insert e (flatten lists) (flatten (set lists i (get_or lists i [] ++ (e ∷ []))))
unfolding flatten
put_inserts e [] i h = absurd (not-suc-le-zero h)
put_inserts e (xs ∷ lists) zero h = insert_behind e xs (flatten lists)
put_inserts e (xs ∷ lists) (suc i) h = insert_before xs (put_inserts e lists i (le_of_suc-le-suc h))

pub times_inserted : (x : ℕ) {e : Numbered} {xs ys : List Numbered} → Insert e xs ys → times x ys ≡ hit x e + times x xs
unfolding times
times_inserted x here = refl
times_inserted x (there h) = omega (arith, times_inserted x h)

pub hit_same : (x : ℕ) (e : Numbered) → e.number ≡ x → hit x e ≡ 1
hit_same x e h = ap bit (eq-eqb e.number x h)

pub hit_other : (x : ℕ) (e : Numbered) → (e.number ≡ x → ⊥) → hit x e ≡ 0
hit_other x e h = ap bit (ne_eqb e.number x h)

pub length_inserted : {e : Numbered} {xs ys : List Numbered} → Insert e xs ys → length ys ≡ suc (length xs)
length_inserted here = refl
length_inserted (there h) = ap suc (length_inserted h)

field_same : {e : Numbered} {xs ys : List Numbered} → Insert e xs ys → times e.number xs ≡ 0 → field_of e.number ys ≡ e.bytes
unfolding times field_of
field_same {e} here none = rw (eq-eqb e.number e.number refl)
field_same {e} (there {a} {xs} {ys} h) none = by_test (eqb a.number e.number) none (field_same h)
  where
    by_test : (b : Bool) → bit b + times e.number xs ≡ 0 → (times e.number xs ≡ 0 → field_of e.number ys ≡ e.bytes)
        → cond b a.bytes (field_of e.number ys) ≡ e.bytes
    by_test true k rest = absurd (omega arith)
    by_test false k rest = rest (omega arith)

field_other : (x : ℕ) {e : Numbered} {xs ys : List Numbered} → Insert e xs ys → (e.number ≡ x → ⊥) → field_of x ys ≡ field_of x xs
unfolding field_of
field_other x {e} here other = rw (ne_eqb e.number x other)
field_other x (there {a} {xs} {ys} h) other = ap (λ (f : List ℕ). cond (eqb a.number x) a.bytes f) (field_other x h other)

order_other : (k : ℕ) {e : Numbered} {xs ys : List Numbered} → Insert e xs ys → k < e.number → in_order k ys ≡ in_order k xs
unfolding in_order
order_other zero h above = refl
order_other (suc k) h above = λ j. order_other k h (omega arith) j ++ field_other (suc k) h (λ e. omega arith) j

-- the next number: its field comes last
pub order_inserted : (k : ℕ) {e : Numbered} {xs ys : List Numbered} → Insert e xs ys → e.number ≡ suc k → times (suc k) xs ≡ 0
    → in_order (suc k) ys ≡ in_order k xs ++ e.bytes
unfolding in_order
order_inserted k {e} {xs} {ys} h is none =
    let next : field_of (suc k) ys ≡ e.bytes = rw (← is) (field_same h (rw is none)) in
    λ j. order_other k h (omega arith) j ++ next j

-- ---- as many events xs numbers

-- how many of the events have a number from 1 to n
unfoldable numbered : ℕ → List Numbered → ℕ
numbered zero events = 0
numbered (suc n) events = times (suc n) events + numbered n events

-- an event counts once at most
numbered_more : (n : ℕ) (e : Numbered) (events : List Numbered) → numbered n (e ∷ events) ≤ suc (numbered n events)
unfolding numbered times
numbered_more n e events = ⊎_elim (λ (h : n < e.number). omega (arith, beyond n h)) (λ h. within n) (below_or_not n e.number)
  where
    beyond : (m : ℕ) → m < e.number → numbered m (e ∷ events) ≡ numbered m events
    beyond zero h = refl
    beyond (suc m) h = omega (arith, beyond m (omega arith), hit_other (suc m) e (λ k. omega arith))

    within : (m : ℕ) → numbered m (e ∷ events) ≤ suc (numbered m events)
    within zero = omega arith
    within (suc m) =
        ⊎_elim
        (λ k. omega (arith, beyond m (let is = k.0 in omega arith), bit_most (eqb e.number (suc m))))
        (λ k. omega (arith, within m, hit_other (suc m) e k.0))
        (eqb_cases e.number (suc m))

numbered_most : (n : ℕ) (events : List Numbered) → numbered n events ≤ length events
unfolding numbered times
numbered_most n [] = none n
  where
    none : (m : ℕ) → numbered m [] ≤ 0
    none zero = omega arith
    none (suc m) = omega (arith, none m)
numbered_most n (e ∷ events) = omega (arith, numbered_more n e events, numbered_most n events)

stand_all : (n : ℕ) (events : List Numbered) → stand_to n events ≡ true → (x : ℕ) → 1 ≤ x → x ≤ n → 1 ≤ times x events
unfolding stand_to
stand_all zero events h x low high = absurd (omega arith)
stand_all (suc n) events h x low high =
    ⊎_elim
    (λ (k : x < suc n). stand_all n events (and_left (stand_to n events) (stands (suc n) events) h) x low (omega arith))
    (λ (k : suc n ≤ x).
    let last = stands-times (suc n) events (and_right (stand_to n events) (stands (suc n) events) h) in
    let same : x ≡ suc n = omega arith in
    rw same last)
    (below_or_not x (suc n))

pub all_stand : (n : ℕ) (events : List Numbered) → ((x : ℕ) → 1 ≤ x → x ≤ n → 1 ≤ times x events) → stand_to n events ≡ true
unfolding stand_to
all_stand zero events h = refl
all_stand (suc n) events h =
    and_both (stand_to n events) (stands (suc n) events) (all_stand n events (λ x low high. h x low (omega arith)))
    (times-stands (suc n) events (h (suc n) (omega arith) (omega arith)))

module _ (events : List Numbered) (all : stand_to (length events) events ≡ true) where
  -- n numbers that stand there are at least n events, and one more for a number that stands twice
  count_up : (n : ℕ) → n ≤ length events → n ≤ numbered n events
  unfolding numbered
  count_up zero h = omega arith
  count_up (suc n) h = omega (arith, count_up n (omega arith), stand_all (length events) events all (suc n) (omega arith) h)

  twice : (n x : ℕ) → n ≤ length events → 1 ≤ x → x ≤ n → 2 ≤ times x events → suc n ≤ numbered n events
  unfolding numbered
  twice zero x h low high two = absurd (omega arith)
  twice (suc n) x h low high two =
      ⊎_elim
      (λ (k : x < suc n). omega (arith, twice n x (omega arith) low (omega arith) two, stand_all (length events) events all (suc n) (omega arith) h))
      (λ (k : suc n ≤ x).
      let same : x ≡ suc n = omega arith in
      let last : 2 ≤ times (suc n) events = rw (← same) two in
      omega (arith, count_up n (omega arith)))
      (below_or_not x (suc n))

  pub each_once : (x : ℕ) → 1 ≤ x → x ≤ length events → times x events ≡ 1
  each_once x low high =
      ⊎_elim
      (λ (k : times x events < 2). omega (arith, stand_all (length events) events all x low high))
      (λ (k : 2 ≤ times x events). absurd (omega (arith, twice (length events) x (omega arith) low high k, numbered_most (length events) events)))
      (below_or_not (times x events) 2)
