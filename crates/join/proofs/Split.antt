-- Lists of events, each split in two: what was taken, and what is left.
--     Split, split_from        lists that are split, one by one
--     split_many, split-times, split-length     how often a number stands in both, and how many there are
--     flatten_has, flatten-times     a number that stands in one of several lists
--     Sub, order_split, order_most       what was taken stands in all, in the same order
-- Assumes nothing.
use Prim.Native.Nat.{ℕ, zero, suc, ◌+◌, ◌≤◌, ◌<◌, zero-le, suc-le-suc}
use mathlib.Core.Path.{◌≡◌, refl, ap, subst}
use mathlib.Core.Logic.{⊎_elim}
use mathlib.Core.Bool.{Bool, true, false, cond}
use mathlib.Core.List.{List, [], ◌∷◌, ◌++◌, flatten}
use native.Mathlib.Omega.{arith}
use native.Mathlib.Nat.{le_of_suc-le-suc, not-suc-le-zero}
use lib.Dec.{eqb}
use lib.ListN.{length, get_or, length-append}
use Rattle.rules.specs.View.{bit}
use Rattle.laws.proofs.Tests.{below_or_not}
use Rattle.join.specs.Part.{Numbered}
use Rattle.join.specs.Joined.{field_of, in_order}
use Rattle.join.proofs.Numbers.{times, times_append}

pub data Split : List (List Numbered) → List (List Numbered) → List (List Numbered) → Type 0 where
  none : Split [] [] []
  next : (got rest : List Numbered) {gots rests all : List (List Numbered)} → Split gots rests all → Split (got ∷ gots) (rest ∷ rests) ((got ++ rest) ∷ all)

-- the lists that are left, where each is split and what is left of it has a property
pub split_from : (P : ℕ → List Numbered → Type 0) (gots all : List (List Numbered)) → length gots ≡ length all
    → ((i : ℕ) → i < length all → (rest : List Numbered) × (get_or gots i [] ++ rest ≡ get_or all i []) × P i rest)
    → (rests : List (List Numbered)) × Split gots rests all × ((i : ℕ) → i < length all → P i (get_or rests i []))
split_from P [] [] same left = ([], none, λ i h. absurd (not-suc-le-zero h))
split_from P [] (x ∷ all) same left = absurd (omega arith)
split_from P (got ∷ gots) [] same left = absurd (omega arith)
split_from P (got ∷ gots) (x ∷ all) same left =
    let here = left zero (suc-le-suc zero-le) in
    let more = split_from (λ i. P (suc i)) gots all (omega arith) (λ i h. left (suc i) (suc-le-suc h)) in (
      here.0 ∷ more.0,
      subst (λ y. Split (got ∷ gots) (here.0 ∷ more.0) (y ∷ all)) here.1 (next got here.0 more.1),
      each here.0 more.0 here.2 more.2,
    )
  where
    each : (rest : List Numbered) (rests : List (List Numbered)) → P zero rest → ((i : ℕ) → i < length all → P (suc i) (get_or rests i []))
        → (i : ℕ) → i < suc (length all) → P i (get_or (rest ∷ rests) i [])
    each rest rests first others zero h = first
    each rest rests first others (suc i) h = others i (le_of_suc-le-suc h)

pub split_many : {gots rests all : List (List Numbered)} → Split gots rests all → length rests ≡ length all
split_many none = refl
split_many (next got rest s) = ap suc (split_many s)

pub split-times : (x : ℕ) {gots rests all : List (List Numbered)} → Split gots rests all → times x (flatten all) ≡ times x (flatten gots) + times x (flatten rests)
unfolding flatten times
split-times x none = omega arith
split-times x (next got rest {gots} {rests} {all} s) =
    omega (
      arith,
      times_append x (got ++ rest) (flatten all),
      times_append x got rest,
      times_append x got (flatten gots),
      times_append x rest (flatten rests),
      split-times x s,
    )

pub split-length : {gots rests all : List (List Numbered)} → Split gots rests all → length (flatten all) ≡ length (flatten gots) + length (flatten rests)
unfolding flatten
split-length none = refl
split-length (next got rest {gots} {rests} {all} s) =
    omega (
      arith,
      length-append (got ++ rest) (flatten all),
      length-append got rest,
      length-append got (flatten gots),
      length-append rest (flatten rests),
      split-length s,
    )

pub flatten_has : (x : ℕ) (lists : List (List Numbered)) → 1 ≤ times x (flatten lists) → (i : ℕ) × (i < length lists) × (1 ≤ times x (get_or lists i []))
unfolding flatten times
flatten_has x [] h = absurd (omega arith)
flatten_has x (l ∷ lists) h =
    ⊎_elim
    (λ (here : 0 < times x l). (zero, suc-le-suc zero-le, here))
    (λ (none : times x l ≤ 0).
    let more = flatten_has x lists (omega (arith, times_append x l (flatten lists))) in
    (suc more.0, suc-le-suc more.1, more.2))
    (below_or_not 0 (times x l))

pub flatten-times : (x : ℕ) (lists : List (List Numbered)) (i : ℕ) → times x (get_or lists i []) ≤ times x (flatten lists)
unfolding flatten times
flatten-times x [] i = omega arith
flatten-times x (l ∷ lists) zero = omega (arith, times_append x l (flatten lists))
flatten-times x (l ∷ lists) (suc i) = omega (arith, times_append x l (flatten lists), flatten-times x lists i)

-- ---- what was taken stands in all, in the same order

data Sub : List Numbered → List Numbered → Type 0 where
  empty : Sub [] []
  keep : (e : Numbered) {xs ys : List Numbered} → Sub xs ys → Sub (e ∷ xs) (e ∷ ys)
  skip : (e : Numbered) {xs ys : List Numbered} → Sub xs ys → Sub xs (e ∷ ys)

sub_behind : {us vs : List Numbered} (xs ys : List Numbered) → Sub us vs → Sub (xs ++ us) ((xs ++ ys) ++ vs)
sub_behind [] [] s = s
sub_behind [] (e ∷ ys) s = skip e (sub_behind [] ys s)
sub_behind (e ∷ xs) ys s = keep e (sub_behind xs ys s)

split_sub : {gots rests all : List (List Numbered)} → Split gots rests all → Sub (flatten gots) (flatten all)
unfolding flatten
split_sub none = empty
split_sub (next got rest s) = sub_behind got rest (split_sub s)

sub_times : (x : ℕ) {xs ys : List Numbered} → Sub xs ys → times x xs ≤ times x ys
unfolding times
sub_times x empty = omega arith
sub_times x (keep e s) = omega (arith, sub_times x s)
sub_times x (skip e s) = omega (arith, sub_times x s)

-- a number that stands once in all is the same event in both
sub_field : (x : ℕ) {xs ys : List Numbered} → Sub xs ys → 1 ≤ times x xs → times x ys ≤ 1 → field_of x xs ≡ field_of x ys
unfolding times field_of
sub_field x empty h k = refl
sub_field x (keep e {xs} {ys} s) h k = by_test (eqb e.number x) h k (sub_field x s)
  where
    by_test : (b : Bool) → 1 ≤ bit b + times x xs → bit b + times x ys ≤ 1 → (1 ≤ times x xs → times x ys ≤ 1 → field_of x xs ≡ field_of x ys)
        → cond b e.bytes (field_of x xs) ≡ cond b e.bytes (field_of x ys)
    by_test true h k rest = refl
    by_test false h k rest = rest (omega arith) (omega arith)
sub_field x (skip e {xs} {ys} s) h k = by_test (eqb e.number x) k (sub_field x s) (sub_times x s)
  where
    by_test : (b : Bool) → bit b + times x ys ≤ 1 → (1 ≤ times x xs → times x ys ≤ 1 → field_of x xs ≡ field_of x ys) → times x xs ≤ times x ys
        → field_of x xs ≡ cond b e.bytes (field_of x ys)
    by_test true k rest most = absurd (omega arith)
    by_test false k rest most = rest h (omega arith)

pub order_split : (n : ℕ) {gots rests all : List (List Numbered)} → Split gots rests all
    → ((x : ℕ) → 1 ≤ x → x ≤ n → 1 ≤ times x (flatten gots)) → ((x : ℕ) → 1 ≤ x → x ≤ n → times x (flatten all) ≤ 1)
    → in_order n (flatten gots) ≡ in_order n (flatten all)
unfolding in_order
order_split zero s some once = refl
order_split (suc n) s some once =
    let before = order_split n s (λ x low high. some x low (omega arith)) (λ x low high. once x low (omega arith)) in
    let last = sub_field (suc n) (split_sub s) (some (suc n) (omega arith) (omega arith)) (once (suc n) (omega arith) (omega arith)) in
    λ j. before j ++ last j

pub order_most : (n m : ℕ) (events : List Numbered) → n ≤ m → length (in_order n events) ≤ length (in_order m events)
unfolding in_order
order_most n zero events h = ⊎_elim (λ (k : 0 < n). absurd (omega arith)) (λ (k : n ≤ 0). let e : n ≡ 0 = omega arith in rw e (omega arith)) (below_or_not 0 n)
order_most n (suc m) events h =
    ⊎_elim
    (λ (k : n < suc m). omega (arith, order_most n m events (omega arith), length-append (in_order m events) (field_of (suc m) events)))
    (λ (k : suc m ≤ n). let e : n ≡ suc m = omega arith in rw e (omega arith))
    (below_or_not n (suc m))
