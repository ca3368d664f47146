-- A number in decimal digits.
--     decimal_is                    they are those that std writes
--     decimal_one, decimal_more     the digits of a number below 10, and those of any other
--     decimal_20, decimal_most, decimal_some     how many there are at most, and at least
--     decimal_least                 and how many a number has that is no less than a power of ten
--     power_some                    a power of ten is not 0
--     decimal_next, raised          the digits of the next number, where one digit alone changes
-- Assumes nothing.
use Prim.Native.Nat.{ℕ, zero, suc, ◌+◌, ◌-◌, ◌^◌, ◌/◌, ◌%◌, ◌≤◌, ◌<◌, zero-le}
use mathlib.Core.Path.{◌≡◌, refl, sym, ap, ◌∙◌}
use mathlib.Core.Logic.{by_cases}
use mathlib.Core.List.{List, [], ◌∷◌, ◌++◌}
use native.Mathlib.Omega.{arith}
use native.Mathlib.Decide.{dec_lt}
use borrow.Author.Tests.{lt-ltb, le-ltb}
use lib.ListN.{length, get_or, take, set, length-append, length-set}
use lib.Seq.{take_at, get_or_at, take-suc, take-suc-set}
use Rattle.std.specs.Fmt as std
use Rattle.std.proofs.lemmas.Fmt.{AppendsLastDigit, decimal_from_appends, decimal_step, length-decimal-le}
use Rattle.text.specs.Text.{digits, decimal, StartsWith}

appends : AppendsLastDigit digits
unfolding digits
appends = record { one = λ k n low. rw (lt-ltb n 10 low); more = λ k n high. rw (le-ltb n 10 high) }

pub decimal_is : (n : ℕ) → n < 2 ^ 64 → decimal n ≡ std.decimal n
decimal_is n fits = decimal_from_appends digits appends 20 n fits (length-decimal-le 20 n (omega arith) (omega arith) fits)

pub decimal_one : (n : ℕ) → n < 10 → decimal n ≡ (48 + n) ∷ []
decimal_one n low = appends.one 19 n low

pub decimal_more : (n : ℕ) → 10 ≤ n → n < 2 ^ 64 → decimal n ≡ decimal (n / 10) ++ ((48 + n % 10) ∷ [])
decimal_more n high fits =
    decimal_is n fits ∙ decimal_step n high fits ∙ ap (λ (ds : List ℕ). ds ++ ((48 + n % 10) ∷ [])) (sym (decimal_is (n / 10) (omega arith)))

-- no number has more than 20
digits_most : (most n : ℕ) → length (digits most n) ≤ most
unfolding digits
digits_most zero n = zero-le
digits_most (suc most) n =
    by_cases (dec_lt n 10)
    (λ low. rw (lt-ltb n 10 low) (omega arith))
    (λ high. rw (le-ltb n 10 (omega arith)) (omega (arith, length-append (digits most (n / 10)) ((48 + n % 10) ∷ []), digits_most most (n / 10))))

pub decimal_20 : (n : ℕ) → length (decimal n) ≤ 20
decimal_20 n = digits_most 20 n

pub decimal_most : (k n : ℕ) → 0 < k → n < 10 ^ k → n < 2 ^ 64 → length (decimal n) ≤ k
decimal_most k n some few fits = omega (arith, ap length (decimal_is n fits), length-decimal-le k n some few fits)

pub decimal_some : (n : ℕ) → 1 ≤ length (decimal n)
decimal_some n =
    by_cases (dec_lt n 10)
    (λ low. rw (decimal_one n low) (omega arith))
    (λ high. rw (appends.more 19 n (omega arith)) (omega (arith, length-append (digits 19 (n / 10)) ((48 + n % 10) ∷ []))))

pub power_some : (m : ℕ) → 1 ≤ 10 ^ m
power_some zero = omega arith
power_some (suc m) = omega (arith, power_some m)

pub decimal_least : (m n : ℕ) → 10 ^ m ≤ n → n < 2 ^ 64 → suc m ≤ length (decimal n)
decimal_least zero n h fits = decimal_some n
decimal_least (suc m) n h fits =
    let ten : 10 ≤ n = omega (arith, power_some m) in
    omega (arith, ap length (decimal_more n ten fits), length-append (decimal (n / 10)) ((48 + n % 10) ∷ []), decimal_least m (n / 10) (omega arith) (omega arith))

-- ---- the next number

last_alike : (a b : List ℕ) (x y : ℕ) → a ++ (x ∷ []) ≡ b ++ (y ∷ []) → (a ≡ b) × (x ≡ y)
last_alike a b x y e =
    let same : length b ≡ length a = omega (arith, ap length e, length-append a (x ∷ []), length-append b (y ∷ [])) in (
      sym (take_at a (x ∷ []) (length a) refl) ∙ ap (take (length a)) e ∙ take_at b (y ∷ []) (length a) same,
      sym (get_or_at a x [] 0 (length a) refl) ∙ ap (λ (l : List ℕ). get_or l (length a) 0) e ∙ get_or_at b y [] 0 (length a) same,
    )

-- its last digit is not a 9
pub decimal_next : (n : ℕ) (front : List ℕ) (last : ℕ) → n < 4294967295 → decimal n ≡ front ++ (last ∷ []) → last < 57 → decimal (n + 1) ≡ front ++ ((last + 1) ∷ [])
decimal_next n front last fits e low = by_cases (dec_lt n 10) few many
  where
    few : n < 10 → decimal (n + 1) ≡ front ++ ((last + 1) ∷ [])
    few h =
        let same = last_alike [] front (48 + n) last (sym (decimal_one n h) ∙ e) in
        decimal_one (n + 1) (omega (arith, same.1)) ∙ (λ j. same.0 j ++ ((let next : 48 + (n + 1) ≡ last + 1 = omega (arith, same.1) in next) j ∷ []))

    many : (n < 10 → ⊥) → decimal (n + 1) ≡ front ++ ((last + 1) ∷ [])
    many h =
        let ten : 10 ≤ n = omega arith in
        let same = last_alike (decimal (n / 10)) front (48 + n % 10) last (sym (decimal_more n ten (omega arith)) ∙ e) in
        let tens : (n + 1) / 10 ≡ n / 10 = omega (arith, same.1) in
        let unit : 48 + (n + 1) % 10 ≡ last + 1 = omega (arith, same.1) in
        decimal_more (n + 1) (omega arith) (omega arith) ∙ (λ j. (ap decimal tens ∙ same.0) j ++ (unit j ∷ []))

-- digits that are kept, when the last of them is raised
pub raised : (digits : List ℕ) (places n : ℕ) → n < 4294967295 → StartsWith digits places (decimal n) → get_or digits (places - 1) 0 < 57
    → StartsWith (set digits (places - 1) (get_or digits (places - 1) 0 + 1)) places (decimal (n + 1))
raised digits places n few was low =
    let k = places - 1 in
    let last = get_or digits k 0 in
    let inside : k < length digits = omega (arith, was.whole, was.inside, decimal_some n) in
    let size : places ≡ suc k = omega (arith, was.whole, decimal_some n) in
    let before : decimal n ≡ take k digits ++ (last ∷ []) = sym was.bytes ∙ ap (λ (i : ℕ). take i digits) size ∙ take-suc digits k 0 inside in
    let after : decimal (n + 1) ≡ take k digits ++ ((last + 1) ∷ []) = decimal_next n (take k digits) last few before low in
    record {
      whole = omega (arith, was.whole, ap length before, ap length after, length-append (take k digits) (last ∷ []), length-append (take k digits) ((last + 1) ∷ []));
      inside = simp length-set was.inside;
      bytes = ap (λ (i : ℕ). take i (set digits k (last + 1))) size ∙ take-suc-set digits k (last + 1) inside ∙ sym after;
    }
