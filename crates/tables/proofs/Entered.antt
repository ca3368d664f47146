-- A list of entries in its room.
--     length-entries, entries_at     the entries that are read from a room
--     length-laid, laid_past         the room that a list is laid in: its length, and 0 past the list
--     laid-entries, entries-laid     reading and laying undo each other
--     laid_empty                     the room of an empty list
--     laid-added                     the room of a list with an entry more
--     laid_joined                    the room of two lists, one after the other
-- Assumes nothing.
use Prim.Native.Nat.{ℕ, zero, suc, ◌+◌, ◌*◌, ◌≤◌, ◌<◌}
use mathlib.Core.Path.{◌≡◌, refl, sym, ap, ◌∙◌}
use mathlib.Core.List.{List, [], ◌∷◌, ◌++◌}
use native.Mathlib.Omega.{arith}
use native.Mathlib.Nat.{le_of_suc-le-suc, not-suc-le-zero}
use lib.ListN.{length, get_or, take, drop, set, replicate}
use lib.Seq.{paste}
use Rattle.rules.specs.Pool.{Entry}
use Rattle.rules.specs.Collect.{no_entry}
use Rattle.rules.specs.Sound.{Each}
use Rattle.tables.specs.Lie.{link_number_of, record_number, entries, laid}

-- twice a number that is one more
double : (n : ℕ) → suc n * 2 ≡ suc (suc (n * 2))
double n = omega arith

-- ---- reading

-- the entry at place i of a room
abbrev pub entry_in : List ℕ → ℕ → Entry
entry_in room i = record { link = link_number_of (get_or room (i * 2) 0); old = record_number (get_or room (i * 2 + 1) 0) }

pub length-entries : (n : ℕ) (room : List ℕ) → length (entries n room) ≡ n
unfolding entries
length-entries zero room = refl
length-entries (suc n) room = ap suc (length-entries n (drop 2 room))

get_d_drop_two : (room : List ℕ) (i : ℕ) → get_or (drop 2 room) i 0 ≡ get_or room (suc (suc i)) 0
get_d_drop_two [] i = refl
get_d_drop_two (x ∷ []) i = refl
get_d_drop_two (x ∷ y ∷ room) i = refl

pub entries_at : (n : ℕ) (room : List ℕ) (i : ℕ) → i < n → get_or (entries n room) i no_entry ≡ entry_in room i
unfolding entries
entries_at zero room i h = absurd (not-suc-le-zero h)
entries_at (suc n) room zero h = refl
entries_at (suc n) room (suc i) h =
    entries_at n (drop 2 room) i (le_of_suc-le-suc h)
    ∙ (λ j.
    record {
      link = link_number_of ((get_d_drop_two room (i * 2) ∙ ap (λ (k : ℕ). get_or room k 0) (let e : suc (suc (i * 2)) ≡ suc i * 2 = omega arith in e)) j);
      old = record_number ((get_d_drop_two room (i * 2 + 1) ∙ ap (λ (k : ℕ). get_or room k 0) (let e : suc (suc (i * 2 + 1)) ≡ suc i * 2 + 1 = omega arith in e)) j);
    })

-- ---- laying

pub length-laid : (room : ℕ) (list : List Entry) → length (laid room list) ≡ room * 2
unfolding laid
length-laid zero list = refl
length-laid (suc room) [] = omega (arith, length-laid room [])
length-laid (suc room) (e ∷ list) = omega (arith, length-laid room list)

pub laid_empty : (room : ℕ) → laid room [] ≡ replicate (room * 2) 0
unfolding laid
laid_empty zero = refl
laid_empty (suc room) = rw double (ap (λ xs. 0 ∷ 0 ∷ xs) (laid_empty room))

-- 0 in every entry past the list's length
pub laid_past : (room : ℕ) (list : List Entry) → Each (λ x. x ≡ 0) (drop (length list * 2) (laid room list))
unfolding laid
laid_past zero [] = tt
laid_past zero (e ∷ list) = rw double tt
laid_past (suc room) [] = (refl, (refl, laid_past room []))
laid_past (suc room) (e ∷ list) = rw double (laid_past room list)

-- ---- there and back

pub entries-laid : (room : ℕ) (list : List Entry) → length list ≤ room → entries (length list) (laid room list) ≡ list
unfolding entries laid
entries-laid room [] h = refl
entries-laid zero (e ∷ list) h = absurd (not-suc-le-zero h)
entries-laid (suc room) (e ∷ list) h = ap (λ l. e ∷ l) (entries-laid room list (le_of_suc-le-suc h))

zeros_laid : (room : ℕ) (xs : List ℕ) → length xs ≡ room * 2 → Each (λ x. x ≡ 0) xs → laid room [] ≡ xs
unfolding laid
zeros_laid zero [] h z = refl
zeros_laid zero (x ∷ xs) h z = absurd (omega arith)
zeros_laid (suc room) [] h z = absurd (omega arith)
zeros_laid (suc room) (x ∷ []) h z = absurd (omega arith)
zeros_laid (suc room) (x ∷ y ∷ xs) h z = λ j. sym z.0 j ∷ sym z.1.0 j ∷ zeros_laid room xs (omega arith) z.1.1 j

pub laid-entries : (room n : ℕ) (xs : List ℕ) → length xs ≡ room * 2 → n ≤ room → Each (λ x. x ≡ 0) (drop (n * 2) xs) → laid room (entries n xs) ≡ xs
unfolding entries laid
laid-entries room zero xs h k z = zeros_laid room xs h z
laid-entries zero (suc n) xs h k z = absurd (not-suc-le-zero k)
laid-entries (suc room) (suc n) [] h k z = absurd (omega arith)
laid-entries (suc room) (suc n) (x ∷ []) h k z = absurd (omega arith)
laid-entries (suc room) (suc n) (x ∷ y ∷ xs) h k z =
    ap (λ t. x ∷ y ∷ t) (laid-entries room n xs (omega arith) (le_of_suc-le-suc k) (rw double at z))

-- ---- an entry more, a list more

pub laid-added : (room : ℕ) (list : List Entry) (e : Entry) → length list < room
    → laid room (list ++ (e ∷ [])) ≡ set (set (laid room list) (length list * 2) e.link.0) (length list * 2 + 1) e.old.0
unfolding laid
laid-added zero list e h = absurd (not-suc-le-zero h)
laid-added (suc room) [] e h = refl
laid-added (suc room) (x ∷ list) e h =
    rw (double (length list), further (length list * 2)) (ap (λ t. x.link.0 ∷ x.old.0 ∷ t) (laid-added room list e (le_of_suc-le-suc h)))
  where
    further : (n : ℕ) → suc (suc n) + 1 ≡ suc (suc (n + 1))
    further n = omega arith

-- the numbers of a list, from a room of any size, and what is left of an empty room
laid-front : (room other : ℕ) (list : List Entry) → length list ≤ room → length list ≤ other
    → laid room list ≡ take (length list * 2) (laid other list) ++ drop (length list * 2) (laid room [])
unfolding laid
laid-front room other [] h k = refl
laid-front zero other (e ∷ list) h k = absurd (not-suc-le-zero h)
laid-front (suc room) zero (e ∷ list) h k = absurd (not-suc-le-zero k)
laid-front (suc room) (suc other) (e ∷ list) h k =
    rw (double (length list)) (ap (λ t. e.link.0 ∷ e.old.0 ∷ t) (laid-front room other list (le_of_suc-le-suc h) (le_of_suc-le-suc k)))

-- the second list's numbers, copied behind the first's
pub laid_joined : (room other : ℕ) (first second : List Entry) → length first + length second ≤ room → length second ≤ other
    → laid room (first ++ second) ≡ paste (laid room first) (length first * 2) (laid other second) (length second * 2)
unfolding laid
laid_joined room other [] second h k =
    laid-front room other second (omega arith) k
    ∙ ap (λ (n : ℕ). take (length second * 2) (laid other second) ++ drop n (laid room [])) (let e : length second * 2 ≡ 0 + length second * 2 = omega arith in e)
laid_joined zero other (x ∷ first) second h k = absurd (omega arith)
laid_joined (suc room) other (x ∷ first) second h k =
    rw (double (length first), further (length first * 2) (length second * 2))
    (ap (λ t. x.link.0 ∷ x.old.0 ∷ t) (laid_joined room other first second (omega arith) k))
  where
    further : (n m : ℕ) → suc (suc n) + m ≡ suc (suc (n + m))
    further n m = omega arith

-- ---- emptying

-- "Emptying a list makes its entries 0."
pub laid-emptied : (room : ℕ) (list : List Entry) → length list ≤ room → laid room [] ≡ replicate (length list * 2) 0 ++ drop (length list * 2) (laid room list)
unfolding laid
laid-emptied room [] h = refl
laid-emptied zero (e ∷ list) h = absurd (not-suc-le-zero h)
laid-emptied (suc room) (e ∷ list) h = rw (double (length list)) (ap (λ t. 0 ∷ 0 ∷ t) (laid-emptied room list (le_of_suc-le-suc h)))
