-- The entries of a room, and of a part of it.
--     entries-take, entries_next     the first entries of more, and one more of them
--     entries_part                   a room may be longer than its entries
--     entries_between                the entries from one to another
-- Assumes nothing.
use Prim.Native.Nat.{ℕ, zero, suc, ◌+◌, ◌-◌, ◌*◌, ◌≤◌}
use mathlib.Core.Path.{◌≡◌, refl, sym, ap, ◌∙◌}
use mathlib.Core.List.{List, [], ◌∷◌, ◌++◌}
use native.Mathlib.Omega.{arith}
use native.Mathlib.Nat.{le_of_suc-le-suc, not-suc-le-zero}
use lib.ListN.{take, drop}
use lib.Seq.{take-suc, drop-drop}
use Rattle.rules.specs.Collect.{no_entry}
use Rattle.tables.specs.Lie.{entries}
use Rattle.tables.proofs.Entered.{entry_in, length-entries, entries_at}

pub entries-take : (k n : ℕ) (room : List ℕ) → k ≤ n → take k (entries n room) ≡ entries k room
unfolding entries
entries-take zero n room h = refl
entries-take (suc k) zero room h = absurd (not-suc-le-zero h)
entries-take (suc k) (suc n) room h = ap (λ es. entry_in room 0 ∷ es) (entries-take k n (drop 2 room) (le_of_suc-le-suc h))

pub entries_next : (k : ℕ) (room : List ℕ) → entries (suc k) room ≡ entries k room ++ (entry_in room k ∷ [])
entries_next k room =
    sym (entries-take (suc k) (suc k) room (omega arith))
    ∙ take-suc (entries (suc k) room) k no_entry (omega (arith, length-entries (suc k) room))
    ∙ (λ j. entries-take k (suc k) room (omega arith) j ++ (entries_at (suc k) room k (omega arith) j ∷ []))

pub entries_part : (n : ℕ) (room : List ℕ) → entries n (take (n * 2) room) ≡ entries n room
unfolding entries
entries_part zero room = refl
entries_part (suc n) room = let e : suc n * 2 ≡ suc (suc (n * 2)) = omega arith in rw e (by_front room (entries_part n))
  where
    by_front : (room : List ℕ) → ((rest : List ℕ) → entries n (take (n * 2) rest) ≡ entries n rest)
        → entries (suc n) (take (suc (suc (n * 2))) room) ≡ entries (suc n) room
    by_front [] further = refl
    by_front (x ∷ []) further = refl
    by_front (x ∷ y ∷ room) further = ap (λ es. entry_in (x ∷ y ∷ room) 0 ∷ es) (further room)

-- behind the first k of them
entries-drop : (k n m : ℕ) (room : List ℕ) → n ≡ k + m → drop k (entries n room) ≡ entries m (drop (k * 2) room)
unfolding entries
entries-drop zero n m room e = ap (λ (i : ℕ). entries i room) (let same : n ≡ m = omega arith in same)
entries-drop (suc k) zero m room e = absurd (omega arith)
entries-drop (suc k) (suc n) m room e =
    entries-drop k n m (drop 2 room) (omega arith)
    ∙ ap (entries m) (drop-drop (k * 2) 2 room ∙ ap (λ (i : ℕ). drop i room) (let twice : 2 + k * 2 ≡ suc k * 2 = omega arith in twice))

pub entries_between : (from to n : ℕ) (room : List ℕ) → from ≤ to → to ≤ n
    → drop from (take to (entries n room)) ≡ entries (to - from) (take (to * 2 - from * 2) (drop (from * 2) room))
entries_between from to n room h k =
    ap (drop from) (entries-take to n room k)
    ∙ entries-drop from to (to - from) room (omega arith)
    ∙ sym (entries_part (to - from) (drop (from * 2) room))
    ∙ ap (λ (i : ℕ). entries (to - from) (take i (drop (from * 2) room))) (let e : (to - from) * 2 ≡ to * 2 - from * 2 = omega arith in e)
