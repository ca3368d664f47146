-- A text at a place of a buffer.
--     sets_append      two texts are stored one after the other
--     written_both     a text, and then another right behind it
--     written_same     the buffer is as long as before
--     written_text     any text
--     written_front    the bytes up to the end of the text
-- Assumes nothing.
use Prim.Native.Nat.{ℕ, suc, ◌+◌, ◌≤◌}
use mathlib.Core.Path.{◌≡◌, refl, ap, ◌∙◌}
use mathlib.Core.List.{List, [], ◌∷◌, ◌++◌}
use native.Mathlib.Omega.{arith}
use native.Mathlib.Nat.{add-zero}
use lib.ListN.{length, set, take, drop, length-append}
use lib.Seq.{sets, length-sets, sets-eq, take_at, length-take-le}
use Rattle.text.specs.Text.{Written}

pub sets_append : (a b l : List ℕ) (i : ℕ) → sets l i (a ++ b) ≡ sets (sets l i a) (i + length a) b
sets_append [] b l i = rw (add-zero i)
sets_append (x ∷ a) b l i =
    sets_append a b (set l i x) (suc i)
    ∙ ap (λ (j : ℕ). sets (sets (set l i x) (suc i) a) j b) (let e : suc i + length a ≡ i + suc (length a) = omega arith in e)

pub written_both : {l m o a b : List ℕ} {at x y : ℕ} → Written l at a x m → Written m x b y o → Written l at (a ++ b) y o
written_both {l} {a = a} {b = b} {at = at} h k =
    record {
      place = omega (arith, h.place, k.place, length-append a b);
      bytes = rw (sets_append a b l at, ← h.place, ← h.bytes) k.bytes;
    }

pub written_same : {l m text : List ℕ} {at x : ℕ} → Written l at text x m → length m ≡ length l
written_same {l} {text = text} {at = at} h = rw h.bytes (length-sets l at text)

pub written_text : (l : List ℕ) (i : ℕ) (text : List ℕ) → Written l i text (i + length text) (sets l i text)
written_text l i text = record { place = refl; bytes = refl }

pub written_front : {l m text : List ℕ} {at x : ℕ} → Written l at text x m → at + length text ≤ length l → take x m ≡ take at l ++ text
written_front {l} {text = text} {at = at} {x = x} h room =
    ap (take x) (h.bytes ∙ sets-eq text l at room)
    ∙ take_at (take at l ++ text) (drop (at + length text) l) x (omega (arith, h.place, length-append (take at l) text, length-take-le at l (omega arith)))
