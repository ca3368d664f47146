-- Texts that are written one behind the other.
--     puts_both     a text, and then another
--     ends_at       digits that end where they have room
--     starts        what stands in the buffer in the end
--     front_last    a list, but for its last, and that
--     puts_next, ends     texts of which the first is put, and none is left
-- Assumes nothing.
use Prim.Native.Nat.{ℕ, suc, ◌+◌, ◌-◌, ◌≤◌}
use mathlib.Core.Path.{◌≡◌, sym, ap, ◌∙◌}
use mathlib.Core.List.{List, [], ◌∷◌, ◌++◌, append_assoc, append-nil}
use native.Mathlib.Omega.{arith}
use lib.ListN.{length, get_or, take, drop, length-append, take-append-drop}
use lib.Seq.{take_at, length-take-le, take-suc, take_all}
use Rattle.text.specs.declared.writer.Writer.{Writer}
use Rattle.text.specs.Text.{StartsWith}
use Rattle.text.specs.Writer.{written, Puts}

pub puts_both : {x y z : Writer} {a b : List ℕ} → Puts x a y → Puts y b z → Puts x (a ++ b) z
puts_both {x} {a = a} {b = b} first second =
    record {
      same = second.same ∙ first.same;
      room = second.room ∙ first.room;
      len = omega (arith, first.len, second.len, length-append a b);
      wrote = second.wrote ∙ ap (λ (t : List ℕ). t ++ b) first.wrote ∙ append_assoc (written x) a b;
    }

-- digits that end where they have room
pub ends_at : (before after digits rest : List ℕ) (start at end : ℕ) → start + length digits ≡ end → end ≡ at + length digits → at ≤ length after
    → drop start after ≡ digits ++ rest → take start after ≡ take start before → take end after ≡ take at before ++ digits
ends_at before after digits rest start at end ends place inside back front =
    let same : start ≡ at = omega arith in
    let long : length (take start after) ≡ start = length-take-le start after (omega arith) in
    ap (take end) (sym (take-append-drop start after) ∙ (λ j. front j ++ back j))
    ∙ ap (take end) (sym (append_assoc (take start before) digits rest))
    ∙ take_at (take start before ++ digits) rest end (omega (arith, length-append (take start before) digits, ap length front, long))
    ∙ ap (λ (n : ℕ). take n before ++ digits) same

-- what stands in the buffer that was written from its start on
pub starts : {out : List ℕ} {size : ℕ} {x y : Writer} {text : List ℕ} → x.len ≡ 0 → Puts x text y → length text ≤ length x.out.now → out ≡ y.out.now → size ≡ y.len → StartsWith out size text
starts {x = x} {y = y} {text = text} none puts room left long =
    record {
      whole = omega (arith, puts.len);
      inside = omega (arith, puts.len, puts.room, ap length left);
      bytes = (λ j. take (long j) (left j)) ∙ puts.wrote ∙ ap (λ (n : ℕ). take n x.out.now ++ text) none;
    }

-- a list, but for its last, and that
pub front_last : (xs : List ℕ) → 1 ≤ length xs → take (length xs - 1) xs ++ (get_or xs (length xs - 1) 0 ∷ []) ≡ xs
front_last xs some = let k = length xs - 1 in sym (take-suc xs k 0 (omega arith)) ∙ take_all (suc k) xs (omega arith)

-- of two texts the first is put, and the second is left
pub puts_next : {x y : Writer} {line whole : List ℕ} (rest : List ℕ) → Puts x line y → written x ++ (line ++ rest) ≡ whole → written y ++ rest ≡ whole
puts_next {x} {line = line} rest puts all = ap (λ (t : List ℕ). t ++ rest) puts.wrote ∙ append_assoc (written x) line rest ∙ all

-- nothing is left
pub ends : {out : List ℕ} {size : ℕ} (y : Writer) {rest whole : List ℕ} → written y ++ rest ≡ whole → rest ≡ [] → out ≡ y.out.now → size ≡ y.len → y.len ≤ length y.out.now → StartsWith out size whole
ends y {rest = rest} all none left long inside =
    let wrote : written y ≡ _ = sym (append-nil (written y)) ∙ ap (λ (t : List ℕ). written y ++ t) (sym none) ∙ all in
    record {
      whole = omega (arith, ap length wrote, length-take-le y.len y.out.now inside);
      inside = omega (arith, ap length left);
      bytes = (λ j. take (long j) (left j)) ∙ wrote;
    }
