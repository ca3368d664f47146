-- Lines put into a caller's slice, one after another.
--     Puts                  one line more is put
--     put_here, put_past    where there is room for it, and where there is none
--     put_all               no line more
--     put_one, put_nowhere  the number and value of one answer, where there is room and where there is none
--     put_then              one answer, and then the others
-- Assumes nothing.
use Prim.Native.Nat.{ℕ, zero, suc, ◌+◌, ◌*◌, ◌/◌, ◌<◌, ◌≤◌}
use mathlib.Core.Path.{◌≡◌, refl, sym, ap, ◌∙◌}
use mathlib.Core.List.{List, [], ◌∷◌}
use native.Mathlib.Omega.{arith}
use native.Mathlib.Numerals.{add-one}
use lib.ListN.{length, set, length-set}
use Rattle.rules.specs.declared.Answer.{Answer}
use Rattle.rules.specs.Reply.{number, value}
use Rattle.trace.specs.Replay.{Line, line_of}
use Rattle.trace.specs.Stretch.{put, put_from, put_answer}

pub put_all : (i : ℕ) (room : List ℕ) → put_from i room [] ≡ room
unfolding put_from put
put_all zero room = refl
put_all (suc i) [] = refl
put_all (suc i) (a ∷ []) = refl
put_all (suc i) (a ∷ b ∷ room) = ap (λ (xs : List ℕ). a ∷ b ∷ xs) (put_all i room)

-- behind so many lines one more is put, and leaves the slice so
pub record Puts (i : ℕ) (room stored : List ℕ) (line : Line) : Type 0 where
  pub long : length stored ≡ length room
  pub then : (lines : List Line) → put_from i room (line ∷ lines) ≡ put_from (i + 1) stored lines

no_room : (i : ℕ) (room : List ℕ) (line : Line) (lines : List Line) → length room ≤ i * 2 + 1 → put_from i room (line ∷ lines) ≡ put_from (suc i) room lines
unfolding put_from put
no_room zero [] line lines past = refl
no_room zero (a ∷ []) line lines past = refl
no_room zero (a ∷ b ∷ room) line lines past = absurd (omega arith)
no_room (suc i) [] line lines past = refl
no_room (suc i) (a ∷ []) line lines past = refl
no_room (suc i) (a ∷ b ∷ room) line lines past = ap (λ (xs : List ℕ). a ∷ b ∷ xs) (no_room i room line lines (omega arith))

-- the place of a line
twice : ℕ → ℕ
twice zero = zero
twice (suc i) = suc (suc (twice i))

twice_is : (i : ℕ) → twice i ≡ i * 2
unfolding twice
twice_is zero = refl
twice_is (suc i) = omega (arith, twice_is i)

has_room : (i : ℕ) (room : List ℕ) (line : Line) (lines : List Line) → suc (twice i) < length room
    → put_from i room (line ∷ lines) ≡ put_from (suc i) (set (set room (twice i) line.number) (suc (twice i)) line.value) lines
unfolding put_from put twice
has_room zero [] line lines here = absurd (omega arith)
has_room zero (a ∷ []) line lines here = absurd (omega arith)
has_room zero (a ∷ b ∷ room) line lines here = refl
has_room (suc i) [] line lines here = absurd (omega arith)
has_room (suc i) (a ∷ []) line lines here = absurd (omega arith)
has_room (suc i) (a ∷ b ∷ room) line lines here = ap (λ (xs : List ℕ). a ∷ b ∷ xs) (has_room i room line lines (omega arith))

module _ (i : ℕ) {room stored : List ℕ} (line : Line) where
  pub put_here : {a b : ℕ} → i < length room / 2 → a ≡ line.number → b ≡ line.value → stored ≡ set (set room (i * 2) a) (i * 2 + 1) b → Puts i room stored line
  put_here here first second new =
      record {
        long = ap length new ∙ simp length-set;
        then = λ lines. rw (new, first, second, add-one i, add-one (i * 2), ← (twice_is i)) (has_room i room line lines (omega (arith, twice_is i)));
      }

  pub put_past : length room / 2 ≤ i → stored ≡ room → Puts i room stored line
  put_past past same = record { long = ap length same; then = λ lines. rw (same, add-one) (no_room i room line lines (omega arith)) }

-- ---- one answer after another

pub put_one : (i : ℕ) (room : List ℕ) (x : Answer) → i * 2 + 1 < length room → set (set room (i * 2) (number x)) (i * 2 + 1) (value x) ≡ put_answer i room x
put_one i room x here =
    let line = line_of 0 x in
    rw (← (twice_is i), add-one (twice i)) (sym (has_room i room line [] (omega (arith, twice_is i)) ∙ put_all (suc i) _))

pub put_nowhere : (i : ℕ) (room : List ℕ) (x : Answer) → length room ≤ i * 2 + 1 → room ≡ put_answer i room x
put_nowhere i room x past = sym (no_room i room (line_of 0 x) [] past ∙ put_all (suc i) room)

line_put : (i : ℕ) (room : List ℕ) (line : Line) (lines : List Line) → put_from i room (line ∷ lines) ≡ put_from (suc i) (put_from i room (line ∷ [])) lines
unfolding put_from put
line_put zero [] line lines = refl
line_put zero (a ∷ []) line lines = refl
line_put zero (a ∷ b ∷ room) line lines = refl
line_put (suc i) [] line lines = refl
line_put (suc i) (a ∷ []) line lines = refl
line_put (suc i) (a ∷ b ∷ room) line lines = ap (λ (xs : List ℕ). a ∷ b ∷ xs) (line_put i room line lines)

-- the first of some lines, whatever its step
same_line : (i step : ℕ) (room : List ℕ) (x : Answer) (lines : List Line) → put_from i room (line_of step x ∷ lines) ≡ put_from i room (line_of 0 x ∷ lines)
unfolding put_from put
same_line zero step [] x lines = refl
same_line zero step (a ∷ []) x lines = refl
same_line zero step (a ∷ b ∷ room) x lines = refl
same_line (suc i) step [] x lines = refl
same_line (suc i) step (a ∷ []) x lines = refl
same_line (suc i) step (a ∷ b ∷ room) x lines = ap (λ (xs : List ℕ). a ∷ b ∷ xs) (same_line i step room x lines)

pub put_then : (i step : ℕ) (room : List ℕ) (x : Answer) (lines : List Line) → put_from i room (line_of step x ∷ lines) ≡ put_from (suc i) (put_answer i room x) lines
put_then i step room x lines = same_line i step room x lines ∙ line_put i room (line_of 0 x) lines
