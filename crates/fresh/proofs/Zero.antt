-- The tables of a fresh pool are 0 throughout: "A fresh pool has every number 0, every record free, every list empty".
--     zero_tables     twelve tables of 0
--     fresh-zero      the tables of a fresh pool are these
--     Cleared         tables of which each is cleared, and each has the length that it had
--     cleared_all     those of the sizes' lengths are twelve tables of 0
-- Assumes nothing.
use Prim.Native.Nat.{ℕ, zero, suc, ◌+◌, ◌*◌}
use mathlib.Core.Path.{◌≡◌, refl, ap, ◌∙◌}
use mathlib.Core.Bool.{false}
use mathlib.Core.List.{List, [], ◌∷◌, ◌++◌, map, flatten}
use Rattle.rules.specs.View.{bit}
use native.Mathlib.Omega.{arith}
use native.Mathlib.Nat.{suc-mul, zero-mul}
use lib.ListN.{length, replicate, replicate-append-replicate}
use Rattle.rules.specs.declared.Sizes.{Sizes}
use Rattle.rules.specs.Size.{links}
use Rattle.rules.specs.Pool.{Entry, none, fresh}
use Rattle.tables.specs.Bits.{word_count}
use Rattle.tables.specs.Tables.{Tables}
use Rattle.tables.specs.Known.{Exact}
use Rattle.tables.specs.Lie.{numbers, laid, room, tables_of}
use Rattle.tables.proofs.Entered.{laid_empty}
use Rattle.tables.proofs.Packed.{all_off}

map-replicate : {A B : Type 0} (f : A → B) (n : ℕ) (x : A) → map f (replicate n x) ≡ replicate n (f x)
map-replicate f zero x = refl
map-replicate f (suc n) x = ap (λ t. f x ∷ t) (map-replicate f n x)

-- n blocks of m times 0
joined_zeros : (n m : ℕ) → flatten {A = ℕ} (replicate n (replicate m 0)) ≡ replicate (n * m) 0
unfolding flatten
joined_zeros zero m = rw zero-mul refl
joined_zeros (suc n) m =
    ap (λ (xs : List ℕ). replicate m 0 ++ xs) (joined_zeros n m)
    ∙ replicate-append-replicate m (n * m) 0
    ∙ ap (λ (k : ℕ). replicate k 0) (let e : m + n * m ≡ suc n * m = omega (arith, suc-mul n m) in e)

unfoldable pub zero_tables : Sizes → Tables
zero_tables s =
    record {
      used = replicate (word_count s.n) 0;
      counts = replicate s.n 0;
      held = replicate (word_count s.n) 0;
      candidates = replicate (word_count s.n) 0;
      makers = replicate s.n 0;
      values = replicate (links s) 0;
      changed = replicate (word_count (links s)) 0;
      registers = replicate (s.w * s.r + 1) 0;
      snoops = replicate s.w 0;
      logs = replicate (s.w * room s) 0;
      history = replicate (room s) 0;
      lengths = replicate (s.w + 1) 0;
    }

pub fresh-zero : (s : Sizes) → tables_of s (fresh s) ≡ zero_tables s
unfolding tables_of fresh zero_tables
fresh-zero s =
    λ j.
    record {
      used = all_off s.n j;
      counts = replicate s.n 0;
      held = all_off s.n j;
      candidates = all_off s.n j;
      makers = replicate s.n 0;
      values = map-replicate (λ a. a.0) (links s) none j;
      changed = all_off (links s) j;
      registers =
          (ap (λ (rows : List (List ℕ)). flatten rows ++ (0 ∷ []))
          (map-replicate numbers s.w (replicate s.r none) ∙ ap (replicate s.w) (map-replicate (λ a. a.0) s.r none))
          ∙ ap (λ (xs : List ℕ). xs ++ (0 ∷ [])) (joined_zeros s.w s.r)
          ∙ replicate-append-replicate (s.w * s.r) 1 0) j;
      snoops = map-replicate bit s.w false j;
      logs =
          (ap flatten (map-replicate (laid (links s)) s.w [] ∙ ap (replicate s.w) (laid_empty (links s))) ∙ joined_zeros s.w (room s)) j;
      history = laid_empty (links s) j;
      lengths = (ap (λ (xs : List ℕ). xs ++ (0 ∷ [])) (map-replicate (length {A = Entry}) s.w []) ∙ replicate-append-replicate s.w 1 0) j;
    }

-- a table that is cleared is 0 as often as it is long
pub record Cleared (before after : Tables) : Type 0 where
  pub used : after.used ≡ replicate (length before.used) 0
  pub counts : after.counts ≡ replicate (length before.counts) 0
  pub held : after.held ≡ replicate (length before.held) 0
  pub candidates : after.candidates ≡ replicate (length before.candidates) 0
  pub makers : after.makers ≡ replicate (length before.makers) 0
  pub values : after.values ≡ replicate (length before.values) 0
  pub changed : after.changed ≡ replicate (length before.changed) 0
  pub registers : after.registers ≡ replicate (length before.registers) 0
  pub snoops : after.snoops ≡ replicate (length before.snoops) 0
  pub logs : after.logs ≡ replicate (length before.logs) 0
  pub history : after.history ≡ replicate (length before.history) 0
  pub lengths : after.lengths ≡ replicate (length before.lengths) 0

cleared : {xs : List ℕ} (n m : ℕ) → xs ≡ replicate n 0 → n ≡ m → xs ≡ replicate m 0
cleared n m e h = e ∙ ap (λ (k : ℕ). replicate k 0) h

pub cleared_all : (s : Sizes) {before after : Tables} → Exact s before → Cleared before after → after ≡ zero_tables s
unfolding zero_tables
cleared_all s exact all =
    λ j.
    record {
      used = cleared _ _ all.used exact.used j;
      counts = cleared _ _ all.counts exact.counts j;
      held = cleared _ _ all.held exact.held j;
      candidates = cleared _ _ all.candidates exact.candidates j;
      makers = cleared _ _ all.makers exact.makers j;
      values = cleared _ _ all.values exact.values j;
      changed = cleared _ _ all.changed exact.changed j;
      registers = cleared _ _ all.registers exact.registers j;
      snoops = cleared _ _ all.snoops exact.snoops j;
      logs = cleared _ _ all.logs exact.logs j;
      history = cleared _ _ all.history exact.history j;
      lengths = cleared _ _ all.lengths exact.lengths j;
    }
