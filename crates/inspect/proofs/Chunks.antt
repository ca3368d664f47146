-- The first elements of a list, cut into chunks of one size, as `as_chunks` cuts it.
--     part_long, part_at, rest_at     how many they are, an element of a chunk, and one past the chunks
-- Assumes nothing.
use Prim.Native.Nat.{ℕ, ◌+◌, ◌*◌, ◌/◌, ◌≤◌, ◌<◌}
use mathlib.Core.Path.{◌≡◌, sym, ap, ◌∙◌, subst}
use mathlib.Core.List.{List, []}
use lib.ListN.{length, get_or, take, drop}
use Rattle.std.proofs.lemmas.List.{get_or-take}
use lib.Seq.{get_or-drop, length-take-le}
use Rattle.std.specs.Simd.{first_chunks}
use Rattle.tables.proofs.Chunks.{chunk_at}

module _ (n m : ℕ) (xs : List ℕ) (inside : m ≤ length xs) where
  pub part_long : length (take m xs) ≡ m
  part_long = length-take-le m xs inside

  pub part_at : (i j : ℕ) {chunks : List (List ℕ)} {at : ℕ} → chunks ≡ first_chunks n (length (take m xs) / n) (take m xs) → i < m / n → j < n → at ≡ i * n + j → at < m
      → get_or (get_or chunks i []) j 0 ≡ get_or xs at 0
  part_at i j {at = at} e h l same low =
      chunk_at n (length (take m xs) / n) (take m xs) i j e (subst (λ (k : ℕ). i < k / n) (sym part_long) h) l same ∙ get_or-take m xs at 0 low

  pub rest_at : (i : ℕ) {rest : List ℕ} {at : ℕ} → rest ≡ drop (length (take m xs) / n * n) (take m xs) → at ≡ m / n * n + i → at < m → get_or rest i 0 ≡ get_or xs at 0
  rest_at i {at = at} e same low =
      ap (λ (r : List ℕ). get_or r i 0) e
      ∙ ap (λ (k : ℕ). get_or (drop (k / n * n) (take m xs)) i 0) part_long
      ∙ get_or-drop (m / n * n) (take m xs) i 0
      ∙ ap (λ (k : ℕ). get_or (take m xs) k 0) (sym same)
      ∙ get_or-take m xs at 0 low
