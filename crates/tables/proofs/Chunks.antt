-- A list cut into chunks of one size, as `as_chunks` cuts it.
--     chunk_is     the chunk at a place
--     chunk_at     an element of it
-- Assumes nothing.
use Prim.Native.Nat.{ℕ, zero, suc, ◌+◌, ◌*◌, ◌<◌}
use mathlib.Core.Path.{◌≡◌, sym, ap, ◌∙◌}
use mathlib.Core.List.{List, []}
use native.Mathlib.Omega.{arith}
use native.Mathlib.Nat.{suc-mul, not-suc-le-zero, le_of_suc-le-suc}
use lib.ListN.{get_or, take, drop}
use Rattle.std.proofs.lemmas.List.{get_or-take}
use lib.Seq.{get_or-drop, drop-drop}
use Rattle.std.specs.Simd.{first_chunks}

chunk_is : (n k : ℕ) (xs : List ℕ) (i : ℕ) → i < k → get_or (first_chunks n k xs) i [] ≡ take n (drop (i * n) xs)
chunk_is n zero xs i h = absurd (not-suc-le-zero h)
chunk_is n (suc k) xs zero h = ap (λ (m : ℕ). take n (drop m xs)) (let e : 0 ≡ 0 * n = omega arith in e)
chunk_is n (suc k) xs (suc i) h =
    chunk_is n k (drop n xs) i (le_of_suc-le-suc h)
    ∙ ap (take n) (drop-drop (i * n) n xs ∙ ap (λ (m : ℕ). drop m xs) (let e : n + i * n ≡ suc i * n = omega (arith, suc-mul i n) in e))

pub chunk_at : (n k : ℕ) {chunks : List (List ℕ)} (xs : List ℕ) (i j : ℕ) {at : ℕ} → chunks ≡ first_chunks n k xs → i < k → j < n → at ≡ i * n + j → get_or (get_or chunks i []) j 0 ≡ get_or xs at 0
chunk_at n k xs i j e h l same =
    ap (λ (c : List (List ℕ)). get_or (get_or c i []) j 0) e
    ∙ ap (λ (c : List ℕ). get_or c j 0) (chunk_is n k xs i h)
    ∙ get_or-take n (drop (i * n) xs) j 0 l
    ∙ get_or-drop (i * n) xs j 0
    ∙ ap (λ (m : ℕ). get_or xs m 0) (sym same)
