-- A list, some elements at a time.
--     chunk_at     an element of one of its parts
-- Assumes nothing.
use Prim.Native.Nat.{ℕ, zero, suc, ◌+◌, ◌*◌, ◌<◌}
use mathlib.Core.Path.{◌≡◌, ap, ◌∙◌}
use mathlib.Core.List.{List, []}
use native.Mathlib.Omega.{arith}
use lib.ListN.{get_or, drop}
use Rattle.std.proofs.lemmas.List.{get_or-take, get_or-drop}
use Rattle.std.specs.Simd.{first_chunks}

pub chunk_at : {X : Type 0} (n k : ℕ) (xs : List X) (i j : ℕ) (d : X) → i < k → j < n → get_or (get_or (first_chunks n k xs) i []) j d ≡ get_or xs (i * n + j) d
chunk_at n zero xs i j d here inside = absurd (omega arith)
chunk_at n (suc k) xs zero j d here inside = get_or-take n xs j d inside ∙ ap (λ (m : ℕ). get_or xs m d) (let e : j ≡ zero * n + j = omega arith in e)
chunk_at n (suc k) xs (suc i) j d here inside = chunk_at n k (drop n xs) i j d (omega arith) inside ∙ get_or-drop n xs (i * n + j) d ∙ ap (λ (m : ℕ). get_or xs m d) (let e : n + (i * n + j) ≡ suc i * n + j = omega arith in e)
