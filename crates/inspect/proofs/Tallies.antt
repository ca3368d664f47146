-- The tallies after some links, link by link.
--     Tallied                      what is known of them
--     none_yet, one_more           of no link, and of one link more, the i-th of four
--     still_low                    none of their numbers is too large for one more
-- Assumes nothing.
use Prim.Native.Nat.{ℕ, suc, ◌+◌, ◌*◌, ◌%◌, ◌≤◌, ◌<◌}
use mathlib.Core.Path.{◌≡◌, sym, ap, ◌∙◌, subst}
use mathlib.Core.List.{List}
use native.Mathlib.Omega.{arith}
use lib.ListN.{get_or, replicate}
use Rattle.clauses.specs.Tallied.{raised, tallied}
use Rattle.inspect.proofs.Most.{Most, most_more, most_raised, most_zeros}

pub record Tallied (values : List ℕ) (l : ℕ) (tally : List ℕ) : Type 0 where
  pub are : tally ≡ tallied values l (replicate 8320 0)
  pub most : Most l tally

pub none_yet : (values : List ℕ) {tally : List ℕ} → tally ≡ replicate 8320 0 → Tallied values 0 tally
unfolding tallied
none_yet values zeros = record { are = zeros; most = subst (Most 0) (sym zeros) (most_zeros 0 8320) }

-- a number of a tally may be raised
pub still_low : {values tally : List ℕ} {l : ℕ} → Tallied values l tally → l ≤ 8207 → Most 8207 tally
still_low {tally = tally} h low = most_more tally low h.most

-- the link's value is raised in the tally that begins at its place
pub one_more : {values tally next : List ℕ} (q i : ℕ) {l m from value : ℕ} → i < 4 → l ≡ q * 4 + i → m ≡ l + 1 → from ≡ i * 2080 → value ≡ get_or values l 0
    → Tallied values l tally → next ≡ raised tally (from + value % 2048) → Tallied values m next
unfolding tallied
one_more {values} {tally} q i {l} {m} {from} {value} low here follows begins stands h raises =
    let place : from ≡ l % 4 * 2080 = omega arith in
    record {
      are =
          raises
          ∙ (λ j. raised (h.are j) (place j + stands j % 2048))
          ∙ ap (λ (n : ℕ). tallied values n (replicate 8320 0)) (let e : suc l ≡ m = omega arith in e);
      most = subst (Most m) (sym raises) (most_raised l m tally (from + value % 2048) 1 (omega arith) h.most);
    }
