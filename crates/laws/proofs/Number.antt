-- The sizes, record numbers and link numbers.
--     Bounds, bounds            the sizes in range
--     record_same, link_same    two with one number are one
--     link_inside, board_inside     a link of a record, and one of the board, has a number below S
--     board_apart               a link of a record is no board entry: the two formulas never meet
--     link_split                every link is of a record or is a board entry
--     link_apart                links of two records have two numbers
--     links_most, link_low      how large S and a link's number are at most
--     block_inside, block_end   a place of a block, and its end, in a table of blocks
-- Assumes nothing.
use Prim.Native.Nat.{ℕ, suc, ◌+◌, ◌-◌, ◌*◌, ◌/◌, ◌%◌, ◌≤◌, ◌<◌}
use mathlib.Core.Path.{◌≡◌, sym, ap, ◌∙◌}
use mathlib.Core.Logic.{◌⊎◌, inl, inr, ⊎_elim}
use mathlib.Core.Bool.{Bool, true, ◌&&◌}
use native.Mathlib.Omega.{arith}
use native.Mathlib.Nat.{suc-mul, mul-le-mul_left, mul-le-mul_right, mul-add-div_right, div-eq_of_lt, div-lt_iff_lt-mul, div-add-mod', mod-lt}
use borrow.Author.Tests.{leb-true}
use lib.Dec.{leb}
use Rattle.rules.specs.declared.Sizes.{Sizes}
use Rattle.rules.specs.declared.RecordNumber.{RecordNumber}
use Rattle.rules.specs.declared.LinkNumber.{LinkNumber}
use Rattle.rules.specs.Size.{between, in_range, links, link_number, board_number}
use Rattle.laws.proofs.Tests.{below_or_not, and_left, and_right}

-- ---- the sizes

-- "N records 1..1024, K links in each 1..8, W workers 1..8, R registers per worker 1..16." "Add B entries, 0 to 16" (document 02, request 5)
pub record Bounds (s : Sizes) : Type 0 where
  pub n_least : 1 ≤ s.n
  pub n_most : s.n ≤ 1024
  pub k_least : 1 ≤ s.k
  pub k_most : s.k ≤ 8
  pub w_least : 1 ≤ s.w
  pub w_most : s.w ≤ 8
  pub r_least : 1 ≤ s.r
  pub r_most : s.r ≤ 16
  pub b_most : s.b ≤ 16

least : (low high x : ℕ) → between low high x ≡ true → low ≤ x
least low high x h = leb-true low x (and_left (leb low x) (leb x high) h)

most : (low high x : ℕ) → between low high x ≡ true → x ≤ high
most low high x h = leb-true x high (and_right (leb low x) (leb x high) h)

pub bounds : (s : Sizes) → in_range s ≡ true → Bounds s
unfolding in_range
bounds s h =
    let n : Bool = between 1 1024 s.n in
    let k : Bool = between 1 8 s.k in
    let w : Bool = between 1 8 s.w in
    let r : Bool = between 1 16 s.r in
    let nkwr : (n && k && w && r) ≡ true = and_left (n && k && w && r) (leb s.b 16) h in
    let nkw : (n && k && w) ≡ true = and_left (n && k && w) r nkwr in
    let nk : (n && k) ≡ true = and_left (n && k) w nkw in
    record {
      n_least = least 1 1024 s.n (and_left n k nk);
      n_most = most 1 1024 s.n (and_left n k nk);
      k_least = least 1 8 s.k (and_right n k nk);
      k_most = most 1 8 s.k (and_right n k nk);
      w_least = least 1 8 s.w (and_right (n && k) w nkw);
      w_most = most 1 8 s.w (and_right (n && k) w nkw);
      r_least = least 1 16 s.r (and_right (n && k && w) r nkwr);
      r_most = most 1 16 s.r (and_right (n && k && w) r nkwr);
      b_most = leb-true s.b 16 (and_right (n && k && w && r) (leb s.b 16) h);
    }

-- ---- the two kinds of number

pub record_same : (a b : RecordNumber) → a.0 ≡ b.0 → a ≡ b
record_same a b e = λ j. record { 0 = e j }

pub link_same : (l m : LinkNumber) → l.0 ≡ m.0 → l ≡ m
link_same l m e = λ j. record { 0 = e j }

-- the links of the records are numbered below N x K
below_board : (s : Sizes) (a : RecordNumber) (f : ℕ) → 1 ≤ a.0 → a.0 ≤ s.n → f < s.k → (link_number s a f).0 < s.n * s.k
unfolding link_number
below_board s a f h k q =
    omega (arith, suc-mul (a.0 - 1) s.k, mul-le-mul_right s.k (let i : suc (a.0 - 1) ≤ s.n = omega arith in i))

pub link_inside : (s : Sizes) (a : RecordNumber) (f : ℕ) → 1 ≤ a.0 → a.0 ≤ s.n → f < s.k → (link_number s a f).0 < links s
unfolding links
link_inside s a f h k q = omega (arith, below_board s a f h k q)

pub board_inside : (s : Sizes) (e : ℕ) → e < s.b → (board_number s e).0 < links s
unfolding board_number links
board_inside s e h = omega arith

-- "They are links like the others, numbered N x K and up" (document 02, request 5): the two ways to a link number never meet
pub board_apart : (s : Sizes) (a : RecordNumber) (f e : ℕ) → 1 ≤ a.0 → a.0 ≤ s.n → f < s.k → (link_number s a f).0 ≡ (board_number s e).0 → ⊥
unfolding board_number
board_apart s a f e h k q same = omega (arith, below_board s a f h k q)

-- every link is of a record or is a board entry
pub link_split : (s : Sizes) → 1 ≤ s.k → (l : LinkNumber) → l.0 < links s
    → ((a : RecordNumber) × (f : ℕ) × (1 ≤ a.0) × (a.0 ≤ s.n) × (f < s.k) × (l.0 ≡ (link_number s a f).0)) ⊎ ((e : ℕ) × (e < s.b) × (l.0 ≡ (board_number s e).0))
unfolding link_number board_number links
link_split s h l k = ⊎_elim (λ low. inl (of_record_lem low)) (λ high. inr (l.0 - s.n * s.k, omega arith, omega arith)) (below_or_not l.0 (s.n * s.k))
  where
    of_record_lem : l.0 < s.n * s.k → (a : RecordNumber) × (f : ℕ) × (1 ≤ a.0) × (a.0 ≤ s.n) × (f < s.k) × (l.0 ≡ (a.0 - 1) * s.k + f)
    of_record_lem low =
        let i : ℕ = l.0 / s.k in
        let inside : i < s.n = (div-lt_iff_lt-mul h).1 low in
        let whole : i * s.k + l.0 % s.k ≡ l.0 = div-add-mod' l.0 s.k in
        (record { 0 = i + 1 }, l.0 % s.k, omega arith, omega arith, mod-lt l.0 h, sym whole ∙ ap (λ (n : ℕ). n * s.k + l.0 % s.k) (let e : i ≡ i + 1 - 1 = omega arith in e))

-- one link number is of one record
pub link_apart : (s : Sizes) (a b : RecordNumber) (f g : ℕ) → 1 ≤ a.0 → 1 ≤ b.0 → f < s.k → g < s.k → (link_number s a f).0 ≡ (link_number s b g).0 → a.0 ≡ b.0
unfolding link_number
link_apart s a b f g ha hb hf hg e =
    let i : ℕ = a.0 - 1 in
    let j : ℕ = b.0 - 1 in
    omega (arith, div_of i f s.k hf, div_of j g s.k hg, ap (λ (n : ℕ). n / s.k) e)
  where
    div_of : (i f k : ℕ) → f < k → (i * k + f) / k ≡ i
    div_of i f k h = mul-add-div_right (omega arith) i f ∙ ap (λ (n : ℕ). i + n) (div-eq_of_lt h) ∙ omega arith

-- ---- how large they are

pub links_most : (s : Sizes) → in_range s ≡ true → links s ≤ 8208
unfolding links
links_most s h =
    let b = bounds s h in
    omega (arith, mul-le-mul_left s.n b.k_most, b.n_most, b.b_most)

pub link_low : (s : Sizes) (a : RecordNumber) (f : ℕ) → in_range s ≡ true → 1 ≤ a.0 → a.0 ≤ s.n → f < s.k → (a.0 - 1) * s.k + f < 8208
unfolding link_number
link_low s a f h some low k = omega (arith, links_most s h, link_inside s a f some low k)

-- ---- tables of blocks

pub block_inside : (w n size i : ℕ) → w < n → i < size → w * size + i < n * size
block_inside w n size i h k = omega (arith, suc-mul w size, mul-le-mul_right size h)

pub block_end : (w n size : ℕ) → w < n → w * size + size ≤ n * size
block_end w n size h = omega (arith, suc-mul w size, mul-le-mul_right size h)
