-- The links of a record, emptied in tables.
--     emptied_tables, emptied-written     one link is emptied
--     emptied_first, emptied_next, emptied-over     no link is emptied yet; one link more is, or it is passed over
--     Fit, value_low, value-fits     the value of the next unchanged link is within the tables, and its count may fall
--     freed_tables, freed_next     the record is freed, once its links are emptied
-- Assumes nothing.
use Prim.Native.Nat.{ℕ, zero, suc, ◌+◌, ◌-◌, ◌≤◌, ◌<◌}
use mathlib.Core.Path.{◌≡◌, refl, sym, ap, ◌∙◌, subst}
use mathlib.Core.Logic.{⊎_elim}
use mathlib.Core.Bool.{Bool, true, false, cond}
use native.Mathlib.Omega.{arith}
use native.Mathlib.Numerals.{add-one}
use lib.Dec.{eqb}
use lib.ListN.{length, get_or, set, get_or-map}
use Rattle.rules.specs.declared.Sizes.{Sizes}
use Rattle.rules.specs.declared.RecordNumber.{RecordNumber}
use Rattle.rules.specs.declared.LinkNumber.{LinkNumber}
use Rattle.rules.specs.declared.Collector.{Collector}
use Rattle.rules.specs.Size.{link_number}
use Rattle.rules.specs.Pool.{Pool, none, of_record, with_record, count_at, value_at, changed_at}
use Rattle.rules.specs.Collect.{falls, is_unchanged, unchanged, emptied, emptied_from, becomes_free, frees, empties}
use Rattle.tables.specs.Tables.{Tables, put_used, put_counts, put_candidates, put_values}
use Rattle.tables.specs.Bits.{mark_record}
use Rattle.tables.specs.Lie.{pool_of, tables_of}
use Rattle.tables.specs.Counted.{fewer, fallen}
use Rattle.tables.proofs.Written.{value_written, falls-written}
use Rattle.tables.proofs.Packed.{record_written}
use Rattle.laws.proofs.Lists.{length-with_record}
use Rattle.laws.proofs.Change.{emptied_values}
use Rattle.laws.proofs.Search.{frees_is}
use Rattle.soundness.proofs.Known.{value_has_count}
use Rattle.reclaim.specs.Lent.{InPool}

-- ---- one link

-- the link at this place holds v
abbrev emptied_of : (v l : ℕ) → Tables → Tables
emptied_of v l t = put_counts (fewer v t.counts) (put_candidates (fallen v t.counts t.candidates) (put_values (set t.values l 0) t))

abbrev pub emptied_tables : ℕ → Tables → Tables
emptied_tables l t = emptied_of (get_or t.values l 0) l t

value_read : (s : Sizes) (p : Pool) (l : LinkNumber) → (value_at p l).0 ≡ get_or (tables_of s p).values l.0 0
unfolding tables_of
value_read s p l = sym (get_or-map (λ a. a.0) p.links.value l.0 none)

emptied-written : (s : Sizes) (p : Pool) (l : LinkNumber) → (value_at p l).0 ≤ length p.records.candidate → tables_of s (emptied l p) ≡ emptied_tables l.0 (tables_of s p)
unfolding emptied
emptied-written s p l low =
    value_written s (falls (value_at p l) p) l none
    ∙ ap (λ (u : Tables). put_values (set u.values l.0 0) u) (falls-written s p (value_at p l) low)
    ∙ ap (λ (v : ℕ). emptied_of v l.0 (tables_of s p)) (value_read s p l)

-- ---- one link more

module _ (which : LinkNumber → Bool) (s : Sizes) (a : RecordNumber) where
  -- the definition begins at the first link; this is the last one
  emptied_last : (f left : ℕ) (p : Pool) → let l : LinkNumber = link_number s a (f + left) in
      emptied_from which s a f (suc left) p ≡ cond (which l) (emptied l (emptied_from which s a f left p)) (emptied_from which s a f left p)
  unfolding emptied_from
  emptied_last f zero p = ap (λ (g : ℕ). cond (which (link_number s a g)) (emptied (link_number s a g) p) p) (let e : f ≡ f + 0 = omega arith in e)
  emptied_last f (suc left) p =
      let q : Pool = cond (which (link_number s a f)) (emptied (link_number s a f) p) p in
      emptied_last (suc f) left q
      ∙ ap (λ (g : ℕ). cond (which (link_number s a g)) (emptied (link_number s a g) (emptied_from which s a (suc f) left q)) (emptied_from which s a (suc f) left q))
      (let e : suc f + left ≡ f + suc left = omega arith in e)

  -- no used mark changes, and there are as many candidate marks
  pub marks_kept : (f left : ℕ) (p : Pool) → let q : Pool = emptied_from which s a f left p in
      (q.records.used ≡ p.records.used) × (length q.records.candidate ≡ length p.records.candidate)
  unfolding emptied_from emptied falls
  marks_kept f zero p = (refl, refl)
  marks_kept f (suc left) p = by_test (which (link_number s a f)) (marks_kept (suc f) left)
    where
      l : LinkNumber
      l = link_number s a f

      Kept : Pool → Pool → Type 0
      Kept q p = (q.records.used ≡ p.records.used) × (length q.records.candidate ≡ length p.records.candidate)

      by_zero : (b : Bool) → length (cond b (with_record p.records.candidate (value_at p l).0 true) p.records.candidate) ≡ length p.records.candidate
      by_zero true = length-with_record p.records.candidate (value_at p l).0 true
      by_zero false = refl

      by_test : (b : Bool) → ((q : Pool) → Kept (emptied_from which s a (suc f) left q) q) → Kept (emptied_from which s a (suc f) left (cond b (emptied l p) p)) p
      by_test true further = let kept = further (emptied l p) in (kept.0, kept.1 ∙ by_zero (eqb (count_at p (value_at p l) - 1) 0))
      by_test false further = further p

  -- the tables after f links, and after one more
  pub emptied_first : (p : Pool) → tables_of s (emptied_from which s a 0 0 p) ≡ tables_of s p
  unfolding emptied_from
  emptied_first p = refl

  one_more : (f : ℕ) (p : Pool) (b : Bool) → which (link_number s a f) ≡ b → let q : Pool = emptied_from which s a 0 f p in
      tables_of s (emptied_from which s a 0 (f + 1) p) ≡ tables_of s (cond b (emptied (link_number s a f) q) q)
  one_more f p b e =
      let q : Pool = emptied_from which s a 0 f p in
      ap (λ (n : ℕ). tables_of s (emptied_from which s a 0 n p)) (add-one f)
      ∙ ap (tables_of s)
      (emptied_last 0 f p
      ∙ ap (λ (g : ℕ). cond (which (link_number s a g)) (emptied (link_number s a g) q) q) (let z : 0 + f ≡ f = omega arith in z)
      ∙ ap (λ x. cond x (emptied (link_number s a f) q) q) e)

  pub emptied_next : (f : ℕ) (p : Pool) (u : Tables) → (value_at (emptied_from which s a 0 f p) (link_number s a f)).0 ≤ length p.records.candidate → which (link_number s a f) ≡ true → tables_of s (emptied_from which s a 0 f p) ≡ u
      → tables_of s (emptied_from which s a 0 (f + 1) p) ≡ emptied_tables (link_number s a f).0 u
  emptied_next f p u low on e =
      one_more f p true on
      ∙ emptied-written s (emptied_from which s a 0 f p) (link_number s a f) (omega (arith, (marks_kept 0 f p).1))
      ∙ ap (emptied_tables (link_number s a f).0) e

  pub emptied-over : (f : ℕ) (p : Pool) (u : Tables) → which (link_number s a f) ≡ false → tables_of s (emptied_from which s a 0 f p) ≡ u
      → tables_of s (emptied_from which s a 0 (f + 1) p) ≡ u
  emptied-over f p u off e = one_more f p false off ∙ e

-- ---- the value of the next link

-- the value of a link is within the tables, and its count may fall
abbrev pub Fit : Sizes → ℕ → Tables → Type 0
Fit s l t = let v : ℕ = get_or t.values l 0 in (v ≤ s.n) × ((1 ≤ v) → 1 ≤ of_record t.counts v 0)

pub value_low : {s : Sizes} {t : Tables} {c : Collector} {a : RecordNumber} → InPool s t c a → (f : ℕ)
    → (value_at (emptied_from (is_unchanged (pool_of s t c)) s a 0 f (pool_of s t c)) (link_number s a f)).0 ≤ s.n
value_low {s} {t} {c} {a} inside f =
    let p : Pool = pool_of s t c in
    let l : LinkNumber = link_number s a f in
    ⊎_elim (λ same. omega (arith, ap (λ x. x.0) same, inside.known.tables.sound.values l)) (λ z. omega (arith, ap (λ x. x.0) z.1)) (emptied_values (is_unchanged p) s a 0 f p l)

pub value-fits : {s : Sizes} {t : Tables} {c : Collector} {a : RecordNumber} → InPool s t c a → (f : ℕ) → f < s.k → changed_at (pool_of s t c) (link_number s a f) ≡ false
    → (u : Tables) → tables_of s (emptied_from (is_unchanged (pool_of s t c)) s a 0 f (pool_of s t c)) ≡ u → Fit s (link_number s a f).0 u
unfolding tables_of pool_of
value-fits {s} {t} {c} {a} inside f k off u e =
    let p : Pool = pool_of s t c in
    let q : Pool = emptied_from (is_unchanged p) s a 0 f p in
    let l : LinkNumber = link_number s a f in
    let sound = inside.known.tables.sound in
    subst (Fit s l.0) e
    (subst (λ (v : ℕ). (v ≤ s.n) × ((1 ≤ v) → 1 ≤ of_record q.records.count v 0)) (value_read s q l)
    (value_low inside f, value_has_count sound a f inside.phase inside.some inside.low k off))

-- ---- freeing

abbrev pub freed_tables : ℕ → Tables → Tables
freed_tables a t = put_used (mark_record t.used a false) (put_candidates (mark_record t.candidates a false) t)

pub freed_next : (s : Sizes) (a : RecordNumber) (p : Pool) (u : Tables) → a.0 ≤ length p.records.used → a.0 ≤ length p.records.candidate → unchanged s p a ≡ true → tables_of s (empties s a p) ≡ u
    → tables_of s (frees s a p) ≡ freed_tables a.0 u
unfolding becomes_free tables_of empties
freed_next s a p u low fits off e =
    let q : Pool = empties s a p in
    ap (tables_of s) (frees_is s p a off)
    ∙ (let kept = marks_kept (is_unchanged p) s a 0 s.k p in
    λ j.
    put_used (record_written q.records.used a.0 false (omega (arith, ap (length {A = Bool}) kept.0)) j)
    (put_candidates (record_written q.records.candidate a.0 false (omega (arith, kept.1)) j) (tables_of s q)))
    ∙ ap (freed_tables a.0) e
