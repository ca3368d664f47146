-- What is reached after a change of the pool was reached before it: by the same worker, or by the worker whose event it was.
--     AtHand, link_at_hand, entry_at_hand     a link that a worker's event goes to: of a record that it reaches, or of the board
--     reach_shrinks, Shrunk       a change that brings nothing into reach: registers stay, and a link keeps its value or becomes none
--     back_register, back_made    a register takes what its worker reaches; a record is made
--     stored_registers, stored_values, back_stored     a link takes what a register holds
-- Assumes nothing.
use Prim.Native.Nat.{ℕ, ◌≤◌, ◌<◌}
use mathlib.Core.Path.{◌≡◌, refl, sym, ap, ◌∙◌, subst}
use mathlib.Core.Logic.{◌⊎◌, inl, inr, ⊎_elim}
use mathlib.Core.Bool.{false}
use mathlib.Core.List.{[]}
use native.Mathlib.Omega.{arith}
use lib.ListN.{get_or, set}
use Rattle.rules.specs.declared.Sizes.{Sizes}
use Rattle.rules.specs.declared.RecordNumber.{RecordNumber}
use Rattle.rules.specs.declared.LinkNumber.{LinkNumber}
use Rattle.rules.specs.Size.{links, link_number, board_number}
use Rattle.rules.specs.Pool.{Pool, none, used_at, value_at, register_at, with_register}
use Rattle.rules.specs.Worker.{chosen, makes, added, link_takes}
use Rattle.rules.specs.Sound.{Sound}
use Rattle.laws.proofs.Number.{record_same, link_inside, link_apart, board_inside, board_apart}
use Rattle.laws.proofs.Lists.{set_cases}
use Rattle.laws.proofs.Chosen.{chosen_free}
use Rattle.laws.proofs.Change.{stored_has}
use Rattle.laws.proofs.Refusals.{LinkThere}
use Rattle.promises.specs.Reach.{Reaches, holds, posted, leads}
use Rattle.promises.proofs.Invariant.{Named}
use Rattle.promises.proofs.Register.{register_cases}

-- ---- the links that a worker goes to

-- what it holds the worker reaches; and if it is a record's, the worker reaches that record
pub record AtHand (s : Sizes) (p : Pool) (w : ℕ) (l : LinkNumber) : Type 0 where
  pub inside : l.0 < links s
  pub owner : (x : RecordNumber) → 1 ≤ x.0 → x.0 ≤ s.n → (g : ℕ) → g < s.k → (link_number s x g).0 ≡ l.0 → Reaches s p w x
  pub value : 1 ≤ (value_at p l).0 → Reaches s p w (value_at p l)

-- a link of the record in a register
pub link_at_hand : {s : Sizes} {p : Pool} → Sound s p → (w q f : ℕ) → LinkThere s p w q f → AtHand s p w (link_number s (register_at p w q) f)
link_at_hand {s} {p} sound w q f there =
    record {
      inside = link_inside s a f there.holds (sound.registers w q) there.link;
      owner = λ x some low g k e. holds q (record_same a x (link_apart s a x f g there.holds some there.link k (sym e))) some;
      value = λ some. leads f (holds q refl there.holds) there.link refl some;
    }
  where
    a : RecordNumber
    a = register_at p w q

-- a board entry is no record's, and every worker reaches what it holds
pub entry_at_hand : {s : Sizes} {p : Pool} (w e : ℕ) → e < s.b → AtHand s p w (board_number s e)
entry_at_hand {s} w e there =
    record {
      inside = board_inside s e there;
      owner = λ x some low g k same. absurd (board_apart s x g e some low k same);
      value = λ some. posted e there refl some;
    }

-- ---- nothing comes into reach

-- registers stay, and a link keeps its value or becomes none
pub reach_shrinks : {s : Sizes} (p q : Pool)
    → ((v r : ℕ) → register_at q v r ≡ register_at p v r)
    → ((l : LinkNumber) → (value_at q l ≡ value_at p l) ⊎ (value_at q l ≡ none))
    → {v : ℕ} {a : RecordNumber} → Reaches s q v a → Reaches s p v a
reach_shrinks p q registers values {v} (holds r e some) = holds r (sym (registers v r) ∙ e) some
reach_shrinks {s} p q registers values (posted e k h some) =
    ⊎_elim
    (λ same. posted e k (sym same ∙ h) some)
    (λ nothing. absurd (omega (arith, ap (λ (c : RecordNumber). c.0) (sym nothing ∙ h))))
    (values (board_number s e))
reach_shrinks {s} p q registers values (leads {a = a} {b = b} f x k e some) =
    ⊎_elim
    (λ same. leads f (reach_shrinks p q registers values x) k (sym same ∙ e) some)
    (λ nothing. absurd (omega (arith, ap (λ (c : RecordNumber). c.0) (sym nothing ∙ e))))
    (values (link_number s a f))

-- a collector step takes nothing up: registers stay, and a link keeps its value or becomes none
pub record Shrunk (p q : Pool) : Type 0 where
  pub registers : (v r : ℕ) → register_at q v r ≡ register_at p v r
  pub values : (l : LinkNumber) → (value_at q l ≡ value_at p l) ⊎ (value_at q l ≡ none)

-- ---- a register takes what its worker reaches

module _ {s : Sizes} {p : Pool} (w r : ℕ) (x : RecordNumber) (reached : 1 ≤ x.0 → Reaches s p w x) where
  pub back_register : (v : ℕ) (a : RecordNumber) → Reaches s (with_register w r x p) v a → Reaches s p v a
  back_register v a (holds q e some) =
      ⊎_elim
      (λ same. holds q (sym same ∙ e) some)
      (λ here.
      let is_x : x ≡ a = sym here.1 ∙ e in
      subst (λ (u : ℕ). Reaches s p u a) (sym here.0) (subst (Reaches s p w) is_x (reached (subst (λ (b : RecordNumber). 1 ≤ b.0) (sym is_x) some))))
      (register_cases p w r x v q)
  back_register v a (posted e k h some) = posted e k h some
  back_register v b (leads {a = a} f y k e some) = leads f (back_register v a y) k e some

-- ---- make

module _ {s : Sizes} {p : Pool} (n : Named s p) where
  module _ (w r : ℕ) (some : 1 ≤ (chosen p).0) (low : (chosen p).0 ≤ s.n) where
    abbrev new : RecordNumber
    new = chosen p

    free : used_at p new ≡ false
    free = chosen_free p some

    -- a worker reaches what it reached before, and the maker the record made
    pub back_made : (v : ℕ) (a : RecordNumber) → Reaches s (makes w r p).pool v a → Reaches s p v a ⊎ ((v ≡ w) × (new ≡ a))
    unfolding makes
    back_made v a (holds q e k) =
        ⊎_elim
        (λ same. inl (holds q (sym same ∙ e) k))
        (λ here. inr (here.0, sym here.1 ∙ e))
        (register_cases p w r new v q)
    back_made v a (posted e k h some-a) = inl (posted e k h some-a)
    back_made v b (leads {a = a} f y k e some-b) =
        ⊎_elim
        (λ old. inl (leads f old k e some-b))
        (λ made.
        absurd (omega (arith, ap (λ (c : RecordNumber). c.0) (sym (ap (λ (c : RecordNumber). value_at p (link_number s c f)) (sym made.1) ∙ n.free_links new some low free f k) ∙ e))))
        (back_made v a y)

-- ---- store, post

module _ (s : Sizes) (p : Pool) (w : ℕ) (link : LinkNumber) (r : ℕ) where
  abbrev taken : RecordNumber
  taken = register_at p w r

  abbrev after_store : Pool
  after_store = (link_takes w link r p).pool

  -- registers stay, and one link takes what register r holds
  pub stored_registers : after_store.workers.registers ≡ p.workers.registers
  unfolding added
  stored_registers = stored_has p w link r (λ t. t.workers.registers ≡ p.workers.registers) (λ on t h. h) (λ off. refl) (λ on. refl)

  pub stored_values : after_store.links.value ≡ set p.links.value link.0 taken
  unfolding added
  stored_values = stored_has p w link r (λ t. t.links.value ≡ set p.links.value link.0 taken) (λ on t h. h) (λ off. refl) (λ on. refl)

  -- by the worker itself, or by the one that stored
  pub back_stored : (v : ℕ) (a : RecordNumber) → Reaches s after_store v a → Reaches s p v a ⊎ Reaches s p w a
  back_stored v a (holds u e some) = inl (holds u (ap (λ rows. get_or (get_or rows v []) u none) (sym stored_registers) ∙ e) some)
  back_stored v a (posted e k h some) =
      ⊎_elim
      (λ same. inl (posted e k (sym same ∙ held) some))
      (λ here. inr (holds r (sym here.1 ∙ held) some))
      (set_cases p.links.value link.0 taken (board_number s e).0 none)
    where
      held : get_or (set p.links.value link.0 taken) (board_number s e).0 none ≡ a
      held = sym (ap (λ values. get_or values (board_number s e).0 none) stored_values) ∙ h
  back_stored v b (leads {a = a} g y k e some) =
      ⊎_elim
      (λ same.
      let there : value_at p (link_number s a g) ≡ b = sym same ∙ held in
      ⊎_elim (λ old. inl (leads g old k there some)) (λ old. inr (leads g old k there some)) (back_stored v a y))
      (λ here. inr (holds r (sym here.1 ∙ held) some))
      (set_cases p.links.value link.0 taken (link_number s a g).0 none)
    where
      held : get_or (set p.links.value link.0 taken) (link_number s a g).0 none ≡ b
      held = sym (ap (λ values. get_or values (link_number s a g).0 none) stored_values) ∙ e
