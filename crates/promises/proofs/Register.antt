-- A register takes a record number: make, move, drop and load keep the invariant.
--     register_cases                       what a register then holds
--     named_register, phased_register      the invariant
--     Fresh, named_made, phased_made       a free record becomes used and gets a maker, and is the last made
-- Assumes nothing.
use Prim.Native.Nat.{ℕ, ◌+◌, ◌≤◌, ◌<◌}
use mathlib.Core.Path.{◌≡◌, refl, sym, ap, ◌∙◌, subst}
use mathlib.Core.Logic.{◌⊎◌, inl, inr, ⊎_elim}
use mathlib.Core.Bool.{true, false, true≢false}
use mathlib.Core.List.{List, []}
use native.Mathlib.Omega.{arith}
use lib.ListN.{length, get_or, set}
use Rattle.rules.specs.declared.Sizes.{Sizes}
use Rattle.rules.specs.declared.RecordNumber.{RecordNumber}
use Rattle.rules.specs.declared.LinkNumber.{LinkNumber}
use Rattle.rules.specs.Pool.{Pool, none, with_record, used_at, maker_at, value_at, registers_at, register_at, with_used, with_maker, with_last, with_register}
use Rattle.rules.specs.View.{all_logs, view_value}
use Rattle.laws.proofs.Tests.{eqb_cases}
use Rattle.laws.proofs.Number.{record_same}
use Rattle.laws.proofs.Lists.{set_cases, of_record_same, of_record_other, Each-map}
use Rattle.laws.proofs.LookUp.{view_keeps}
use Rattle.promises.proofs.Invariant.{Used, Kept, NoneOrKept, Since, Named, Phased, scanned_below}
use Rattle.promises.proofs.Grow.{kept_grows}

pub register_cases : (p : Pool) (w r : ℕ) (a : RecordNumber) (v q : ℕ)
    → (register_at (with_register w r a p) v q ≡ register_at p v q) ⊎ ((v ≡ w) × (register_at (with_register w r a p) v q ≡ a))
register_cases p w r a v q = ⊎_elim (λ e. inl (ap (λ l. get_or l q none) e)) (λ e. written e.0 e.1) (set_cases p.workers.registers w row v [])
  where
    row : List RecordNumber
    row = set (registers_at p w) r a

    written : v ≡ w → get_or (set p.workers.registers w row) v [] ≡ row
        → (register_at (with_register w r a p) v q ≡ register_at p v q) ⊎ ((v ≡ w) × (register_at (with_register w r a p) v q ≡ a))
    written e f =
        ⊎_elim
        (λ g. inl (ap (λ l. get_or l q none) f ∙ g ∙ ap (λ (i : ℕ). register_at p i q) (sym e)))
        (λ g. inr (e, ap (λ l. get_or l q none) f ∙ g.1))
        (set_cases (registers_at p w) r a q none)

module _ {s : Sizes} {p : Pool} (w r : ℕ) (a : RecordNumber) where
  pub named_register : Used p a → Named s p → Named s (with_register w r a p)
  unfolding all_logs
  named_register used n =
      record {
        registers =
            λ v q.
            ⊎_elim (λ e. subst (Used p) (sym e) (n.registers v q)) (λ e. subst (Used p) (sym e.1) used) (register_cases p w r a v q);
        values = n.values;
        logs = n.logs;
        history = n.history;
        free_candidate = n.free_candidate;
        free_maker = n.free_maker;
        free_links = n.free_links;
      }

  kept_register : {b : RecordNumber} → Kept s p b → Kept s (with_register w r a p) b
  unfolding view_value
  kept_register x = kept_grows p (with_register w r a p) (λ b h. h) (λ b h. h) (λ l. refl) x

  since_register : {k : ℕ} {b : RecordNumber} → Since s p k b → Since s (with_register w r a p) k b
  unfolding all_logs view_value
  since_register x =
      record { candidate = x.candidate; history = x.history; value = x.value; view = x.view; marked = x.marked; log = x.log }

  pub phased_register : {k i : ℕ} → (4 ≤ k → w < scanned_below s k i → NoneOrKept s p a) → Phased s p k i → Phased s (with_register w r a p) k i
  phased_register {k} {i} kept x =
      record {
        snoop = x.snoop;
        logged = x.logged;
        since = λ b v e h. since_register (x.since b v e h);
        scanned =
            λ l v q h.
            ⊎_elim
            (λ e. subst (NoneOrKept s (with_register w r a p)) (sym e) (λ some. kept_register (x.scanned l v q h some)))
            (λ e. subst (NoneOrKept s (with_register w r a p)) (sym e.1) (λ some. kept_register (kept l (subst (λ (u : ℕ). u < scanned_below s k i) e.0 h) some)))
            (register_cases p w r a v q);
        marked = λ l m h e some. kept_register (x.marked l m h e some);
      }

-- ---- make

module _ (s : Sizes) (p : Pool) (w : ℕ) (a : RecordNumber) (some : 1 ≤ a.0) (low : a.0 ≤ length p.records.used) (low_maker : a.0 ≤ length p.records.maker) (free : used_at p a ≡ false) where
  abbrev made : Pool
  made = with_last a (with_maker (with_record p.records.maker a.0 (w + 1)) (with_used (with_record p.records.used a.0 true) p))

  pub used_made : used_at made a ≡ true
  used_made = of_record_same p.records.used a.0 true false some low

  pub maker_made : maker_at made a ≡ w + 1
  maker_made = of_record_same p.records.maker a.0 (w + 1) 0 some low_maker

  used_other : (b : RecordNumber) → (a.0 ≡ b.0 → ⊥) → used_at made b ≡ used_at p b
  used_other b n = of_record_other p.records.used a.0 b.0 true false n

  maker_other : (b : RecordNumber) → (a.0 ≡ b.0 → ⊥) → maker_at made b ≡ maker_at p b
  maker_other b n = of_record_other p.records.maker a.0 b.0 (w + 1) 0 n

  used_grows : (b : RecordNumber) → used_at p b ≡ true → used_at made b ≡ true
  used_grows b h =
      ⊎_elim
      (λ e. ap (λ (c : RecordNumber). used_at made c) (sym (record_same a b e.0)) ∙ used_made)
      (λ e. used_other b e.0 ∙ h)
      (eqb_cases a.0 b.0)

  -- a record that is free after is another one, and was free before
  free_before : (b : RecordNumber) → used_at made b ≡ false → (a.0 ≡ b.0 → ⊥)
  free_before b h e = true≢false (sym used_made ∙ ap (λ (c : RecordNumber). used_at made c) (record_same a b e) ∙ h)

  pub named_made : Named s p → Named s made
  unfolding all_logs
  named_made n =
      record {
        registers = λ v q l. used_grows (register_at p v q) (n.registers v q l);
        values = λ m l. used_grows (value_at p m) (n.values m l);
        logs = Each-map (all_logs p) (λ e h l. used_grows e.old (h l)) n.logs;
        history = Each-map p.history (λ e h l. used_grows e.old (h l)) n.history;
        free_candidate = λ b h. n.free_candidate b (sym (used_other b (free_before b h)) ∙ h);
        free_maker = λ b h. maker_other b (free_before b h) ∙ n.free_maker b (sym (used_other b (free_before b h)) ∙ h);
        free_links = λ b l low-b h. n.free_links b l low-b (sym (used_other b (free_before b h)) ∙ h);
      }

  -- what names a used record does not name the one that was free
  not_named : (b : RecordNumber) → Used p b → b.0 ≡ a.0 → ⊥
  not_named b used e = true≢false (sym (used (omega arith)) ∙ ap (λ (c : RecordNumber). used_at p c) (record_same b a e) ∙ free)

  view_used : Named s p → (l : LinkNumber) → Used p (view_value p l)
  view_used n l = view_keeps (Used p) p l n.logs (λ some-l. absurd (omega arith)) (n.values l)

  since_new : {k : ℕ} → Named s p → Since s made k a
  unfolding view_value all_logs
  since_new n =
      record {
        candidate = λ h. absurd (true≢false (sym h ∙ n.free_candidate a free));
        history = Each-map p.history (λ e h. not_named e.old h) n.history;
        value = λ q l h. absurd (not_named (value_at p l) (n.values l) h);
        view = λ l q h. absurd (not_named (view_value p l) (view_used n l) h);
        marked = λ q l h. absurd (not_named (value_at p l) (n.values l) h);
        log = λ q. Each-map (all_logs p) (λ e h. not_named e.old h) n.logs;
      }

  since_other : {k : ℕ} {b : RecordNumber} → Since s p k b → Since s made k b
  unfolding view_value all_logs
  since_other x =
      record { candidate = x.candidate; history = x.history; value = x.value; view = x.view; marked = x.marked; log = x.log }

  maker_grows : (b : RecordNumber) → 1 ≤ maker_at p b → 1 ≤ maker_at made b
  maker_grows b h =
      ⊎_elim
      (λ e. omega (arith, ap (λ (c : RecordNumber). maker_at made c) (record_same a b e.0), maker_made))
      (λ e. omega (arith, maker_other b e.0))
      (eqb_cases a.0 b.0)

  kept_made : {b : RecordNumber} → Kept s p b → Kept s made b
  unfolding view_value
  kept_made x = kept_grows p made (λ b h. h) maker_grows (λ l. refl) x

  pub phased_made : {k i : ℕ} → Named s p → Phased s p k i → Phased s made k i
  phased_made {k} {i} n x =
      record {
        snoop = x.snoop;
        logged = x.logged;
        since =
            λ b v e h.
            ⊎_elim
            (λ c. subst (Since s made k) (record_same a b c.0) (since_new n))
            (λ c. since_other (x.since b v (sym (maker_other b c.0) ∙ e) h))
            (eqb_cases a.0 b.0);
        scanned = λ l v q h m. kept_made (x.scanned l v q h m);
        marked = λ l m h e q. kept_made (x.marked l m h e q);
      }
