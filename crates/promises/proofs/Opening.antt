-- Where a cycle opens, what is lost remains: nothing holds it but links of what is lost, and no board entry, held marks are off, and no log is taken yet.
--     lost_remaining     what is lost remains
-- Assumes nothing.
use Prim.Native.Nat.{ℕ, ◌≤◌, ◌<◌, zero-le}
use mathlib.Core.Path.{◌≡◌, refl, sym, ap, ◌∙◌, subst}
use mathlib.Core.Logic.{◌⊎◌, inl, inr, ⊎_elim}
use mathlib.Core.Bool.{Bool, true, false}
use native.Mathlib.Omega.{arith}
use lib.ListN.{length, get_or-eq_default}
use Rattle.rules.specs.declared.Sizes.{Sizes}
use Rattle.rules.specs.declared.RecordNumber.{RecordNumber}
use Rattle.rules.specs.declared.LinkNumber.{LinkNumber}
use Rattle.rules.specs.Size.{in_range, links, link_number, board_number}
use Rattle.rules.specs.Pool.{Pool, none, used_at, value_at}
use Rattle.laws.proofs.Tests.{below_or_not}
use Rattle.laws.proofs.Number.{bounds, link_same, link_split}
use Rattle.laws.proofs.Marks.{on_some}
use Rattle.promises.specs.Reach.{posted, leads}
use Rattle.promises.specs.Lost.{Lost}
use Rattle.promises.proofs.Hold.{Reached}
use Rattle.promises.proofs.Ready.{Ready}
use Rattle.promises.proofs.Remain.{Holder, Remains, Remaining}

-- what is lost remains: only links of lost records hold it
pub lost_remaining : (s : Sizes) → in_range s ≡ true → (p : Pool) → Reached s p → Ready p → p.collector.phase ≡ 0 → Remaining s p (Lost s p) p
lost_remaining s r p reached ready e =
    subst (λ (k : ℕ). Remains s p p (Lost s p) k p.collector.position) (sym e)
    (record {
      left =
          λ x y.
          record {
            used = y.used;
            unreached = y.unreached;
            unheld = ready.unheld e x;
            links = λ f k. refl;
            maker = λ v z. zero-le;
            logs = λ w z. absurd (omega arith);
          };
      holders = λ l x y z. holder l x y z (below_or_not l.0 (links s));
    })
  where
    holder : (l : LinkNumber) (x : RecordNumber) → Lost s p x → value_at p l ≡ x → (l.0 < links s) ⊎ (links s ≤ l.0) → Holder s (Lost s p) l
    holder l x y z (inl inside) =
        ⊎_elim
        (λ w.
        record {
          who = w.0;
          which = w.1;
          remains =
              record {
                used = by_mark (used_at p w.0) refl w.1 w.2 w.3 w.4 (held_by_lem (link_number s w.0 w.1) w.5);
                unreached = λ v q. y.unreached v (leads w.1 q w.4 (held_by_lem (link_number s w.0 w.1) w.5) some);
              };
          inside = w.4;
          number = w.5;
        })
        -- what a board entry holds every worker reaches
        (λ b. absurd (y.unreached 0 (posted b.0 b.1 (held_by_lem (board_number s b.0) b.2) some)))
        (link_split s (bounds s r).k_least l inside)
      where
        some : 1 ≤ x.0
        some = on_some p.records.used x.0 y.used

        held_by_lem : (m : LinkNumber) → l.0 ≡ m.0 → value_at p m ≡ x
        held_by_lem m q = ap (value_at p) (sym (link_same l m q)) ∙ z

        -- the links of a free record hold none
        by_mark : {a : RecordNumber} (b : Bool) → used_at p a ≡ b → (f : ℕ) → 1 ≤ a.0 → a.0 ≤ s.n → f < s.k → value_at p (link_number s a f) ≡ x → used_at p a ≡ true
        by_mark true q f some-a low-a k v = q
        by_mark {a} false q f some-a low-a k v =
            absurd (omega (arith, some, ap (λ (c : RecordNumber). c.0) (sym (reached.state.named.free_links a some-a low-a q f k) ∙ v)))
    holder l x y z (inr beyond) =
        let past : length p.links.value ≤ l.0 = omega (arith, reached.sound.shaped.links.value) in
        let nothing : value_at p l ≡ none = get_or-eq_default p.links.value none past in
        absurd (let some = on_some p.records.used x.0 y.used in omega (arith, ap (λ (c : RecordNumber). c.0) (sym nothing ∙ z)))
