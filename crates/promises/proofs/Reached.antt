-- What a worker can reach is never freed.
-- The argument. From phase 4 on call kept the records that are held, or have a maker, the view values of board entries, and all that view values lead to from
-- these. View values do not move between two clearings, other than to none where phase 6 empties a link of a record that is not kept, and the roots only grow within
-- phases 4 to 6; so what is kept stays kept. Every register of a scanned worker holds none or a kept record, and so does every marked link: the scan holds what it
-- finds; before it the snooping holds what is stored; after it a worker has only what it got through kept records, by a view value or from under a mark. In phase 6
-- all workers are scanned, so whatever can be reached is kept, from a board entry too: it holds its view value or stands under a mark. What phase 6 takes, to free it
-- or to empty its unchanged links, is not kept: its count is 0, so no view value is it; it is not held, and it has no maker, since a record made since its maker's log was
-- taken is a candidate only if it is held. The invariant (Invariant.antt) carries this through the cycle; Run and Work prove it kept.
--     marked_inside      a link whose mark is on has a number below S
--     reached_kept       in phase 6 what a worker reaches is kept
--     reaches_some, reached_used     what is reached is a record, and is used
--     nothing_reached    where every register and every board entry is empty nothing is reached
--     freed_unreached    a record that an event frees passed the search, so that nothing keeps it and no worker reaches it
--     reached_used_after     so what is reached stays used
-- Assumes nothing.
use Prim.Native.Nat.{ℕ, ◌≤◌, ◌<◌}
use mathlib.Core.Path.{◌≡◌, refl, sym, ap, ◌∙◌, subst}
use mathlib.Core.Logic.{⊎_elim}
use mathlib.Core.Bool.{Bool, true, false, cond, true≢false}
use mathlib.Core.List.{List, []}
use native.Mathlib.Omega.{arith}
use lib.ListN.{length, get_or, get_or-eq_default}
use Rattle.rules.specs.declared.Sizes.{Sizes}
use Rattle.rules.specs.declared.RecordNumber.{RecordNumber}
use Rattle.rules.specs.declared.LinkNumber.{LinkNumber}
use Rattle.rules.specs.declared.Event.{Event}
use Rattle.rules.specs.Size.{links, link_number, board_number}
use Rattle.rules.specs.Pool.{Pool, none, used_at, value_at, changed_at, registers_at, register_at}
use Rattle.rules.specs.View.{view_value}
use Rattle.rules.specs.Outcome.{answers_made, answers_freed, used_after, outcome}
use Rattle.rules.specs.Sound.{Sound}
use Rattle.laws.proofs.Tests.{below_or_not}
use Rattle.laws.proofs.LookUp.{view_unmarked}
use Rattle.soundness.proofs.Used.{used_event, freed_passed}
use Rattle.promises.specs.Reach.{Reaches, holds, posted, leads}
use Rattle.promises.proofs.Invariant.{Used, Kept, by_board, by_view, NoneOrKept, Named}
use Rattle.promises.proofs.Freeing.{unkept}
use Rattle.promises.proofs.Run.{State, phased_in, taken_unnamed}

pub reaches_some : {s : Sizes} {p : Pool} {w : ℕ} {a : RecordNumber} → Reaches s p w a → 1 ≤ a.0
reaches_some (holds r e some) = some
reaches_some (posted e k h some) = some
reaches_some (leads f x k e some) = some

-- where every register and every board entry is empty, nothing is reached
pub nothing_reached : {s : Sizes} {p : Pool} → ((w r : ℕ) → register_at p w r ≡ none) → ((e : ℕ) → e < s.b → value_at p (board_number s e) ≡ none)
    → {w : ℕ} {a : RecordNumber} → Reaches s p w a → ⊥
nothing_reached empty board {w} (holds r e some) = omega (arith, ap (λ (b : RecordNumber). b.0) (sym (empty w r) ∙ e))
nothing_reached empty board (posted e k h some) = omega (arith, ap (λ (b : RecordNumber). b.0) (sym (board e k) ∙ h))
nothing_reached empty board (leads f x k e some) = nothing_reached empty board x

pub reached_used : {s : Sizes} {p : Pool} → Named s p → {v : ℕ} {a : RecordNumber} → Reaches s p v a → used_at p a ≡ true
reached_used {s} {p} n {v} (holds r e some) = subst (Used p) e (n.registers v r) some
reached_used {s} {p} n (posted e k h some) = subst (Used p) h (n.values (board_number s e)) some
reached_used {s} {p} n (leads {a = a} f x k e some) = subst (Used p) e (n.values (link_number s a f)) some

module _ {s : Sizes} {p : Pool} (sound : Sound s p) (state : State s p) where
  marked_inside : (l : LinkNumber) → changed_at p l ≡ true → l.0 < links s
  marked_inside l on =
      ⊎_elim (λ h. h) (λ h. absurd (true≢false (sym on ∙ get_or-eq_default p.links.changed false (omega (arith, sound.shaped.links.changed))))) (below_or_not l.0 (links s))

  -- what a link holds is kept if its view value is, for else it stands under a mark
  link_kept : p.collector.phase ≡ 6 → (l : LinkNumber) → (view_value p l ≡ value_at p l → NoneOrKept s p (value_at p l)) → NoneOrKept s p (value_at p l)
  link_kept e l by-its-view = by_mark_of (changed_at p l) refl
    where
      by_mark_of : (c : Bool) → changed_at p l ≡ c → NoneOrKept s p (value_at p l)
      by_mark_of true on = (phased_in sound state 6 e).marked (omega arith) l (marked_inside l on) on
      by_mark_of false off = by-its-view (view_unmarked p l off)

  -- all workers are scanned, so that what a register holds is kept, and what a board entry or a kept record's link holds is a view value or stands under a mark
  reached_kept : p.collector.phase ≡ 6 → (w : ℕ) {a : RecordNumber} → Reaches s p w a → Kept s p a
  reached_kept e w (holds {a = a} r h some) = ⊎_elim inside beyond (below_or_not w s.w)
    where
      inside : w < s.w → Kept s p a
      inside k = subst (Kept s p) h ((phased_in sound state 6 e).scanned (omega arith) w r k (subst (λ (b : RecordNumber). 1 ≤ b.0) (sym h) some))

      beyond : s.w ≤ w → Kept s p a
      beyond k =
          let past : length p.workers.registers ≤ w = omega (arith, sound.shaped.workers.registers) in
          let nothing : registers_at p w ≡ [] = get_or-eq_default p.workers.registers [] past in
          absurd (omega (arith, ap (λ (b : RecordNumber). b.0) h, ap (λ (l : List RecordNumber). (get_or l r none).0) nothing))
  reached_kept e w (posted i k h some) = subst (NoneOrKept s p) h (link_kept e (board_number s i) (λ same. by_board i k same)) some
  reached_kept e w (leads {a = a} f x k h some) =
      let y : Kept s p a = reached_kept e w x in subst (NoneOrKept s p) h (link_kept e (link_number s a f) (λ same. by_view f y k same)) some

  -- nothing keeps a record that an event frees, so no worker reaches it
  pub freed_unreached : (e : Event) (a : RecordNumber) → answers_freed a e (outcome s p e).answer ≡ true → (w : ℕ) → Reaches s p w a → ⊥
  freed_unreached e a z w x =
      let some : 1 ≤ a.0 = reaches_some x in
      let took = freed_passed s p sound a e some z in
      unkept (taken_unnamed sound state took.0 a some took.1 took.2).unkept (reached_kept took.0 w x)

-- so what is reached stays used
pub reached_used_after : {s : Sizes} {p : Pool} → Sound s p → State s p → (e : Event) (a : RecordNumber) (w : ℕ) → Reaches s p w a → used_at (outcome s p e).pool a ≡ true
unfolding used_after
reached_used_after {s} {p} sound state e a w x =
    used_event s p sound a (reaches_some x) e
    ∙ ap (λ before. used_after a before e (outcome s p e).answer) (reached_used state.named x)
    ∙ by_answer (answers_made a e (outcome s p e).answer) (answers_freed a e (outcome s p e).answer) (λ z. freed_unreached sound state e a z w x)
  where
    by_answer : (made freed : Bool) → (freed ≡ true → ⊥) → cond made true (cond freed false true) ≡ true
    by_answer true freed n = refl
    by_answer false true n = absurd (n refl)
    by_answer false false n = refl
