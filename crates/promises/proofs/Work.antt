-- Every worker event keeps the invariant.
--     snoops_on_lem, snoops_off           what a worker's snoop flag tells of the phase
--     makes_kept, moves_kept, drops_kept, loads_kept, looks_kept, stores_kept, posts_kept     the events where nothing refuses them
-- Assumes nothing.
use Prim.Native.Nat.{ℕ, zero, suc, ◌≤◌, ◌<◌}
use mathlib.Core.Path.{◌≡◌, refl, sym, ◌∙◌}
use mathlib.Core.Bool.{Bool, true, false, cond, not, true≢false}
use mathlib.Core.List.{List}
use native.Mathlib.Omega.{arith}
use borrow.Author.Tests.{leb-false}
use lib.ListN.{length}
use Rattle.rules.specs.declared.Sizes.{Sizes}
use Rattle.rules.specs.declared.RecordNumber.{RecordNumber}
use Rattle.rules.specs.declared.LinkNumber.{LinkNumber}
use Rattle.rules.specs.Size.{links, link_number, board_number}
use Rattle.rules.specs.Pool.{Entry, Links, Pool, none, with_record, used_at, value_at, changed_at, register_at, snoops_at, with_held, with_value, with_register}
use Rattle.rules.specs.View.{view_value}
use Rattle.rules.specs.Worker.{chosen, makes, moves, drops, register_takes, loads, looks, added, logged, snooped, link_takes, stores, posts}
use Rattle.rules.specs.Sound.{Sound}
use Rattle.laws.proofs.Number.{link_inside, board_inside}
use Rattle.laws.proofs.Lists.{of_record_same}
use Rattle.laws.proofs.LookUp.{view_unmarked}
use Rattle.laws.proofs.Chosen.{chosen-low, chosen_free}
use Rattle.laws.proofs.Marks.{on_grows}
use Rattle.laws.proofs.Refusals.{LinkThere}
use Rattle.soundness.proofs.Core.{core}
use Rattle.promises.proofs.Invariant.{Used, Held, by_held, by_maker, by_board, by_view, NoneOrKept, Named, Phased, scanned_below, snoops_in}
use Rattle.promises.proofs.Grow.{named_raised, phased_raised}
use Rattle.promises.proofs.Register.{named_register, phased_register, used_made, maker_made, named_made, phased_made}
use Rattle.promises.proofs.Relink.{relinked, Relinked, relinked_held, named_relinked, phased_relinked, stored_marked, stored_unmarked}
use Rattle.promises.proofs.Run.{State}
use Rattle.promises.proofs.Earlier.{AtHand, link_at_hand, entry_at_hand}
use Rattle.promises.proofs.Reached.{reached_used}

-- ---- the snoop flag and the phase

-- in phases 2 and 3 every worker snoops
snoops_on_lem : (k i w : ℕ) → 2 ≤ k → k ≤ 3 → snoops_in k i w ≡ true
snoops_on_lem zero i w h k = absurd (omega arith)
snoops_on_lem (suc zero) i w h k = absurd (omega arith)
snoops_on_lem (suc (suc zero)) i w h k = refl
snoops_on_lem (suc (suc (suc zero))) i w h k = refl
snoops_on_lem (suc (suc (suc (suc n)))) i w h k = absurd (omega arith)

-- from phase 4 on a worker that does not snoop is scanned
snoops_off : (s : Sizes) (k i w : ℕ) → 4 ≤ k → w < s.w → snoops_in k i w ≡ false → w < scanned_below s k i
snoops_off s zero i w h k e = absurd (omega arith)
snoops_off s (suc zero) i w h k e = absurd (omega arith)
snoops_off s (suc (suc zero)) i w h k e = absurd (omega arith)
snoops_off s (suc (suc (suc zero))) i w h k e = absurd (omega arith)
snoops_off s (suc (suc (suc (suc zero)))) i w h k e = leb-false i w e
snoops_off s (suc (suc (suc (suc (suc n))))) i w h k e = k

-- ---- the events

module _ {s : Sizes} {p : Pool} (sound : Sound s p) (state : State s p) where
  abbrev phase : ℕ
  phase = p.collector.phase

  abbrev here : ℕ
  here = p.collector.position

  pub makes_kept : (w r : ℕ) → 1 ≤ (chosen p).0 → State s (makes w r p).pool
  unfolding makes
  makes_kept w r some =
      record {
        named = named_register w r a (λ h. used_made s p w a some low low_maker free) (named_made s p w a some low low_maker free state.named);
        phased =
            phased_register w r a (λ four h k. by_maker (omega (arith, maker_made s p w a some low low_maker free)))
            (phased_made s p w a some low low_maker free state.named state.phased);
      }
    where
      a : RecordNumber
      a = chosen p

      low : a.0 ≤ length p.records.used
      low = chosen-low p

      low_maker : a.0 ≤ length p.records.maker
      low_maker = omega (arith, chosen-low p, sound.shaped.records.used, sound.shaped.records.maker)

      free : used_at p a ≡ false
      free = chosen_free p some

  -- a register takes a record number that the worker may have
  takes_register : (w r : ℕ) (a : RecordNumber) → Used p a → (4 ≤ phase → w < scanned_below s phase here → NoneOrKept s p a) → State s (with_register w r a p)
  takes_register w r a used kept =
      record { named = named_register w r a used state.named; phased = phased_register w r a kept state.phased }

  pub moves_kept : (w r q : ℕ) → State s (moves w r q p).pool
  unfolding moves
  moves_kept w r q = takes_register w r (register_at p w q) (state.named.registers w q) (λ four h. state.phased.scanned four w q h)

  pub drops_kept : (w r : ℕ) → State s (drops w r p).pool
  unfolding drops
  drops_kept w r = takes_register w r none (λ h. absurd (omega arith)) (λ four h k. absurd (omega arith))

  -- a register takes what a link holds: for a scanned worker, one whose view value is kept
  takes_link : (w r : ℕ) (l : LinkNumber) → l.0 < links s → (4 ≤ phase → w < scanned_below s phase here → view_value p l ≡ value_at p l → NoneOrKept s p (value_at p l))
      → State s (register_takes w r l p).pool
  unfolding register_takes
  takes_link w r l inside kept = takes_register w r (value_at p l) (state.named.values l) (λ four h. by_mark_of four h (changed_at p l) refl)
    where
      by_mark_of : 4 ≤ phase → w < scanned_below s phase here → (b : Bool) → changed_at p l ≡ b → NoneOrKept s p (value_at p l)
      by_mark_of four h true on = state.phased.marked four l inside on
      by_mark_of four h false off = kept four h (view_unmarked p l off)

  -- a link of a record that the register holds
  pub loads_kept : (w r q f : ℕ) → LinkThere s p w q f → State s (loads s w r q f p).pool
  unfolding loads
  loads_kept w r q f there =
      takes_link w r (link_number s (register_at p w q) f) (link_inside s (register_at p w q) f there.holds (sound.registers w q) there.link) (λ four h same.
      by_view f (state.phased.scanned four w q h there.holds) there.link same)

  pub looks_kept : (w r e : ℕ) → e < s.b → State s (looks s w r e p).pool
  unfolding looks
  looks_kept w r e there = takes_link w r (board_number s e) (board_inside s e there) (λ four h same. by_board e there same)

  -- a link takes what a register holds
  link_takes_kept : (w : ℕ) (l : LinkNumber) (r : ℕ) → w < s.w → AtHand s p w l → State s (link_takes w l r p).pool
  unfolding link_takes logged snooped added
  link_takes_kept w l r worker there = by_mark_of (changed_at p l) refl
    where
      x : RecordNumber
      x = register_at p w r

      -- a link that the worker goes to is no free record's
      other : (b : RecordNumber) → 1 ≤ b.0 → b.0 ≤ s.n → used_at p b ≡ false → (g : ℕ) → g < s.k → (link_number s b g).0 ≡ l.0 → ⊥
      other b some low free g k e = true≢false (sym (reached_used state.named (there.owner b some low g k e)) ∙ free)

      marks : List Bool
      marks = with_record p.records.held x.0 true

      -- the link and the logs of the pool change, and the record that is stored is held if the worker snoops
      stored : {ls : Links} {logs : List (List Entry)} (c : Bool) → snoops_at p w ≡ c → Relinked p l x ls logs → State s (cond c (with_held marks (relinked p ls logs)) (relinked p ls logs))
      stored true on z =
          record {
            named = named_relinked s l x (relinked_held marks z) other (state.named.registers w r) held_named;
            phased = phased_relinked s l x (relinked_held marks z) (λ two three. now_held) (λ four some. by_held (now_held some)) held_phased;
          }
        where
          now_held : Held (with_held marks p) x
          now_held some = of_record_same p.records.held x.0 true false some (omega (arith, sound.registers w r, sound.shaped.records.held))

          held_named : Named s (with_held marks p)
          held_named = named_raised p.records.count marks p.workers.snoop p.collector state.named

          held_phased : Phased s (with_held marks p) phase here
          held_phased =
              phased_raised p.records.count marks p.workers.snoop p.collector (λ a h. on_grows p.records.held x.0 a.0 h) state.phased.snoop state.phased
      stored false off z =
          record {
            named = named_relinked s l x z other (state.named.registers w r) state.named;
            phased =
                phased_relinked s l x z
                (λ two three. absurd (true≢false (sym (snoops_on_lem phase here w two three) ∙ sym (state.phased.snoop w worker) ∙ off)))
                (λ four. state.phased.scanned four w r (snoops_off s phase here w four worker (sym (state.phased.snoop w worker) ∙ off)))
                state.phased;
          }

      by_mark_of : (c : Bool) → changed_at p l ≡ c → State s (snooped w x (with_value l x (cond (not c) (added w l p) p)))
      by_mark_of true on = stored (snoops_at p w) refl (stored_marked (core sound) l x (sound.registers w r) there.inside on)
      by_mark_of false off = stored (snoops_at p w) refl (stored_unmarked (core sound) l x (sound.registers w r) there.inside w worker off)

  pub stores_kept : (w q f r : ℕ) → w < s.w → LinkThere s p w q f → State s (stores s w q f r p).pool
  unfolding stores
  stores_kept w q f r worker there = link_takes_kept w (link_number s (register_at p w q) f) r worker (link_at_hand sound w q f there)

  pub posts_kept : (w e r : ℕ) → w < s.w → e < s.b → State s (posts s w e r p).pool
  unfolding posts
  posts_kept w e r worker there = link_takes_kept w (board_number s e) r worker (entry_at_hand w e there)
