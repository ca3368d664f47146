-- Each worker event on a sound pool leaves a sound pool. None moves the collector's record or the history, and none changes a value that is counted.
--     makes_sound .. posts_sound     the events where nothing refuses them
-- Assumes nothing.
use Prim.Native.Nat.{ℕ, ◌+◌, ◌≤◌, ◌<◌, zero-le}
use mathlib.Core.Path.{refl, sym, ◌∙◌}
use mathlib.Core.Bool.{Bool, true, false, cond}
use native.Mathlib.Omega.{arith}
use Rattle.rules.specs.declared.Sizes.{Sizes}
use Rattle.rules.specs.declared.RecordNumber.{RecordNumber}
use Rattle.rules.specs.declared.LinkNumber.{LinkNumber}
use Rattle.rules.specs.Size.{links, link_number, board_number}
use Rattle.rules.specs.Pool.{Pool, none, with_record, register_at, snoops_at, with_held, with_value, with_register}
use Rattle.rules.specs.Worker.{chosen, makes, moves, drops, register_takes, loads, looks, added, logged, snooped, link_takes, stores, posts}
use Rattle.rules.specs.Sound.{Sound, uncleared, uncounted}
use Rattle.laws.proofs.Number.{link_inside, board_inside}
use Rattle.laws.proofs.Chosen.{chosen-low}
use Rattle.laws.proofs.Change.{logged_keeps}
use Rattle.laws.proofs.Lists.{length-with_record, with_record_keeps}
use Rattle.soundness.proofs.Core.{Core, core}
use Rattle.soundness.proofs.Parts.{core_register, core_last, core_records}
use Rattle.soundness.proofs.Store.{core_stored}
use Rattle.soundness.proofs.Steps.{stays}

-- ---- the events

module _ {s : Sizes} {p : Pool} (h : Sound s p) where
  picked_low : (chosen p).0 ≤ s.n
  picked_low = omega (arith, chosen-low p, h.shaped.records.used)

  pub makes_sound : (w r : ℕ) → w < s.w → Sound s (makes w r p).pool
  unfolding makes
  makes_sound w r k =
      stays h (makes w r p).pool refl refl
      (core_register
      (core_last
      (core_records (core h) (with_record p.records.used (chosen p).0 true) p.records.held p.records.candidate
      (with_record p.records.maker (chosen p).0 (w + 1))
      (length-with_record p.records.used (chosen p).0 true ∙ h.shaped.records.used)
      h.shaped.records.held
      h.shaped.records.candidate
      (length-with_record p.records.maker (chosen p).0 (w + 1) ∙ h.shaped.records.maker)
      (λ a. with_record_keeps (λ m. m ≤ s.w) 0 p.records.maker (chosen p).0 (w + 1) (omega arith) (λ j. h.makers (record { 0 = j })) a.0))
      (chosen p)
      picked_low)
      w
      r
      (chosen p)
      picked_low)

  -- a register takes a record number
  takes_register : (w r : ℕ) (a : RecordNumber) → a.0 ≤ s.n → Sound s (with_register w r a p)
  takes_register w r a low = stays h (with_register w r a p) refl refl (core_register (core h) w r a low)

  pub moves_sound : (w r q : ℕ) → Sound s (moves w r q p).pool
  unfolding moves
  moves_sound w r q = takes_register w r (register_at p w q) (h.registers w q)

  pub drops_sound : (w r : ℕ) → Sound s (drops w r p).pool
  unfolding drops
  drops_sound w r = takes_register w r none zero-le

  -- a register takes what a link holds
  takes_link : (w r : ℕ) (l : LinkNumber) → Sound s (register_takes w r l p).pool
  unfolding register_takes
  takes_link w r l = takes_register w r _ (h.values l)

  pub loads_sound : (w r q f : ℕ) → Sound s (loads s w r q f p).pool
  unfolding loads
  loads_sound w r q f = takes_link w r (link_number s (register_at p w q) f)

  pub looks_sound : (w r e : ℕ) → Sound s (looks s w r e p).pool
  unfolding looks
  looks_sound w r e = takes_link w r (board_number s e)

  -- a link takes what a register holds
  link_takes_sound : (w : ℕ) (l : LinkNumber) (r : ℕ) → w < s.w → l.0 < links s → Sound s (link_takes w l r p).pool
  unfolding link_takes snooped added
  link_takes_sound w l r kw inside = by_snoop (snoops_at t w)
    where
      a : RecordNumber
      a = register_at p w r

      t : Pool
      t = with_value l a (logged w l p)

      c : Core s t (uncleared p) (uncounted p)
      c = core_stored (core h) l a (h.registers w r) inside w kw

      by_snoop : (b : Bool) → Sound s (cond b (with_held (with_record t.records.held a.0 true) t) t)
      by_snoop true =
          stays h (with_held (with_record t.records.held a.0 true) t) (sym (logged_keeps (λ y. y.collector) w l p refl)) (sym (logged_keeps (λ y. y.history) w l p refl))
          (core_records c t.records.used (with_record t.records.held a.0 true) t.records.candidate t.records.maker
          c.shaped.records.used
          (length-with_record t.records.held a.0 true ∙ c.shaped.records.held)
          c.shaped.records.candidate
          c.shaped.records.maker
          c.makers)
      by_snoop false = stays h t (sym (logged_keeps (λ y. y.collector) w l p refl)) (sym (logged_keeps (λ y. y.history) w l p refl)) c

  pub stores_sound : (w q f r : ℕ) → w < s.w → f < s.k → 1 ≤ (register_at p w q).0 → Sound s (stores s w q f r p).pool
  unfolding stores
  stores_sound w q f r kw kf some = link_takes_sound w (link_number s (register_at p w q) f) r kw (link_inside s (register_at p w q) f some (h.registers w q) kf)

  pub posts_sound : (w e r : ℕ) → w < s.w → e < s.b → Sound s (posts s w e r p).pool
  unfolding posts
  posts_sound w e r kw there = link_takes_sound w (board_number s e) r kw (board_inside s e there)
