-- Document 01, "A sound pool": "Every event on a sound pool leaves a sound pool." Nothing is assumed of the event: it may be a worker's or the collector's,
-- and it may be refused.
-- The argument. A count is the tally of what the links count for, and a link counts for its history entry's old value until that entry is counted, then for
-- its view value. A worker event changes none of these: a store on an unmarked link logs the very value that the link counts for, and on a marked link only the
-- present value moves. Phase 2 moves entries from a log to the history, old value and all; phase 3 clears the mark of an entry that is not yet counted; phase 5
-- moves one link from its old value to its view value, one count down and one up; phase 6 empties links whose marks are off, each from its present value to none.
-- So no count falls below 0 and none passes S. Marks follow the entries one for one: a store adds an entry and a mark, phase 3 takes both away. And since no link
-- has two entries among all logs and the uncleared history, these are at most S together, so that there is room for each.
--     fresh_is_sound       the fresh pool is sound
--     event_keeps_sound    every event on a sound pool leaves a sound pool
--     run_is_sound         a run from the fresh pool is sound at each place
-- Assumes nothing.
use Prim.Native.Nat.{ℕ}
use mathlib.Core.Path.{◌≡◌}
use mathlib.Core.Bool.{true}
use mathlib.Core.List.{List}
use lib.ListN.{take}
use Rattle.rules.specs.declared.Sizes.{Sizes}
use Rattle.rules.specs.declared.Event.{Event}
use Rattle.rules.specs.declared.Event.TheVariants.{Make, Move, Drop, Load, Store, Look, Post, Collect}
use Rattle.rules.specs.Size.{in_range}
use Rattle.rules.specs.Pool.{Pool, fresh}
use Rattle.rules.specs.Outcome.{does, outcome, after}
use Rattle.rules.specs.Sound.{Sound}
use Rattle.laws.proofs.Number.{bounds}
use Rattle.laws.proofs.Refusals.{decided, can_make, can_store, can_post}
use Rattle.laws.proofs.Runs.{run_keeps}
use Rattle.soundness.proofs.Steps.{collects_sound}
use Rattle.soundness.proofs.Events.{makes_sound, moves_sound, drops_sound, loads_sound, stores_sound, looks_sound, posts_sound}
use Rattle.soundness.proofs.Fresh.{fresh_sound}

pub fresh_is_sound : (s : Sizes) → Sound s (fresh s)
fresh_is_sound s = fresh_sound s

pub event_keeps_sound : (s : Sizes) → in_range s ≡ true → (p : Pool) → Sound s p → (e : Event) → Sound s (outcome s p e).pool
unfolding outcome does
event_keeps_sound s r p h (Make w q) = decided (Sound s) p h _ _ (λ t. makes_sound h w q (can_make s p w q t).0.worker)
event_keeps_sound s r p h (Move w q f) = decided (Sound s) p h _ _ (λ t. moves_sound h w q f)
event_keeps_sound s r p h (Drop w q) = decided (Sound s) p h _ _ (λ t. drops_sound h w q)
event_keeps_sound s r p h (Load w q f g) = decided (Sound s) p h _ _ (λ t. loads_sound h w q f g)
event_keeps_sound s r p h (Store w q f g) =
    decided (Sound s) p h _ _ (λ t. let k = can_store s p w q f g t in stores_sound h w q f g k.0.worker k.2.link k.2.holds)
event_keeps_sound s r p h (Look w q e) = decided (Sound s) p h _ _ (λ t. looks_sound h w q e)
event_keeps_sound s r p h (Post w e q) = decided (Sound s) p h _ _ (λ t. let k = can_post s p w e q t in posts_sound h w e q k.0.worker k.1)
event_keeps_sound s r p h Collect = decided (Sound s) p h _ _ (λ t. collects_sound (bounds s r).w_least h)

-- the pool after the first i events of a run
pub run_is_sound : (s : Sizes) → in_range s ≡ true → (events : List Event) (i : ℕ) → Sound s (after s (fresh s) (take i events))
run_is_sound s r events i = run_keeps s (Sound s) (event_keeps_sound s r) (fresh s) (fresh_is_sound s) (take i events)
