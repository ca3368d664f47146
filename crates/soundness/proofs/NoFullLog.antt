-- "Show that a worker's log in a sound pool never has S entries when a store must log" (document 02, request 4). So no store answers 6, and the number is not used.
-- Every entry of a log is for a link whose mark is on, and each such link stands once among all logs: a link whose mark is off leaves room for one entry more.
--     no_log_is_full    where a link must be logged, no worker's log has S entries: what the push on a log rests on
--     store_has_room    so a store that nothing refuses and that must log has room
-- Assumes nothing.
use Prim.Native.Nat.{ℕ, ◌<◌}
use mathlib.Core.Path.{◌≡◌, ap}
use mathlib.Core.Bool.{false, true}
use native.Mathlib.Omega.{arith}
use borrow.Author.Tests.{not-true}
use lib.ListN.{length}
use Rattle.rules.specs.declared.Sizes.{Sizes}
use Rattle.rules.specs.declared.LinkNumber.{LinkNumber}
use Rattle.rules.specs.declared.Event.TheVariants.{Store, Post}
use Rattle.rules.specs.Size.{links, link_number, board_number}
use Rattle.rules.specs.Pool.{Pool, changed_at, register_at, log_at}
use Rattle.rules.specs.View.{bit, all_logs}
use Rattle.rules.specs.Worker.{must_log}
use Rattle.rules.specs.Outcome.{refusals}
use Rattle.rules.specs.Sound.{Sound}
use Rattle.laws.proofs.Number.{board_inside}
use Rattle.laws.proofs.Lists.{length-flatten}
use Rattle.laws.proofs.Room.{room-left}
use Rattle.laws.proofs.Refusals.{Unrefused, can_store, can_post}
use Rattle.soundness.proofs.Core.{core, times_most, links_in_range}
use Rattle.soundness.proofs.Known.{link_below}

pub no_log_is_full : {s : Sizes} {p : Pool} → Sound s p → (w : ℕ) (l : LinkNumber) → l.0 < links s → must_log p l ≡ true → length (log_at p w) < links s
unfolding all_logs
no_log_is_full {s} {p} sound w l inside must =
    let c = core sound in
    let off : changed_at p l ≡ false = not-true (changed_at p l) must in
    omega (
      arith,
      length-flatten p.workers.log w,
      room-left (all_logs p) (links s) (links_in_range s (all_logs p) sound.logs) (times_most c) l inside (omega (arith, c.marks l inside, ap bit off)),
    )

-- in a sound pool, where nothing refuses a store and it must log, its worker's log has fewer than S entries
pub store_has_room : (s : Sizes) (p : Pool) → Sound s p → (w q f r : ℕ) → Unrefused (refusals s p (Store w q f r))
    → must_log p (link_number s (register_at p w q) f) ≡ true
    → length (log_at p w) < links s
store_has_room s p sound w q f r unrefused must =
    let there = (can_store s p w q f r unrefused).2 in
    no_log_is_full sound w (link_number s (register_at p w q) f) (link_below sound w q f there.holds there.link) must

pub post_has_room : (s : Sizes) (p : Pool) → Sound s p → (w e r : ℕ) → Unrefused (refusals s p (Post w e r)) → must_log p (board_number s e) ≡ true → length (log_at p w) < links s
post_has_room s p sound w e r unrefused must = no_log_is_full sound w (board_number s e) (board_inside s e (can_post s p w e r unrefused).1) must
