-- The promises speak of something: document 01's listing has a cycle, and at its opening record 1 is lost and no loop keeps it. So the third promise says of it what
-- the listing prints, that record 1 is freed in that cycle. And its "loops aside" can't be left out: a record that is linked to itself and lost stays.
-- Two workers share a record through the board. And a step of phase 6 that answers 0 need not close the cycle: it may have emptied a link, and the collector saw that.
--     begun, opened        the listing's make and drop, and the pool then
--     one_cycle            its six collect events are a cycle
--     one_lost, no_loop    record 1 is lost, and no closed loop keeps it
--     one_freed            so it is freed
--     self_stays           where record 1 is linked to itself before the drop, it is lost, a loop keeps it, and the cycle does not free it
--     two_workers_share    what one worker posts and another looks at, both hold
--     waiting_gives_up     a record that waits: its unchanged link is emptied, its cycle goes on, and its child is freed in it
-- Assumes nothing.
use Prim.Native.Nat.{ℕ, zero, suc}
use mathlib.Core.Path.{◌≡◌, refl, sym, ap, ◌∙◌}
use mathlib.Core.Bool.{true, false, true≢false}
use mathlib.Core.Logic.{inl}
use mathlib.Core.List.{List, [], ◌∷◌}
use native.Mathlib.Omega.{arith}
use Rattle.rules.specs.declared.Sizes.{Sizes}
use Rattle.rules.specs.declared.RecordNumber.{RecordNumber}
use Rattle.rules.specs.declared.LinkNumber.{LinkNumber}
use Rattle.rules.specs.declared.Event.{Event}
use Rattle.rules.specs.declared.Event.TheVariants.{Make, Drop, Store, Look, Post, Collect}
use Rattle.rules.specs.Size.{link_number}
use Rattle.rules.specs.Pool.{Pool, none, used_at, value_at, register_at, fresh}
use Rattle.rules.specs.Reply.{value, Outcome}
use Rattle.rules.specs.Outcome.{outcome, answers, after, answers_freed}
use Rattle.rules.specs.Starred.{sizes_of, sizes_and_board}
use Rattle.rules.proofs.Starred.{computes}
use Rattle.promises.specs.Reach.{Reaches, holds}
use Rattle.promises.specs.Cycle.{Cycle, closing, going_on, freed_among}
use Rattle.promises.specs.Lost.{Lost, LeadsTo, link, on, LoopKeeps}
use Rattle.promises.specs.Seen.{emptied_by, seen_after, last_seen}
use Rattle.promises.proofs.Promises.{lost_is_freed}
use Rattle.promises.proofs.Reached.{nothing_reached}

abbrev sizes : Sizes
sizes = sizes_of 2 1 1 1

abbrev begun : List Event
begun = Make 0 0 ∷ Drop 0 0 ∷ []

abbrev opened : Pool
opened = after sizes (fresh sizes) begun

abbrev one : RecordNumber
one = record { 0 = 1 }

abbrev rest : List Event
rest = Collect ∷ Collect ∷ Collect ∷ Collect ∷ Collect ∷ []

not-zero : (n : ℕ) → suc n ≡ 0 → ⊥
not-zero n e = omega arith

-- the phases are 0, then 1, 2, 4, 6, where a record is freed, 6 again, and 0
one_cycle : Cycle sizes opened Collect rest
unfolding computes
one_cycle =
    record {
      opens = record { before = refl; after = not-zero 0 };
      to_close = going_on (not-zero 1) (going_on (not-zero 3) (going_on (not-zero 5) (going_on (not-zero 5) (closing (record { before = not-zero 5; after = refl })))));
    }

-- the one register is empty, and so are both links
no_register : (w r : ℕ) → register_at opened w r ≡ none
unfolding computes
no_register zero zero = refl
no_register zero (suc r) = refl
no_register (suc w) r = refl

no_value : (l : ℕ) → value_at opened (record { 0 = l }) ≡ none
unfolding computes
no_value zero = refl
no_value (suc zero) = refl
no_value (suc (suc l)) = refl

one_lost : Lost sizes opened one
unfolding computes
one_lost = record { used = refl; unreached = λ w x. nothing_reached no_register (λ e k. absurd (omega arith)) x }

nothing_leads : {a b : RecordNumber} → LeadsTo sizes opened a b → ⊥
nothing_leads (link {a = a} {b = b} f from to k e) =
    true≢false (sym to.used ∙ ap (λ (c : RecordNumber). used_at opened c) (sym e ∙ no_value (link_number sizes a f).0))
nothing_leads (on x y) = nothing_leads x

no_loop : LoopKeeps sizes opened one → ⊥
no_loop x = nothing_leads x.loop

pub one_freed : freed_among one (Collect ∷ rest) (answers sizes opened (Collect ∷ rest)) ≡ true
unfolding computes
one_freed = lost_is_freed sizes refl begun Collect rest one_cycle one one_lost no_loop

-- ---- loops aside

abbrev self_begun : List Event
self_begun = Make 0 0 ∷ Store 0 0 0 0 ∷ Drop 0 0 ∷ []

abbrev self_opened : Pool
self_opened = after sizes (fresh sizes) self_begun

-- the phases are 0, then 1, 2, 3, 4, 5, 6, where nothing passes, and 0
abbrev self_rest : List Event
self_rest = Collect ∷ Collect ∷ Collect ∷ Collect ∷ Collect ∷ Collect ∷ []

self_cycle : Cycle sizes self_opened Collect self_rest
unfolding computes
self_cycle =
    record {
      opens = record { before = refl; after = not-zero 0 };
      to_close =
          going_on (not-zero 1)
          (going_on (not-zero 2) (going_on (not-zero 3) (going_on (not-zero 4) (going_on (not-zero 5) (closing (record { before = not-zero 5; after = refl }))))));
    }

self_register : (w r : ℕ) → register_at self_opened w r ≡ none
unfolding computes
self_register zero zero = refl
self_register zero (suc r) = refl
self_register (suc w) r = refl

self_lost : Lost sizes self_opened one
unfolding computes
self_lost = record { used = refl; unreached = λ w x. nothing_reached self_register (λ e k. absurd (omega arith)) x }

self_kept : LoopKeeps sizes self_opened one
unfolding computes
self_kept = record { looped = one; loop = link 0 self_lost self_lost (omega arith) refl; keeps = inl refl }

pub self_stays : Cycle sizes self_opened Collect self_rest × Lost sizes self_opened one × LoopKeeps sizes self_opened one
    × (freed_among one (Collect ∷ self_rest) (answers sizes self_opened (Collect ∷ self_rest)) ≡ false)
unfolding computes freed_among answers_freed
self_stays = (self_cycle, self_lost, self_kept, refl)

-- ---- the board

abbrev board_sizes_lem : Sizes
board_sizes_lem = sizes_and_board 1 1 2 1 1

-- worker 0 makes record 1 and posts it; worker 1 looks at the entry
abbrev passed_on : List Event
passed_on = Make 0 0 ∷ Post 0 0 0 ∷ Look 1 0 0 ∷ []

-- each of them reaches record 1 from a register of its own
pub two_workers_share : Reaches board_sizes_lem (after board_sizes_lem (fresh board_sizes_lem) passed_on) 0 one × Reaches board_sizes_lem (after board_sizes_lem (fresh board_sizes_lem) passed_on) 1 one
unfolding computes
two_workers_share = (holds 0 refl (omega arith), holds 0 refl (omega arith))

-- ---- a record that waits

abbrev two : RecordNumber
two = record { 0 = 2 }

abbrev waiting_sizes : Sizes
waiting_sizes = sizes_of 2 2 1 2

-- record 1 has record 2 in its link 0. The first four steps lead to phase 4: there link 1 is stored to, and record 1 is dropped before the scan. Two steps more lead to phase 6
abbrev waiting_events : List Event
waiting_events =
    Make 0 0 ∷ Make 0 1 ∷ Store 0 0 0 1 ∷ Drop 0 1 ∷ Collect ∷ Collect ∷ Collect ∷ Collect ∷ Store 0 0 1 1 ∷ Drop 0 0 ∷ Collect ∷ Collect ∷ []

abbrev waiting : Pool
waiting = after waiting_sizes (fresh waiting_sizes) waiting_events

abbrev gave_up : Outcome
gave_up = outcome waiting_sizes waiting Collect

-- what the collector saw of link 0 before the next step, and after it
abbrev seen_before : LinkNumber → RecordNumber
seen_before = last_seen waiting_sizes (fresh waiting_sizes) (λ l. none) waiting_events

abbrev first : LinkNumber
first = link_number waiting_sizes one 0

pub waiting_gives_up : (value gave_up.answer ≡ 0) × (gave_up.pool.collector.phase ≡ 6) × (used_at gave_up.pool one ≡ true)
    × (seen_before first ≡ two)
    × (seen_after waiting_sizes waiting Collect seen_before first ≡ none)
    × (answers_freed two Collect (outcome waiting_sizes gave_up.pool Collect).answer ≡ true)
unfolding computes last_seen seen_after emptied_by answers_freed
waiting_gives_up = (refl, refl, refl, refl, refl, refl)
