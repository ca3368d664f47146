-- The invariant holds at each place of a run from the fresh pool.
--     fresh_state      the fresh pool has it
--     event_keeps      every event keeps it
--     Reached, reached_fresh, reached_event, run_holds     every pool of a run has it, and is sound
-- Assumes nothing.
use mathlib.Core.Path.{◌≡◌, refl, sym, ap, subst}
use mathlib.Core.Bool.{true, false}
use mathlib.Core.List.{List}
use native.Mathlib.Omega.{arith}
use Rattle.rules.specs.declared.Sizes.{Sizes}
use Rattle.rules.specs.declared.RecordNumber.{RecordNumber}
use Rattle.rules.specs.declared.Event.{Event}
use Rattle.rules.specs.declared.Event.TheVariants.{Make, Move, Drop, Load, Store, Look, Post, Collect}
use Rattle.rules.specs.Size.{in_range, link_number}
use Rattle.rules.specs.Pool.{Pool, fresh}
use Rattle.rules.specs.Outcome.{does, outcome, after}
use Rattle.rules.specs.Sound.{Each, Sound}
use Rattle.laws.proofs.Refusals.{decided, can_make, can_load, can_store, can_look, can_post}
use Rattle.laws.proofs.Runs.{run_keeps}
use Rattle.soundness.proofs.Fresh.{get_d_same, of_record_all, no_logs, nothing_held, empty}
use Rattle.soundness.proofs.Kept.{fresh_is_sound, event_keeps_sound}
use Rattle.promises.proofs.Invariant.{Used}
use Rattle.promises.proofs.Phases.{phased_none}
use Rattle.promises.proofs.Run.{State, collects_kept}
use Rattle.promises.proofs.Work.{makes_kept, moves_kept, drops_kept, loads_kept, looks_kept, stores_kept, posts_kept}

fresh_state : (s : Sizes) → State s (fresh s)
unfolding fresh
fresh_state s =
    record {
      named =
          record {
            registers = λ w r h. absurd (omega (arith, nothing_held s w r));
            values = λ l h. absurd (omega (arith, ap (λ (a : RecordNumber). a.0) (empty s l)));
            logs = subst (Each (λ e. Used (fresh s) e.old)) (sym (no_logs s)) tt;
            history = tt;
            free_candidate = λ a h. of_record_all s.n false a.0;
            free_maker = λ a h. of_record_all s.n 0 a.0;
            free_links = λ a some low h f k. empty s (link_number s a f);
          };
      phased = phased_none 0 0 (omega arith) refl (λ w h. get_d_same s.w false w);
    }

event_keeps : (s : Sizes) (p : Pool) → Sound s p → State s p → (e : Event) → State s (outcome s p e).pool
unfolding outcome does
event_keeps s p h x (Make w r) = decided (State s) p x _ _ (λ t. makes_kept h x w r (can_make s p w r t).1)
event_keeps s p h x (Move w r q) = decided (State s) p x _ _ (λ t. moves_kept h x w r q)
event_keeps s p h x (Drop w r) = decided (State s) p x _ _ (λ t. drops_kept h x w r)
event_keeps s p h x (Load w r q f) = decided (State s) p x _ _ (λ t. loads_kept h x w r q f (can_load s p w r q f t).2)
event_keeps s p h x (Store w q f r) =
    decided (State s) p x _ _ (λ t. let k = can_store s p w q f r t in stores_kept h x w q f r k.0.worker k.2)
event_keeps s p h x (Look w r e) = decided (State s) p x _ _ (λ t. looks_kept h x w r e (can_look s p w r e t).1)
event_keeps s p h x (Post w e r) = decided (State s) p x _ _ (λ t. let k = can_post s p w e r t in posts_kept h x w e r k.0.worker k.1)
event_keeps s p h x Collect = decided (State s) p x _ _ (λ t. collects_kept h x)

pub record Reached (s : Sizes) (p : Pool) : Type 0 where
  pub sound : Sound s p
  pub state : State s p

pub reached_fresh : (s : Sizes) → Reached s (fresh s)
reached_fresh s = record { sound = fresh_is_sound s; state = fresh_state s }

pub reached_event : (s : Sizes) → in_range s ≡ true → (p : Pool) → Reached s p → (e : Event) → Reached s (outcome s p e).pool
reached_event s r p x e = record { sound = event_keeps_sound s r p x.sound e; state = event_keeps s p x.sound x.state e }

pub run_holds : (s : Sizes) → in_range s ≡ true → (events : List Event) → Reached s (after s (fresh s) events)
run_holds s r events = run_keeps s (Reached s) (reached_event s r) (fresh s) (reached_fresh s) events
