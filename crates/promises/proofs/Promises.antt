-- What the pool promises, over any events from a fresh pool, refused ones among them. Nothing is assumed of the events. The words are those of specs/ and of
-- `rules`; what an event answers is read by the number and the value that `rules/specs/Reply.antt` gives its answer.
--     reached_is_never_freed, reached_stays_used     what a worker can reach is never freed
--     counts_at_a_close     at each close the counts are those of the values the collector last saw
--     lost_is_freed         what was lost when a cycle opened, loops aside, is freed in that cycle
-- Assumes nothing.
use Prim.Native.Nat.{ℕ, ◌≤◌}
use mathlib.Core.Path.{◌≡◌}
use mathlib.Core.Bool.{true}
use mathlib.Core.List.{List, ◌∷◌}
use Rattle.rules.specs.declared.Sizes.{Sizes}
use Rattle.rules.specs.declared.RecordNumber.{RecordNumber}
use Rattle.rules.specs.declared.Event.{Event}
use Rattle.rules.specs.Size.{in_range, links}
use Rattle.rules.specs.Pool.{none, used_at, count_at, fresh}
use Rattle.rules.specs.Outcome.{outcome, answers, after, answers_freed}
use Rattle.rules.specs.Sound.{tally}
use Rattle.promises.specs.Reach.{Reaches}
use Rattle.promises.specs.Cycle.{Closes, Cycle, freed_among}
use Rattle.promises.specs.Lost.{Lost, LoopKeeps}
use Rattle.promises.specs.Seen.{seen_after, last_seen}
use Rattle.promises.proofs.Hold.{run_holds, reached_event}
use Rattle.promises.proofs.Reached.{freed_unreached, reached_used_after}
use Rattle.promises.proofs.LostFreed.{lost_freed}
use Rattle.promises.proofs.LastSeen.{event_sees, fresh_run_saw, counts_of_seen}

-- after any events, no event answers that it frees a record that a worker reaches
pub reached_is_never_freed : (s : Sizes) → in_range s ≡ true → (events : List Event) (e : Event) (a : RecordNumber)
    → answers_freed a e (outcome s (after s (fresh s) events) e).answer ≡ true
    → (w : ℕ) → Reaches s (after s (fresh s) events) w a → ⊥
reached_is_never_freed s r events e a =
    freed_unreached (run_holds s r events).sound (run_holds s r events).state e a

-- and what a worker reaches stays used, whatever happens
pub reached_stays_used : (s : Sizes) → in_range s ≡ true → (events : List Event) (e : Event) (a : RecordNumber) (w : ℕ)
    → Reaches s (after s (fresh s) events) w a
    → used_at (outcome s (after s (fresh s) events) e).pool a ≡ true
reached_stays_used s r events e a w x =
    reached_used_after (run_holds s r events).sound (run_holds s r events).state e a w x

-- after any events, where an event closes a cycle each record's count is the number of links of which the collector last saw that they hold it
pub counts_at_a_close : (s : Sizes) → in_range s ≡ true → (events : List Event) (e : Event) → Closes s (after s (fresh s) events) e
    → (a : RecordNumber) → 1 ≤ a.0 → a.0 ≤ s.n
    → count_at (outcome s (after s (fresh s) events) e).pool a
    ≡ tally (seen_after s (after s (fresh s) events) e (last_seen s (fresh s) (λ l. none) events)) (links s) a
unfolding seen_after
counts_at_a_close s r events e c =
    let x = run_holds s r events in
    counts_of_seen s (outcome s (after s (fresh s) events) e).pool (reached_event s r (after s (fresh s) events) x e).sound c.after
    (seen_after s (after s (fresh s) events) e (last_seen s (fresh s) (λ l. none) events))
    (event_sees x.sound (last_seen s (fresh s) (λ l. none) events) (fresh_run_saw s r events) e)

-- after any events, in the cycle that an event then opens, whatever happens until it closes: a record that was lost at the opening, and that no closed loop of
-- lost records contained or led to, is freed
pub lost_is_freed : (s : Sizes) → in_range s ≡ true → (events : List Event) (e : Event) (during : List Event) → Cycle s (after s (fresh s) events) e during
    → (a : RecordNumber) → Lost s (after s (fresh s) events) a → (LoopKeeps s (after s (fresh s) events) a → ⊥)
    → freed_among a (e ∷ during) (answers s (after s (fresh s) events) (e ∷ during)) ≡ true
lost_is_freed = lost_freed
