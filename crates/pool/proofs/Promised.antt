-- What is promised of the public calls. A caller lends tables, makes them fresh, and gives the call any events one after another, refused ones among them; each
-- result is what the contract's equation says. Nothing is assumed of the events, nor of what the tables held. The words are those of specs/, of `rules` and of
-- `promises`.
--     calls_are_a_run            answers, tables and the collector's record are those of a run of the rules from the fresh pool
--     never_one_or_two           no answer is 1 or 2
--     wrong_shape_refused        where the caller's own sizes or lengths are wrong, every call answers 1 and changes nothing
--     reached_is_never_freed     what a worker can reach is never freed
--     counts_at_a_close          at each close the counts are those of the values the collector last saw
--     lost_is_freed              what was lost when a cycle opened, loops aside, is freed in that cycle
-- Assumes nothing.
use Prim.Native.Nat.{ℕ, ◌≤◌}
use mathlib.Core.Path.{◌≡◌, sym, ap, ◌∙◌, subst}
use mathlib.Core.Bool.{Bool, true, false, cond}
use mathlib.Core.List.{List, ◌∷◌}
use Rattle.rules.specs.declared.Sizes.{Sizes}
use Rattle.rules.specs.declared.RecordNumber.{RecordNumber}
use Rattle.rules.specs.declared.Event.{Event}
use Rattle.rules.specs.declared.Answer.{Answer}
use Rattle.rules.specs.declared.Refusal.TheVariants.{WrongSize}
use Rattle.rules.specs.declared.Answer.TheVariants.{Fresh}
use Rattle.rules.specs.declared.Collector.{Collector}
use Rattle.rules.specs.Size.{in_range, links}
use Rattle.rules.specs.Pool.{Pool, none, count_at, fresh}
use Rattle.rules.specs.Reply.{number}
use Rattle.rules.specs.Outcome.{outcome, answers, after, answers_freed}
use Rattle.rules.specs.Sound.{Sound, tally}
use Rattle.laws.proofs.Tests.{and_left}
use Rattle.soundness.proofs.Kept.{fresh_is_sound, event_keeps_sound}
use Rattle.laws.proofs.Runs.{run_keeps}
use Rattle.promises.specs.Reach.{Reaches}
use Rattle.promises.specs.Cycle.{Closes, Cycle, freed_among}
use Rattle.promises.specs.Lost.{Lost, LoopKeeps}
use Rattle.promises.specs.Seen.{seen_after, last_seen}
use Rattle.promises.proofs.Promises as rules-promise
use Rattle.tables.specs.Tables.{Tables}
use Rattle.tables.specs.Lie.{pool_of, tables_of}
use Rattle.tables.specs.Event.{Called, written, LentPool}
use Rattle.tables.proofs.RoundTrip.{pool_of_tables}
use Rattle.fresh.specs.Fits.{fits, refused_on}
use Rattle.fresh.specs.Fresh.{made_fresh}
use Rattle.pool.specs.Calls.{called}
use Rattle.pool.specs.Run.{left, call_answers, after_calls}
use Rattle.pool.proofs.Checked.{checked_unfit, refused_called}
use Rattle.pool.proofs.Given.{OfAnEvent, never_one_or_two as fair}
use Rattle.pool.proofs.Called.{laid_out, called_sound, run_lies, run_answers}

-- the pool that lies in lent tables between two calls
abbrev pub pool_in : Sizes → LentPool → Pool
pool_in s x = pool_of s x.tables x.collector

-- one event on them
abbrev pub call : Sizes → LentPool → Event → Called
call s x e = called s x.tables x.collector e

module _ (s : Sizes) (t : Tables) (c : Collector) (fit : fits s t ≡ true) where
  range : in_range s ≡ true
  range = and_left (in_range s) _ fit

  -- what the fresh call leaves, and what any events then leave
  abbrev pub lent_after : List Event → LentPool
  lent_after events = after_calls s (left (made_fresh s t c)) events

  run : List Event → Pool
  run events = after s (fresh s) events

  made : made_fresh s t c ≡ written s (record { answer = Fresh; pool = fresh s })
  unfolding made_fresh
  made = ap (λ (b : Bool). cond b (written s (record { answer = Fresh; pool = fresh s })) (refused_on WrongSize t c)) fit

  starts : left (made_fresh s t c) ≡ laid_out s (fresh s)
  unfolding written
  starts = ap left made

  run_sound : (events : List Event) → Sound s (run events)
  unfolding run
  run_sound events = run_keeps s (Sound s) (event_keeps_sound s range) (fresh s) (fresh_is_sound s) events

  lies : (events : List Event) → lent_after events ≡ laid_out s (run events)
  unfolding run
  lies events = ap (λ (x : LentPool). after_calls s x events) starts ∙ run_lies s range (fresh s) (fresh_is_sound s) events

  pool_is : (events : List Event) → pool_in s (lent_after events) ≡ run events
  pool_is events =
      let sound = run_sound events in
      ap (pool_in s) (lies events) ∙ pool_of_tables s (run events) sound.shaped sound.log_length sound.history_length

  call_is : (events : List Event) (e : Event) → call s (lent_after events) e ≡ written s (outcome s (run events) e)
  call_is events e = ap (λ (x : LentPool). call s x e) (lies events) ∙ called_sound s range (run events) (run_sound events) e

  answer_is : (events : List Event) (e : Event) → (call s (lent_after events) e).answer ≡ (outcome s (run events) e).answer
  unfolding written
  answer_is events e = ap (λ (y : Called). y.answer) (call_is events e)

  after_is : (events : List Event) (e : Event) → pool_in s (left (call s (lent_after events) e)) ≡ (outcome s (run events) e).pool
  unfolding written
  after_is events e =
      let sound = event_keeps_sound s range (run events) (run_sound events) e in
      ap (λ (y : Called). pool_in s (left y)) (call_is events e)
      ∙ pool_of_tables s (outcome s (run events) e).pool sound.shaped sound.log_length sound.history_length

  -- ---- the statements

  pub calls_are_a_run : (events : List Event)
      → (call_answers s (left (made_fresh s t c)) events ≡ answers s (fresh s) events)
      × (lent_after events ≡ record { tables = tables_of s (after s (fresh s) events); collector = (after s (fresh s) events).collector })
  unfolding run
  calls_are_a_run events =
      (ap (λ (x : LentPool). call_answers s x events) starts ∙ run_answers s range (fresh s) (fresh_is_sound s) events, lies events)

  pub never_one_or_two : (events : List Event) (e : Event) → OfAnEvent (number (call s (lent_after events) e).answer)
  never_one_or_two events e = subst (λ (x : Answer). OfAnEvent (number x)) (sym (answer_is events e)) (fair (run_sound events) e)

  pub reached_is_never_freed : (events : List Event) (e : Event) (a : RecordNumber) → answers_freed a e (call s (lent_after events) e).answer ≡ true
      → (w : ℕ) → Reaches s (pool_in s (lent_after events)) w a → ⊥
  unfolding run
  reached_is_never_freed events e a freed w reached =
      rules-promise.reached_is_never_freed s range events e a (ap (answers_freed a e) (sym (answer_is events e)) ∙ freed) w
      (subst (λ (p : Pool). Reaches s p w a) (pool_is events) reached)

  pub counts_at_a_close : (events : List Event) (e : Event) → Closes s (pool_in s (lent_after events)) e
      → (a : RecordNumber) → 1 ≤ a.0 → a.0 ≤ s.n
      → count_at (pool_in s (left (call s (lent_after events) e))) a
      ≡ tally (seen_after s (pool_in s (lent_after events)) e (last_seen s (fresh s) (λ l. none) events)) (links s) a
  unfolding run
  counts_at_a_close events e closes a some low =
      ap (λ (p : Pool). count_at p a) (after_is events e)
      ∙ rules-promise.counts_at_a_close s range events e (subst (λ (p : Pool). Closes s p e) (pool_is events) closes) a some low
      ∙ ap (λ (p : Pool). tally (seen_after s p e (last_seen s (fresh s) (λ l. none) events)) (links s) a) (sym (pool_is events))

  pub lost_is_freed : (events : List Event) (e : Event) (during : List Event) → Cycle s (pool_in s (lent_after events)) e during
      → (a : RecordNumber) → Lost s (pool_in s (lent_after events)) a → (LoopKeeps s (pool_in s (lent_after events)) a → ⊥)
      → freed_among a (e ∷ during) (call_answers s (lent_after events) (e ∷ during)) ≡ true
  unfolding run
  lost_is_freed events e during cycle a lost unlooped =
      let p = pool_is events in
      ap (freed_among a (e ∷ during)) (ap (λ (x : LentPool). call_answers s x (e ∷ during)) (lies events) ∙ run_answers s range (run events) (run_sound events) (e ∷ during))
      ∙ rules-promise.lost_is_freed s range events e during (subst (λ (q : Pool). Cycle s q e during) p cycle) a (subst (λ (q : Pool). Lost s q a) p lost)
      (λ loop. unlooped (subst (λ (q : Pool). LoopKeeps s q a) (sym p) loop))

-- where the caller's own sizes or lengths are wrong: 1, and nothing changes
pub wrong_shape_refused : (s : Sizes) (t : Tables) (c : Collector) → fits s t ≡ false
    → (made_fresh s t c ≡ refused_on WrongSize t c) × ((e : Event) → called s t c e ≡ refused_on WrongSize t c)
unfolding made_fresh
wrong_shape_refused s t c unfit = (
  ap (λ (b : Bool). cond b (written s (record { answer = Fresh; pool = fresh s })) (refused_on WrongSize t c)) unfit,
  λ e. refused_called s t c e (sym (checked_unfit s t c unfit)),
)
