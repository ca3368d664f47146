-- The call on the tables of a sound pool is the rule's event, and calls from a fresh pool are a run of the rules.
--     fits_known          the tables of a sound pool fit
--     called_sound        the call on them is the event of the rules, written out
--     run_lies            after any events from a fresh pool its tables and the collector's record stand for the run's pool
--     run_answers         and the answers are the run's
-- Assumes nothing.
use mathlib.Core.Path.{◌≡◌, refl, ap, ◌∙◌}
use mathlib.Core.Bool.{Bool, true, cond}
use mathlib.Core.List.{List, [], ◌∷◌}
use Rattle.rules.specs.declared.Sizes.{Sizes}
use Rattle.rules.specs.declared.Event.{Event}
use Rattle.rules.specs.declared.Answer.{Answer}
use Rattle.rules.specs.declared.Refusal.TheVariants.{WrongSize, NotSound}
use Rattle.rules.specs.Size.{in_range}
use Rattle.rules.specs.Pool.{Pool}
use Rattle.rules.specs.Outcome.{outcome, answers, after}
use Rattle.rules.specs.Sound.{Sound}
use Rattle.laws.proofs.Tests.{and_both}
use Rattle.soundness.proofs.Kept.{event_keeps_sound}
use Rattle.tables.specs.Lie.{tables_of}
use Rattle.tables.specs.Event.{Called, written, event_on, LentPool}
use Rattle.tables.proofs.RoundTrip.{pool_of_tables, sound_known}
use Rattle.clauses.specs.IsSound.{is_sound}
use Rattle.clauses.proofs.Exactly.{is_sound_exactly}
use Rattle.fresh.specs.Fits.{is_exact, fits, refused_on}
use Rattle.pool.specs.Calls.{called}
use Rattle.pool.specs.Run.{left, call_answers, after_calls}
use Rattle.fresh.proofs.Exact.{exact_true}

-- a pool's tables and its collector's record
abbrev pub laid_out : Sizes → Pool → LentPool
laid_out s p = record { tables = tables_of s p; collector = p.collector }

module _ (s : Sizes) (range : in_range s ≡ true) where
  pub fits_known : (p : Pool) → Sound s p → fits s (tables_of s p) ≡ true
  fits_known p sound = and_both (in_range s) (is_exact s (tables_of s p)) range (exact_true s (tables_of s p) (sound_known s range p sound).exact)

  sound_true : (p : Pool) → Sound s p → is_sound s (tables_of s p) p.collector ≡ true
  sound_true p sound = let known = sound_known s range p sound in (is_sound_exactly s (tables_of s p) p.collector known.exact).1 known.tables

  pub called_sound : (p : Pool) → Sound s p → (e : Event) → called s (tables_of s p) p.collector e ≡ written s (outcome s p e)
  unfolding called event_on
  called_sound p sound e =
      let t = tables_of s p in
      let c = p.collector in
      ap (λ (b : Bool). cond b (cond (is_sound s t c) (event_on s t c e) (refused_on NotSound t c)) (refused_on WrongSize t c)) (fits_known p sound)
      ∙ ap (λ (b : Bool). cond b (event_on s t c e) (refused_on NotSound t c)) (sound_true p sound)
      ∙ ap (λ (q : Pool). written s (outcome s q e)) (pool_of_tables s p sound.shaped sound.log_length sound.history_length)

  left_sound : (p : Pool) → Sound s p → (e : Event) → left (called s (tables_of s p) p.collector e) ≡ laid_out s (outcome s p e).pool
  unfolding written
  left_sound p sound e = ap left (called_sound p sound e)

  pub run_lies : (p : Pool) → Sound s p → (events : List Event) → after_calls s (laid_out s p) events ≡ laid_out s (after s p events)
  unfolding after_calls after
  run_lies p sound [] = refl
  run_lies p sound (e ∷ events) =
      ap (λ (x : LentPool). after_calls s x events) (left_sound p sound e) ∙ run_lies (outcome s p e).pool (event_keeps_sound s range p sound e) events

  pub run_answers : (p : Pool) → Sound s p → (events : List Event) → call_answers s (laid_out s p) events ≡ answers s p events
  unfolding call_answers answers written
  run_answers p sound [] = refl
  run_answers p sound (e ∷ events) =
      ap (λ (y : Called). y.answer ∷ call_answers s (left y) events) (called_sound p sound e)
      ∙ ap (λ (more : List Answer). (outcome s p e).answer ∷ more) (run_answers (outcome s p e).pool (event_keeps_sound s range p sound e) events)
