-- An event on known tables, from what it does to the pool.
--     refused_on_lem     an event that is refused changes nothing
--     done_on_lem        an event that is done, by its outcome and the tables after it
--     collect_is         a collect event is the step of its phase
--     moved_on_lem       a step that moves on changes no table by that
-- Assumes nothing.
use Prim.Native.Nat.{ℕ}
use mathlib.Core.Path.{◌≡◌, ap, ◌∙◌}
use lib.ListN.{get_or}
use Rattle.rules.specs.declared.Sizes.{Sizes}
use Rattle.rules.specs.declared.Event.{Event}
use Rattle.rules.specs.declared.Event.TheVariants.{Collect}
use Rattle.rules.specs.declared.Answer.TheVariants.{Stepped, Refused}
use Rattle.rules.specs.declared.Refusal.{Refusal}
use Rattle.rules.specs.declared.Collector.{Collector}
use Rattle.rules.specs.Pool.{Pool}
use Rattle.rules.specs.Reply.{Outcome}
use Rattle.rules.specs.Collect.{advanced, onward, stepped, phases, collects}
use Rattle.rules.specs.Outcome.{refusals, refused, decide, does, outcome}
use Rattle.tables.specs.Tables.{Tables}
use Rattle.tables.specs.Lie.{pool_of, tables_of}
use Rattle.tables.specs.Known.{Known}
use Rattle.tables.specs.Event.{written, event_on}
use Rattle.tables.proofs.RoundTrip.{known_back}

module _ {s : Sizes} {t : Tables} {c : Collector} (known : Known s t c) (e : Event) where
  -- "A refused event .. changes nothing."
  pub refused_on_lem : (why : Refusal) → outcome s (pool_of s t c) e ≡ refused why (pool_of s t c) → event_on s t c e ≡ record { answer = Refused why; collector = c; tables = t }
  unfolding event_on written pool_of
  refused_on_lem why h = ap (written s) h ∙ (λ j. record { answer = Refused why; collector = c; tables = known_back known j })

  pub done_on_lem : (o : Outcome) (after : Tables) → outcome s (pool_of s t c) e ≡ o → tables_of s o.pool ≡ after
      → event_on s t c e ≡ record { answer = o.answer; collector = o.pool.collector; tables = after }
  unfolding event_on written
  done_on_lem o after h k = ap (written s) h ∙ (λ j. record { answer = o.answer; collector = o.pool.collector; tables = k j })

module _ (s : Sizes) (t : Tables) (c : Collector) where
  pub collect_is : (k : ℕ) → c.phase ≡ k → event_on s t c Collect ≡ written s (get_or phases k (λ s p. stepped p) s (pool_of s t c))
  unfolding event_on outcome refusals decide does collects pool_of
  collect_is k e = ap (λ (n : ℕ). written s (get_or phases n (λ s p. stepped p) s (pool_of s t c))) e

pub moved_on_lem : (s : Sizes) (n : ℕ) (q : Pool) (after : Tables) → tables_of s q ≡ after
    → written s (stepped (onward n q)) ≡ record { answer = Stepped; collector = advanced n q.history q.collector; tables = after }
unfolding written onward tables_of
moved_on_lem s n q after h = λ j. record { answer = Stepped; collector = advanced n q.history q.collector; tables = h j }
