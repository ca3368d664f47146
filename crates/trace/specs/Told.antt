-- What somebody has been told of the events of a trace.
--     Telling            what telling of an event leaves of what is kept
--     told_by            of the events of a run, one after another
--     told_on            of those of a stretch, on lent tables
--     told_traced        of those of a whole trace; told_sized: of those behind a sizes field
--     answer_put         what `Answers` keeps of an event
-- Assumes nothing.
use Rattle.std.specs.Prelude.{ℕ, ◌+◌, cond, List, [], ◌∷◌, length, Ok, Err}
use Rattle.rules.specs.declared.Sizes.{Sizes}
use Rattle.rules.specs.declared.Event.{Event}
use Rattle.rules.specs.declared.Answer.{Answer}
use Rattle.rules.specs.declared.Collector.{Collector}
use Rattle.rules.specs.Pool.{Pool, fresh}
use Rattle.rules.specs.Reply.{Outcome}
use Rattle.rules.specs.Outcome.{outcome}
use Rattle.tables.specs.Tables.{Tables}
use Rattle.tables.specs.Lie.{pool_of}
use Rattle.fresh.specs.Fits.{is_exact}
use Rattle.fields.specs.declared.Field.TheVariants as field
use Rattle.fields.specs.Field.{read_at}
use Rattle.trace.specs.Replay.{at_start}
use Rattle.trace.specs.declared.teller.Answers.{Answers}
use Rattle.trace.specs.Stretch.{put_answer, stretch}

-- by the counts behind the event, the collector's phases and the history's lengths before and behind it, and its answer
abbrev pub Telling : Type 0 → Type 0
Telling X = X → (counts : List ℕ) → (before after had has : ℕ) → Answer → X

-- of an event on a pool
abbrev pub told_of : {X : Type 0} → Telling X → Sizes → Pool → X → Event → X
told_of tell s p x e =
    let o : Outcome = outcome s p e in
    tell x o.pool.records.count p.collector.phase o.pool.collector.phase (length p.history) (length o.pool.history) o.answer

unfoldable pub told_by : {X : Type 0} → Telling X → Sizes → Pool → X → List Event → X
told_by tell s p x [] = x
told_by tell s p x (e ∷ events) = told_by tell s (outcome s p e).pool (told_of tell s p x e) events

abbrev pub told_on : {X : Type 0} → Telling X → Sizes → Tables → Collector → List ℕ → ℕ → ℕ → X → X
told_on tell s t c bytes place step x = told_by tell s (pool_of s t c) x (stretch bytes place step).events

-- the sizes are taken if the lent tables have their lengths
unfoldable pub told_sized : {X : Type 0} → Telling X → Sizes → Tables → List ℕ → ℕ → X → X
told_sized tell s t bytes place x = cond (is_exact s t) (told_by tell s (fresh s) x (stretch bytes place 0).events) x

unfoldable pub told_traced : {X : Type 0} → Telling X → Tables → List ℕ → X → X
told_traced tell t bytes x =
    elim (read_at bytes 0 at_start) [
      | Err e ↦ x
      | Ok first ↦ elim first.field [
        | field.Sizes s ↦ told_sized tell s t bytes first.next x
        | field.Event n e ↦ x
        | field.End ↦ x
        | field.Nothing ↦ x
      ]
    ]

-- an answer is put behind those of so many events
abbrev pub answer_put : Telling Answers
answer_put x counts before after had has answer =
    record {
      answers = record { ref_ptr = x.answers.ref_ptr; ghost_name = x.answers.ghost_name; now = put_answer x.events x.answers.now answer };
      events = x.events + 1;
    }
