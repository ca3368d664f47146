-- Many events at once on lent tables: what the call answers and leaves, for every byte string, every table and every step number.
--     rest_at           what stands behind the last event that was done
--     refused_many      a call that is refused changes nothing
--     done              the events, and what stands behind them
--     many_on           the call
-- Assumes nothing.
use Rattle.std.specs.Prelude.{ℕ, ⊤, cond, List, ltb, length, Result, Ok, Err}
use Rattle.rules.specs.declared.Sizes.{Sizes}
use Rattle.rules.specs.declared.Refusal.{Refusal}
use Rattle.rules.specs.declared.Refusal.TheVariants.{WrongSize, NotSound, WrongTag}
use Rattle.rules.specs.declared.Collector.{Collector}
use Rattle.tables.specs.Tables.{Tables}
use Rattle.clauses.specs.IsSound.{is_sound}
use Rattle.fresh.specs.Fits.{fits}
use Rattle.fields.specs.declared.RefusedAt.{RefusedAt}
use Rattle.fields.specs.Field.{refused_at, read_at}
use Rattle.trace.specs.declared.Ran.{Ran}
use Rattle.trace.specs.Stretch.{behind, RanOn, ran_on}

-- no byte is left, or a field that is no event: a refusal as a trace has it, and 7 for one that may stand in a trace and is no event
unfoldable pub rest_at : List ℕ → ℕ → ℕ → Result ⊤ RefusedAt
rest_at bytes place step =
    cond (ltb place (length bytes))
    (elim (read_at bytes place (behind step)) [
      | Err e ↦ Err e
      | Ok x ↦ refused_at WrongTag place
    ])
    (Ok tt)

-- all that the call answers and leaves
pub record ManyOn : Type 0 where
  pub rest : Result ⊤ RefusedAt
  pub ran : Ran
  pub tables : Tables
  pub answers : List ℕ

-- "A refused event has the value 0 and changes nothing."
abbrev pub refused_many : Refusal → Tables → Collector → ℕ → List ℕ → ManyOn
refused_many why t c step room =
    record { rest = refused_at why 0; ran = record { next = 0; step = step; events = 0; collector = c }; tables = t; answers = room }

abbrev pub done : List ℕ → RanOn → ManyOn
done bytes x = record { rest = rest_at bytes x.ran.next x.ran.step; ran = x.ran; tables = x.tables; answers = x.answers }

-- the pool is checked once; then the events that stand one after another are done, each as `event` would do it
unfoldable pub many_on : Sizes → Tables → Collector → List ℕ → ℕ → List ℕ → ManyOn
many_on s t c bytes step room =
    cond (fits s t) (cond (is_sound s t c) (done bytes (ran_on s t c bytes 0 step room)) (refused_many NotSound t c step room)) (refused_many WrongSize t c step room)
