-- What a call answers and leaves, in numbers.
--     in_numbers     from what the call gives and the number and value of its answer
--     fresh-value    the value of `fresh` is 0
--     many_in_numbers, trace_in_numbers, report_in_numbers     the same of many events at once, of a whole trace, and of its report
-- Assumes nothing.
use Prim.Native.Nat.{ℕ}
use mathlib.Core.Path.{◌≡◌, refl, sym, ap, ◌∙◌}
use mathlib.Core.Bool.{Bool, true, false, cond}
use mathlib.Core.List.{List}
use lib.IntN.{ℤ}
use Rattle.rules.specs.declared.Sizes.{Sizes}
use Rattle.rules.specs.declared.Collector.{Collector}
use Rattle.rules.specs.declared.Answer.TheVariants.{Fresh}
use Rattle.rules.specs.declared.Refusal.TheVariants.{WrongSize}
use Rattle.rules.specs.declared.Answered.{Answered}
use Rattle.rules.specs.Pool.{fresh}
use Rattle.rules.specs.Reply.{number, value}
use Rattle.tables.specs.Tables.{Tables}
use Rattle.tables.specs.Event.{Called, written}
use Rattle.fresh.specs.Fits.{fits, refused_on}
use Rattle.fresh.specs.Fresh.{made_fresh}
use Rattle.trace.specs.declared.Replay.{Replay}
use Rattle.trace.specs.Traced.{Traced}
use Rattle.tally.specs.declared.Report.{Report}
use Rattle.tally.specs.Traced.{ReportOn}
use Rattle.many.specs.declared.Many.{Many}
use Rattle.many.specs.Many.{ManyOn}
use Rattle.yuyarisun.specs.declared.LentCollector.{LentCollector}
use Rattle.yuyarisun.specs.Exported.{numbers}
use Rattle.yuyarisun.specs.Lent.{collector_in}
use Rattle.yuyarisun.specs.Several.{rest_number, rest_place, many_numbers, ending_number, ending_place, ending_free, trace_numbers, report_numbers}

pub in_numbers : (call : Collector → Called) {c d : Collector} (x : Answered) (t : Tables) (n v : ℕ) (after : LentCollector)
    → c ≡ d → call c ≡ record { answer = x.answer; collector = x.collector; tables = t } → n ≡ number x.answer → v ≡ value x.answer → collector_in after ≡ x.collector
    → numbers (call d)
    ≡ record { number = n; value = v; phase = after.phase.now; position = after.position.now; closed = after.closed.now; tables = t }
unfolding numbers
in_numbers call x t n v after same gives numbered valued set =
    ap (λ (c : Collector). numbers (call c)) (sym same)
    ∙ ap numbers gives
    ∙ (λ j.
    record {
      number = sym numbered j;
      value = sym valued j;
      phase = (sym set j).phase;
      position = (sym set j).position;
      closed = (sym set j).closed;
      tables = t;
    })

pub fresh-value : (s : Sizes) (t : Tables) (c : Collector) → value (made_fresh s t c).answer ≡ 0
unfolding made_fresh value written
fresh-value s t c = none (fits s t)
  where
    none : (b : Bool) → value (cond b (written s (record { answer = Fresh; pool = fresh s })) (refused_on WrongSize t c)).answer ≡ 0
    none true = refl
    none false = refl

module _ {c d : Collector} (after : LentCollector) (same : c ≡ d) where
  pub many_in_numbers : (call : Collector → ManyOn) (x : Many) (t : Tables) (answers : List ℕ) (n place : ℕ)
      → call c ≡ record { rest = x.rest; ran = x.ran; tables = t; answers = answers } → n ≡ rest_number x.rest → place ≡ rest_place x.rest x.ran.next
      → collector_in after ≡ x.ran.collector
      → many_numbers (call d)
      ≡ record {
        number = n;
        place = place;
        step = x.ran.step;
        events = x.ran.events;
        phase = after.phase.now;
        position = after.position.now;
        closed = after.closed.now;
        tables = t;
        answers = answers;
      }
  unfolding many_numbers
  many_in_numbers call x t answers n place gives numbered placed set =
      ap (λ (c : Collector). many_numbers (call c)) (sym same)
      ∙ ap many_numbers gives
      ∙ (λ j.
      record {
        number = sym numbered j;
        place = sym placed j;
        step = x.ran.step;
        events = x.ran.events;
        phase = (sym set j).phase;
        position = (sym set j).position;
        closed = (sym set j).closed;
        tables = t;
        answers = answers;
      })

  pub trace_in_numbers : (call : Collector → Traced) (x : Replay) (t : Tables) (answers : List ℕ) (n free place : ℕ)
      → call c ≡ record { replay = x; tables = t; answers = answers } → n ≡ ending_number x.ending → free ≡ ending_free x.ending → place ≡ ending_place x.ending
      → collector_in after ≡ x.collector
      → trace_numbers (call d)
      ≡ record {
        number = n;
        free = free;
        place = place;
        events = x.events;
        phase = after.phase.now;
        position = after.position.now;
        closed = after.closed.now;
        tables = t;
        answers = answers;
      }
  unfolding trace_numbers
  trace_in_numbers call x t answers n free place gives numbered counted placed set =
      ap (λ (c : Collector). trace_numbers (call c)) (sym same)
      ∙ ap trace_numbers gives
      ∙ (λ j.
      record {
        number = sym numbered j;
        free = sym counted j;
        place = sym placed j;
        events = x.events;
        phase = (sym set j).phase;
        position = (sym set j).position;
        closed = (sym set j).closed;
        tables = t;
        answers = answers;
      })

  pub report_in_numbers : (call : Collector → ReportOn) (x : Report) (t : Tables) (numbers : List ℤ) (n free place : ℕ)
      → call c ≡ record { report = x; tables = t; numbers = numbers }
      → n ≡ ending_number x.replay.ending → free ≡ ending_free x.replay.ending → place ≡ ending_place x.replay.ending
      → collector_in after ≡ x.replay.collector
      → report_numbers (call d)
      ≡ record {
        number = n;
        free = free;
        place = place;
        events = x.replay.events;
        cycles = x.cycles;
        phase = after.phase.now;
        position = after.position.now;
        closed = after.closed.now;
        tables = t;
        numbers = numbers;
      }
  unfolding report_numbers
  report_in_numbers call x t numbers n free place gives numbered counted placed set =
      ap (λ (c : Collector). report_numbers (call c)) (sym same)
      ∙ ap report_numbers gives
      ∙ (λ j.
      record {
        number = sym numbered j;
        free = sym counted j;
        place = sym placed j;
        events = x.replay.events;
        cycles = x.cycles;
        phase = (sym set j).phase;
        position = (sym set j).position;
        closed = (sym set j).closed;
        tables = t;
        numbers = numbers;
      })
