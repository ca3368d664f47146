-- What the exported calls for many events and for a whole trace answer and leave, in numbers; and that for a report.
--     rest_number, rest_place            what stopped many events, and where
--     ManyNumbers, many_numbers         many events at once
--     ending_number, ending_place, ending_free     how a trace ended
--     TraceNumbers, trace_numbers       a whole trace
--     ReportNumbers, report_numbers     a whole trace, with its closed cycles
-- Assumes nothing.
use Rattle.std.specs.Prelude.{ℕ, ⊤, List, ℤ, Result, Ok, Err}
use Rattle.rules.specs.Reply.{refusal_number}
use Rattle.tables.specs.Tables.{Tables}
use Rattle.fields.specs.declared.RefusedAt.{RefusedAt}
use Rattle.trace.specs.Replay.{Ending}
use Rattle.trace.specs.Traced.{Traced}
use Rattle.tally.specs.Traced.{ReportOn}
use Rattle.many.specs.Many.{ManyOn}

abbrev pub rest_number : Result ⊤ RefusedAt → ℕ
rest_number (Ok done) = 0
rest_number (Err e) = refusal_number e.why

abbrev pub rest_place : Result ⊤ RefusedAt → ℕ → ℕ
rest_place (Ok done) next = next
rest_place (Err e) next = e.place

pub record ManyNumbers : Type 0 where
  pub number : ℕ
  pub place : ℕ
  pub step : ℕ
  pub events : ℕ
  pub phase : ℕ
  pub position : ℕ
  pub closed : ℕ
  pub tables : Tables
  pub answers : List ℕ

unfoldable pub many_numbers : ManyOn → ManyNumbers
many_numbers x =
    record {
      number = rest_number x.rest;
      place = rest_place x.rest x.ran.next;
      step = x.ran.step;
      events = x.ran.events;
      phase = x.ran.collector.phase;
      position = x.ran.collector.position;
      closed = x.ran.collector.closed;
      tables = x.tables;
      answers = x.answers;
    }

abbrev pub ending_number : Ending → ℕ
ending_number (Ok w) = 0
ending_number (Err e) = refusal_number e.why

abbrev pub ending_place : Ending → ℕ
ending_place (Ok w) = 0
ending_place (Err e) = e.place

abbrev pub ending_free : Ending → ℕ
ending_free (Ok w) = w.free
ending_free (Err e) = 0

pub record TraceNumbers : Type 0 where
  pub number : ℕ
  pub free : ℕ
  pub place : ℕ
  pub events : ℕ
  pub phase : ℕ
  pub position : ℕ
  pub closed : ℕ
  pub tables : Tables
  pub answers : List ℕ

unfoldable pub trace_numbers : Traced → TraceNumbers
trace_numbers x =
    record {
      number = ending_number x.replay.ending;
      free = ending_free x.replay.ending;
      place = ending_place x.replay.ending;
      events = x.replay.events;
      phase = x.replay.collector.phase;
      position = x.replay.collector.position;
      closed = x.replay.collector.closed;
      tables = x.tables;
      answers = x.answers;
    }

pub record ReportNumbers : Type 0 where
  pub number : ℕ
  pub free : ℕ
  pub place : ℕ
  pub events : ℕ
  pub cycles : ℕ
  pub phase : ℕ
  pub position : ℕ
  pub closed : ℕ
  pub tables : Tables
  pub numbers : List ℤ

unfoldable pub report_numbers : ReportOn → ReportNumbers
report_numbers x =
    let replay = x.report.replay in
    record {
      number = ending_number replay.ending;
      free = ending_free replay.ending;
      place = ending_place replay.ending;
      events = replay.events;
      cycles = x.report.cycles;
      phase = replay.collector.phase;
      position = replay.collector.position;
      closed = replay.collector.closed;
      tables = x.tables;
      numbers = x.numbers;
    }
