-- Two results of the call on a whole trace that both satisfy its contract are equal: ending, number of events, collector's record, every table entry and every
-- number in the caller's slice.
--     trace_one_result     of `replay_trace`
-- Assumes nothing.
use Prim.Native.Nat.{ℕ}
use mathlib.Core.Path.{◌≡◌, sym, ap, ◌∙◌}
use mathlib.Core.List.{List}
use Rattle.rules.specs.declared.Collector.{Collector}
use Rattle.tables.specs.Tables.{Tables}
use Rattle.trace.specs.declared.Replay.{Replay}
use Rattle.trace.specs.Traced.{Traced, traced}

-- what the call answers, with the tables and the slice that it leaves
abbrev leaving : Replay → Tables → List ℕ → Traced
leaving x t answers = record { replay = x; tables = t; answers = answers }

pub trace_one_result : (before : Tables) (c : Collector) (bytes room : List ℕ) (x y : Replay) (t u : Tables) (first second : List ℕ)
    → traced before c bytes room ≡ leaving x t first → traced before c bytes room ≡ leaving y u second → (x ≡ y) × (t ≡ u) × (first ≡ second)
trace_one_result before c bytes room x y t u first second one other =
    let same : leaving x t first ≡ leaving y u second = sym one ∙ other in
    (ap (λ (r : Traced). r.replay) same, ap (λ (r : Traced). r.tables) same, ap (λ (r : Traced). r.answers) same)
