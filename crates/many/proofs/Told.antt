-- What the teller of answers is told of the events is what the call puts into the caller's slice.
--     answers_on     the slice, behind the events
--     ran_with       the rest of what doing them leaves is the same, whatever the room
-- Assumes nothing.
use Prim.Native.Nat.{ℕ}
use mathlib.Core.Path.{◌≡◌, ap, ◌∙◌}
use mathlib.Core.List.{List, []}
use Rattle.rules.specs.declared.Sizes.{Sizes}
use Rattle.rules.specs.declared.Collector.{Collector}
use Rattle.rules.specs.Outcome.{answers}
use Rattle.tables.specs.Tables.{Tables}
use Rattle.tables.specs.Lie.{pool_of}
use Rattle.trace.specs.declared.teller.Answers.{Answers}
use Rattle.trace.specs.Stretch.{stretch, lines_behind, put_from, RanOn, ran_on}
use Rattle.trace.specs.Told.{told_on, answer_put}
use Rattle.trace.proofs.AnswersTold.{answers_by}

module _ (s : Sizes) (t : Tables) (c : Collector) (bytes : List ℕ) (place step : ℕ) where
  pub answers_on : (x : Answers) → x.events ≡ 0
      → (told_on answer_put s t c bytes place step x).answers
      ≡ record { ref_ptr = x.answers.ref_ptr; ghost_name = x.answers.ghost_name; now = (ran_on s t c bytes place step x.answers.now).answers }
  unfolding ran_on put_from
  answers_on x none =
      let events = (stretch bytes place step).events in
      let lines = lines_behind step (answers s (pool_of s t c) events) in
      ap (λ (y : Answers). y.answers) (answers_by s (pool_of s t c) step events x)
      ∙ (λ j. record { ref_ptr = x.answers.ref_ptr; ghost_name = x.answers.ghost_name; now = put_from (none j) x.answers.now lines })

  pub ran_with : (room : List ℕ) {answers : List ℕ} {x : RanOn} → ran_on s t c bytes place step [] ≡ x → (ran_on s t c bytes place step room).answers ≡ answers
      → ran_on s t c bytes place step room ≡ record { ran = x.ran; tables = x.tables; answers = answers }
  unfolding ran_on
  ran_with room ran same = λ j. record { ran = (ran j).ran; tables = (ran j).tables; answers = same j }
