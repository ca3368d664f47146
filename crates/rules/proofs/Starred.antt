-- Every row of the table of starred runs holds: one test, which antt computes over the whole table, and the law that turns it into the claim for
-- each row. Assumes nothing.
use mathlib.Core.Bool.{Bool, true, ◌&&◌}
use mathlib.Core.List.{List, [], ◌∷◌, flatten, zip_with}
use lib.Dec.{T}
use lib.Ieee.Fits.{and_l, and_r}
use Rattle.rules.specs.Size.{in_range, links, link_number, board_number}
use Rattle.rules.specs.Pool.{fresh}
use Rattle.rules.specs.View.{old_in, look_up, view_value}
use Rattle.rules.specs.Reply.{refusal_number, number, value}
use Rattle.rules.specs.Worker.{first_free, first_above, lowest, chosen, makes, moves, drops, register_takes, loads, looks, added, logged, snooped, link_takes, stores, posts}
use Rattle.rules.specs.Collect.{phase_after, onward, opens, snoops, made_by, takes, clears, held_by, scans, falls, rises, counted, counts}
use Rattle.rules.specs.Collect.{unchanged_from, unchanged, holds_unchanged, child_from, has_child, passes, first_passing, reclaimed, emptied, emptied_from, becomes_free, frees, empties, closes, frees_or_empties, reclaims_or_closes, reclaims, phases, collects}
use Rattle.rules.specs.Outcome.{none_free, refusals, decide, does, outcome, start, answers, after, free_marks, free_records}
use Rattle.rules.specs.Sound.{Each}
use Rattle.rules.specs.Starred.{Row, done_from, runs, same_pairs, sees, sees_all, another, holds}

-- the test of a row, with every definition open that a run computes through
unfoldable pub computes : Row → Bool
unfolding in_range links link_number board_number fresh flatten zip_with old_in look_up view_value refusal_number number value first_free first_above lowest chosen makes moves drops register_takes loads looks added logged snooped link_takes stores posts phase_after onward opens snoops made_by takes clears held_by scans falls rises counted counts unchanged_from unchanged holds_unchanged child_from has_child passes first_passing reclaimed emptied emptied_from becomes_free frees empties closes frees_or_empties reclaims_or_closes reclaims phases collects none_free refusals decide does outcome start answers after free_marks free_records same_pairs sees sees_all another holds
computes r = holds r

abbrev every : List Row → Bool
every [] = true
every (r ∷ rows) = computes r && every rows

-- the test over the whole table
computed : T (every runs)
unfolding computes done_from runs
computed = tt

each : (rows : List Row) → T (every rows) → Each (λ r. T (computes r)) rows
each [] t = tt
each (r ∷ rows) t = (and_l (computes r) (every rows) t, each rows (and_r (computes r) (every rows) t))

-- every row of the table holds
pub every_run_holds : Each (λ r. T (holds r)) runs
unfolding computes
every_run_holds = each runs computed
