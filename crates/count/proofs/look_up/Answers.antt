-- `count::look_up` meets its contract. The loop's invariant: no log that is passed has an entry for the link. So a log that says something of the link has the one
-- entry, and the loop does not end by its test. Assumes nothing.
use Prim.Native.Nat.{ℕ, suc, ◌+◌, ◌-◌, ◌*◌, ◌≤◌, ◌<◌}
use mathlib.Core.Path.{◌≡◌, ap, ◌∙◌}
use mathlib.Core.List.{List, [], flatten}
use native.Mathlib.Omega.{arith}
use lib.ListN.{length, get_or, take, drop}
use Rattle.rules.specs.declared.RecordNumber.{RecordNumber}
use Rattle.rules.specs.Pool.{Entry}
use Rattle.rules.specs.View.{times, old_in}
use Rattle.tables.specs.Lie.{entries, logs_in}
use Rattle.tables.proofs.Logs.{length_logs, part_inside, length_part, log_part}
use Rattle.std.proofs.Common.{unwrap_or}
use Rattle.count.proofs.Search.{look_up_one, look_up_found, look_up_more, look_up_none}
use Rattle.count.proofs.Logs.{log_tables}
use Rattle.count.proofs.look_up.Goals as goal
use Rattle.count.proofs.look_up.Goals.{After-find, After-from-in-loop-w}

pub loop-w-init : goal.loop-w-init
loop-w-init c =
    look_up_none c.args.l (logs_in c.args.s c.args.logs.now c.args.lengths.now) c.args.s.w
    (omega (arith, length_logs c.args.s c.args.logs.now c.args.lengths.now c.requires.lengths))

-- where a log's length is read
abbrev worker : After-from-in-loop-w → ℕ
worker c = c.loop-w.w - 1

abbrev logs : After-from-in-loop-w → List (List Entry)
logs c = logs_in c.args.s c.args.logs.now c.args.lengths.now

-- the worker whose log is looked through is there
below : (c : After-from-in-loop-w) → worker c < c.args.s.w
below c = omega arith

here : (c : After-from-in-loop-w) → worker c < length (logs c)
here c = omega (arith, length_logs c.args.s c.args.logs.now c.args.lengths.now c.requires.lengths, below c)

many : (c : After-from-in-loop-w) → c.from-in-loop-w.result ≡ get_or c.args.lengths.now (worker c) 0
many c = c.from-in-loop-w.ensures ∙ ap (λ (i : ℕ). get_or c.args.lengths.now i 0) c.from.ensures

inside : (c : After-from-in-loop-w) → c.log_place-from.result + c.from-in-loop-w.result * 2 ≤ length c.args.logs.now
inside c = part_inside (log_tables c.requires) (below c) c.log_place-from.ensures.0 (many c)

-- the log's part of the table
abbrev part : After-from-in-loop-w → List ℕ
part c =
    let from = c.log_place-from.result in
    take (from + c.from-in-loop-w.result * 2 - from) (drop from c.args.logs.now)

long : (c : After-from-in-loop-w) → length (part c) ≡ c.from-in-loop-w.result * 2
long c = length_part (log_tables c.requires) (below c) c.log_place-from.ensures.0 (many c)

lies : (c : After-from-in-loop-w) → get_or (logs c) (worker c) [] ≡ entries c.from-in-loop-w.result (part c)
lies c = log_part (log_tables c.requires) (below c) c.log_place-from.ensures.0 (many c)

pub find-requires : goal.find-requires
find-requires c n whole =
    let at = (goal.at.find-requires c).After-from-in-loop-w in
    let l = c.args.l in
    let same : n ≡ c.from-in-loop-w.result = omega (arith, long at, whole) in
    omega (
      arith,
      look_up_one l (logs at) (worker at) (here at) c.requires.one,
      ap (times l) (lies at),
      ap (λ (m : ℕ). times l (entries m (part at))) same,
    )

-- what a log says of the link
says : (c : After-find) (b : RecordNumber) → let at = (goal.at.After-find c).After-from-in-loop-w in
    old_in c.args.l (get_or (logs at) (worker at) []) b ≡ unwrap_or c.find.result b
says c b =
    let at = (goal.at.After-find c).After-from-in-loop-w in
    ap (λ es. old_in c.args.l es b) (lies at) ∙ c.find.ensures c.from-in-loop-w.result (long at) b

pub returns-in-Some : goal.returns-in-Some
returns-in-Some c =
    let at = (goal.at.returns-in-Some c).After-from-in-loop-w in
    look_up_found c.args.l (logs at) (worker at) (here at) c.requires.one c.in-Some.a
    (λ b. says (goal.at.returns-in-Some c).After-find b ∙ ap (λ found. unwrap_or found b) c.in-Some.is)

pub loop-w-preserved : goal.loop-w-preserved
loop-w-preserved c =
    let at = (goal.at.loop-w-preserved c).After-from-in-loop-w in
    let l = c.args.l in
    let last : suc (worker at) ≡ c.loop-w.w = omega (arith, c.loop-w-test.true) in
    look_up_more l (logs at) (worker at) (here at) (ap (λ (w : ℕ). times l (flatten (drop w (logs at)))) last ∙ c.loop-w.invariant)
    (λ b. says (goal.at.loop-w-preserved c).After-find b ∙ ap (λ found. unwrap_or found b) c.in_default.is)
