-- `inspect::Notes::enter_logs` meets its contract. The loop's invariant: the logs passed are noted, and what stands past each of them is tested. Assumes nothing.
use Prim.Native.Nat.{ℕ, ◌+◌, ◌*◌, ◌-◌, ◌≤◌}
use mathlib.Core.Path.{◌≡◌, ap, ◌∙◌}
use mathlib.Core.Bool.{true}
use mathlib.Core.List.{List}
use native.Mathlib.Omega.{arith}
use lib.ListN.{length, get_or, take, drop}
use Rattle.rules.specs.declared.Sizes.{Sizes}
use Rattle.rules.specs.Size.{in_range, links}
use Rattle.rules.specs.Sound.{Each}
use Rattle.tables.specs.Lie.{room}
use Rattle.tables.proofs.Logs.{LogTables, length_part, short}
use Rattle.laws.proofs.Number.{bounds}
use Rattle.clauses.specs.IsSound.{every, is_zero}
use Rattle.inspect.proofs.Logs.{logs_none, logs_more, logs_all, logs_most}
use Rattle.inspect.proofs.Notes.enter_logs.Goals as goal

right : {s : Sizes} {logs lengths : List ℕ} {A : Type 0}
    → (in_range s ≡ true) × (length logs ≡ s.w * room s) × (length lengths ≡ s.w + 1) × Each (λ n. n ≤ links s) lengths × A → LogTables s logs lengths
right asked = record { sizes = asked.0; exact = asked.1; counted = asked.2; low = asked.3 }

pub loop-w-init : goal.loop-w-init
loop-w-init c = logs_none c.args.s c.args.logs.now c.args.lengths.now _

pub enter-requires : goal.enter-requires
enter-requires c =
    let logs = right c.requires in
    let w = c.loop-w.w in
    let before = c.requires.4 in
    let place = c.log_place-from.ensures.0 in
    let many = c.from-in-loop-w.ensures ∙ ap (λ (i : ℕ). get_or c.args.lengths.now i 0) c.from.ensures in (
      logs.sizes,
      (
        before.0 + w * 8208,
        logs_most logs _ before.0 w c.loop-w.invariant.entered before.1,
        omega (arith, length_part logs c.loop-w-test.true place many, short logs c.loop-w-test.true place many, (bounds c.args.s logs.sizes).w_most, before.2),
      ),
    )

pub loop-w-preserved : goal.loop-w-preserved
loop-w-preserved c =
    let logs = right c.requires in
    let here = c.loop-w-test.true in
    let place = c.log_place-from.ensures.0 in
    let n = c.from-in-loop-w.result in
    let many = c.from-in-loop-w.ensures ∙ ap (λ (i : ℕ). get_or c.args.lengths.now i 0) c.from.ensures in
    let to = c.log_place-from.result + n * 2 in
    let whole : c.from-room.result * 2 ≡ room c.args.s = ap (λ (k : ℕ). k * 2) (c.from-room.ensures ∙ c.link_count.ensures.0) in
    logs_more logs here place many _ c.loop-w.invariant (c.enter.ensures n (length_part logs here place many))
    (c.all_zero-padded.ensures ∙ ap (λ (k : ℕ). every is_zero (take (c.log_place-from.result + k - to) (drop to c.args.logs.now))) whole)

pub returns-clause-entered : goal.returns-clause-entered
returns-clause-entered c = (logs_all (right c.requires) _ (omega (arith, c.loop-w.auto.w-end, c.loop-w-test.false)) c.loop-w.invariant).0

pub returns-clause-padded : goal.returns-clause-padded
returns-clause-padded c = (logs_all (right c.requires) _ (omega (arith, c.loop-w.auto.w-end, c.loop-w-test.false)) c.loop-w.invariant).1
