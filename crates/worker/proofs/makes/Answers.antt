-- `worker::makes` meets its contract: it is `no_such_register`, `make_none_free` or `made`. Assumes nothing.
use Prim.Native.Nat.{ℕ, ◌+◌, ◌-◌, ◌*◌, ◌≤◌, ◌<◌}
use mathlib.Core.Path.{◌≡◌, refl, sym, ap, ◌∙◌}
use mathlib.Core.Bool.{true, ◌&&◌}
use native.Mathlib.Omega.{arith}
use lib.ListN.{set}
use Rattle.rules.specs.declared.RecordNumber.{RecordNumber}
use Rattle.rules.specs.declared.Event.TheVariants.{Make}
use Rattle.rules.specs.declared.Answer.TheVariants.{Made}
use Rattle.rules.specs.declared.Collector.{Collector}
use Rattle.rules.specs.Worker.{chosen}
use Rattle.rules.specs.Outcome.{has_worker, has_register, refusals}
use Rattle.tables.specs.Tables.{Tables}
use Rattle.tables.specs.Bits.{marked}
use Rattle.tables.specs.Lie.{pool_of}
use Rattle.tables.specs.Known.{Known}
use Rattle.tables.proofs.There.{some-there, none-there}
use Rattle.laws.proofs.Number.{bounds}
use Rattle.worker.specs.Lent.{makes_on}
use Rattle.worker.proofs.Refused.{both_true, no_such_register, make_none_free}
use Rattle.worker.proofs.Events.{marks_stand, last_stands, last_low, chosen_inside, made}
use Rattle.worker.proofs.makes.Goals as goal
use Rattle.worker.proofs.makes.Goals.{After-record_place-place, In-Some, In_default}

pub returns-in-Err : goal.returns-in-Err
unfolding refusals
returns-in-Err c t k known = no_such_register known (Make c.args.w c.args.r) c.has_worker.ensures c.has_register.ensures refl c.in-Err.ensures

-- worker and register are there
there : (c : In_default) → (has_worker c.args.s c.args.w && has_register c.args.s c.args.r) ≡ true
there c = both_true c.has_worker.ensures c.has_register.ensures c.in_default.ensures

pub chosen-requires : goal.chosen-requires
chosen-requires c =
    let known = c.requires.2 in
    ((bounds c.args.s known.sizes).n_most, known.exact.used, last_low known c.last_place-last.result c.last_place-last.ensures)

pub returns-in_default-chosen : goal.returns-in_default-chosen
returns-in_default-chosen c t k known =
    make_none_free known c.args.w c.args.r (there (goal.at.returns-in_default-chosen c).In_default)
    (none-there _ (c.in_default-chosen.ensures _ (marks_stand known) (last_stands known c.last_place-last.result c.last_place-last.ensures)))

-- what the search found, in every pool in whose tables those at hand lie
picked : (c : In-Some) (t : Tables) (k : Collector) → let here : Tables = makes_on c.args.used.now c.args.makers.now c.args.registers.now t in
    Known c.args.s here k → (c.in-Some.a ≡ chosen (pool_of c.args.s here k)) × (1 ≤ c.in-Some.a.0)
picked c t k known = some-there c.in-Some.a _ (c.in-Some.ensures _ (marks_stand known) (last_stands known c.last_place-last.result c.last_place-last.ensures))

pub record_place-place-requires : goal.record_place-place-requires
record_place-place-requires c = (picked c c.requires.0 c.requires.1 c.requires.2).1

-- the record's place is one of the tables'
inside : (c : After-record_place-place) → c.record_place-place.result < c.args.s.n
inside c =
    let here = picked (goal.at.After-record_place-place c).In-Some c.requires.0 c.requires.1 c.requires.2 in
    omega (arith, c.record_place-place.ensures, here.1, ap (λ (a : RecordNumber). a.0) here.0, chosen_inside c.requires.2)

pub set_mark-requires : goal.set_mark-requires
set_mark-requires c = omega (arith, inside (goal.at.set_mark-requires c).After-record_place-place, c.requires.2.exact.used)

pub bounds-makers-place : goal.bounds-makers-place
bounds-makers-place c = omega (arith, inside (goal.at.bounds-makers-place c).After-record_place-place, c.requires.2.exact.makers)

pub returns : goal.returns
returns c t k known =
    let at = c.args in
    let last = c.last_place-last in
    let here = picked (goal.at.returns c).In-Some t k known in
    let same = sym here.0 in
    let place = c.record_place-place in
    let register = c.register_place-register.ensures.0 ∙ (λ j. c.from-2.ensures j * at.s.r + c.from-3.ensures j) in
    made known at.w at.r (there (goal.at.returns c).In_default) (omega (arith, here.1, ap (λ (x : RecordNumber). x.0) same))
    ∙ ap (λ (x : RecordNumber). record {
      answer = Made x;
      collector = k;
      tables = makes_on (marked at.used.now (x.0 - 1) true) (set at.makers.now (x.0 - 1) (at.w + 1)) (set (set at.registers.now (at.s.w * at.s.r) x.0) (at.w * at.s.r + at.r) x.0) t;
    }) same
    ∙ (λ j.
    let x = c.in-Some.a in
    record {
      answer = Made x;
      collector = k;
      tables =
          makes_on ((ap (λ (i : ℕ). marked at.used.now i true) (sym place.ensures) ∙ sym c.set_mark.ensures) j) (set at.makers.now (sym place.ensures j) (sym c.from.ensures j + 1))
          (set (set at.registers.now (sym last.ensures j) x.0) (sym register j) x.0) t;
    })
