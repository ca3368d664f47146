-- `worker::loads` meets its contract: it is `no_such_lem`, `load_holds-none` or `loaded`. Assumes nothing.
use Prim.Native.Nat.{ℕ, ◌+◌, ◌*◌, ◌<◌}
use mathlib.Core.Path.{◌≡◌, refl, sym, ap, ◌∙◌}
use mathlib.Core.Bool.{true, ◌&&◌}
use native.Mathlib.Omega.{arith}
use lib.ListN.{get_or}
use Rattle.rules.specs.declared.Event.TheVariants.{Load}
use Rattle.rules.specs.declared.RecordNumber.{RecordNumber}
use Rattle.rules.specs.Size.{link_number}
use Rattle.rules.specs.Outcome.{refusals}
use Rattle.laws.proofs.Refusals.{RegisterThere, has_numbers, numbers_there}
use Rattle.tables.specs.Lie.{record_number}
use Rattle.worker.proofs.Refused.{all_true, no_such_lem, load_holds-none}
use Rattle.worker.proofs.Events.{register_low, base_stands, loaded}
use Rattle.worker.proofs.loads.Goals as goal
use Rattle.worker.proofs.loads.Goals.{After-register_place-from, In_default}

pub returns-in-Err : goal.returns-in-Err
unfolding refusals
returns-in-Err c t k known =
    no_such_lem known (Load c.args.w c.args.r c.args.q c.args.f) c.has_worker.ensures
    (λ j. c.has_register.ensures j && c.has_register-2.ensures j) c.has_link.ensures refl c.in-Err.ensures

-- worker, registers and link are there
there : (c : In_default) → has_numbers c.args.s c.args.w c.args.q c.args.r c.args.f ≡ true
there c = all_true c.has_worker.ensures (λ j. c.has_register.ensures j && c.has_register-2.ensures j) c.has_link.ensures c.in_default.ensures

inside : (c : In_default) → RegisterThere c.args.s c.args.w c.args.q × (c.args.r < c.args.s.r) × (c.args.f < c.args.s.k)
inside c = numbers_there c.args.s c.args.w c.args.q c.args.r c.args.f (there c)

-- the register that is read is the one of the event
base : (c : After-register_place-from) → let registers = c.args.registers.now in
    get_or registers c.register_place-from.result 0 ≡ get_or registers (c.args.w * c.args.s.r + c.args.q) 0
base c = ap (λ (i : ℕ). get_or c.args.registers.now i 0) (c.register_place-from.ensures.0 ∙ (λ j. c.from.ensures j * c.args.s.r + c.from-2.ensures j))

pub returns-then-base-eq0 : goal.returns-then-base-eq0
returns-then-base-eq0 c t k known =
    let at = c.args in
    let numbers = there (goal.at.returns-then-base-eq0 c).In_default in
    load_holds-none known at.w at.r at.q at.f numbers
    (ap (λ (a : RecordNumber). a.0) (base_stands known at.w at.q at.r at.f numbers)
    ∙ sym (base (goal.at.returns-then-base-eq0 c).After-register_place-from)
    ∙ c.if-base-eq0.true)

pub link_number-l-requires : goal.link_number-l-requires
link_number-l-requires c =
    let at = c.args in
    let numbers = inside (goal.at.link_number-l-requires c).In_default in (
      c.requires.2.sizes,
      omega arith,
      omega (arith, register_low c.requires.2 at.w at.q numbers.0.worker numbers.0.register, base (goal.at.link_number-l-requires c).After-register_place-from),
      omega (arith, numbers.2, c.from-3.ensures),
    )

pub returns : goal.returns
returns c t k known =
    let at = c.args in
    let same = base (goal.at.returns c).After-register_place-from in
    loaded known at.w at.r at.q at.f (there (goal.at.returns c).In_default) (λ e. c.if-base-eq0.false (same ∙ e))
    c.link_number-l.result
    (c.link_number-l.ensures.0 ∙ (λ j. link_number at.s (record_number (same j)) (c.from-3.ensures j)))
    c.register_takes-a.result
    c.register_takes-a.new.registers
    c.register_takes-a.ensures
