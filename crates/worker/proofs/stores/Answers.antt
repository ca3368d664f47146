-- `worker::stores` meets its contract: it is one of two refusals, or `stored`. Assumes nothing.
use Prim.Native.Nat.{ℕ, ◌+◌, ◌*◌, ◌<◌}
use mathlib.Core.Path.{◌≡◌, refl, sym, ap, ◌∙◌}
use mathlib.Core.Bool.{true, ◌&&◌}
use native.Mathlib.Omega.{arith}
use lib.ListN.{get_or}
use Rattle.rules.specs.declared.RecordNumber.{RecordNumber}
use Rattle.rules.specs.declared.Event.TheVariants.{Store}
use Rattle.rules.specs.Size.{link_number}
use Rattle.rules.specs.Outcome.{refusals}
use Rattle.laws.proofs.Refusals.{RegisterThere, has_numbers, numbers_there}
use Rattle.tables.specs.Lie.{record_number}
use Rattle.worker.specs.Lent.{stores_on}
use Rattle.worker.proofs.Refused.{all_true, no_such_lem, store_holds-none}
use Rattle.worker.proofs.Events.{register_low, base_stands}
use Rattle.worker.proofs.Store.{stored}
use Rattle.worker.proofs.stores.Goals as goal
use Rattle.worker.proofs.stores.Goals.{After-link_number-l, After-register_place-through, In_default}

pub returns-in-Err : goal.returns-in-Err
unfolding refusals
returns-in-Err c t k known =
    no_such_lem known (Store c.args.w c.args.q c.args.f c.args.r) c.has_worker.ensures
    (λ j. c.has_register.ensures j && c.has_register-2.ensures j) c.has_link.ensures refl c.in-Err.ensures

-- worker, registers and link are there
there : (c : In_default) → has_numbers c.args.s c.args.w c.args.q c.args.r c.args.f ≡ true
there c = all_true c.has_worker.ensures (λ j. c.has_register.ensures j && c.has_register-2.ensures j) c.has_link.ensures c.in_default.ensures

inside : (c : In_default) → RegisterThere c.args.s c.args.w c.args.q × (c.args.r < c.args.s.r) × (c.args.f < c.args.s.k)
inside c = numbers_there c.args.s c.args.w c.args.q c.args.r c.args.f (there c)

-- the register that is read is the one of the event
base : (c : After-register_place-through) → let registers = c.args.registers.now in
    get_or registers (c.args.w * c.args.s.r + c.args.q) 0 ≡ get_or registers c.register_place-through.result 0
base c = ap (λ (i : ℕ). get_or c.args.registers.now i 0) (sym (c.register_place-through.ensures.0 ∙ (λ j. c.from.ensures j * c.args.s.r + c.from-2.ensures j)))

-- and the link is the one of the event
link : (c : After-link_number-l) → let at = c.args in
    c.link_number-l.result ≡ link_number at.s (record_number (get_or at.registers.now (at.w * at.s.r + at.q) 0)) at.f
link c =
    let same = sym (base (goal.at.After-link_number-l c).After-register_place-through) in
    c.link_number-l.ensures.0 ∙ (λ j. link_number c.args.s (record_number (same j)) (c.from-3.ensures j))

pub returns-then-base-eq0 : goal.returns-then-base-eq0
returns-then-base-eq0 c t k known =
    let at = c.args in
    let numbers = there (goal.at.returns-then-base-eq0 c).In_default in
    store_holds-none known at.w at.q at.f at.r numbers
    (ap (λ (a : RecordNumber). a.0) (base_stands known at.w at.q at.r at.f numbers)
    ∙ base (goal.at.returns-then-base-eq0 c).After-register_place-through
    ∙ c.if-base-eq0.true)

pub link_number-l-requires : goal.link_number-l-requires
link_number-l-requires c =
    let numbers = inside (goal.at.link_number-l-requires c).In_default in (
      c.requires.2.sizes,
      omega arith,
      omega (arith, register_low c.requires.2 c.args.w c.args.q numbers.0.worker numbers.0.register, base (goal.at.link_number-l-requires c).After-register_place-through),
      omega (arith, numbers.2, c.from-3.ensures),
    )

pub returns : goal.returns
returns c t k known =
    let at = c.args in
    let takes = c.link_takes-old in
    stored known at.w at.q at.f at.r (there (goal.at.returns c).In_default)
    (λ e. c.if-base-eq0.false (sym (base (goal.at.returns c).After-register_place-through) ∙ e))
    c.link_number-l.result
    (link (goal.at.returns c).After-link_number-l)
    c.link_number-l.ensures.1
    takes.result
    (stores_on takes.new.held takes.new.values takes.new.changed at.registers.now at.snoops.now takes.new.logs takes.new.lengths t)
    takes.ensures.0
    (takes.ensures.1 t)
