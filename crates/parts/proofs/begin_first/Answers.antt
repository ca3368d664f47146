-- `parts::begin_first` meets its contract: what stands first in a trace, by the laws of `First`. Assumes nothing.
use mathlib.Core.Path.{◌≡◌, refl, sym, ap, ◌∙◌, subst}
use mathlib.Core.Bool.{false}
use Rattle.std.proofs.Common.{rules}
use Rattle.std.specs.Prelude.{Some, Err}
use Rattle.fields.specs.declared.RefusedAt.{RefusedAt}
use Rattle.trace.specs.Stand.{waits}
use Rattle.trace.proofs.Behind.{waits_are}
use Rattle.parts.specs.declared.Part.{Part}
use Rattle.rules.specs.declared.Collector.{Collector}
use Rattle.parts.specs.Begun.{GoesOn, StaysSo}
use Rattle.parts.proofs.First.{first_waits_lem, first_refused, first_large, first_only_sizes, first_goes}
use Rattle.parts.proofs.begin_first.Goals as goal
use Rattle.parts.proofs.begin_first.Goals.{Else-last-bytes, in-Err, in-Ok+in-Sizes-2, in-Ok+in_default}

-- no field is waited for
goes : (c : Else-last-bytes) → waits c.args.last c.args.bytes.now 0 ≡ false
goes c = waits_are c.args.last c.args.bytes.now 0 refl c.if-last-bytes.false

pub returns-then-last-bytes : goal.returns-then-last-bytes
returns-then-last-bytes c = λ t set.
    subst (StaysSo c.args.x t c.args.last c.args.bytes.now) (sym c.untaken.ensures)
    (first_waits_lem set c.args.last c.args.bytes.now c.requires (waits_are c.args.last c.args.bytes.now 0 refl c.if-last-bytes.true))

pub returns-in-Sizes : goal.returns-in-Sizes
returns-in-Sizes c = λ t set.
    subst (λ (z : Collector). GoesOn c.args.x t c.args.last c.args.bytes.now (record { reader = c.in-Ok.first.reader; sizes = c.in-Sizes.s; collector = z }) c.in-Ok.first.next)
    (search rules)
    (first_goes set c.args.last c.args.bytes.now c.requires (goes (goal.at.returns-in-Sizes c).Else-last-bytes) (sym c.read_at.ensures ∙ c.in-Ok.is) c.in-Sizes.is (sym c.is_small.ensures ∙ c.if-is_small.true))

pub returns : goal.returns
returns c = λ t set.
    let go = goes (goal.at.returns c).Else-last-bytes in
    let stops : RefusedAt → Part = λ e. record { stand = Some (Err e); next = 0; events = 0; progress = c.args.x } in
    let stays : Part → Type 0 = StaysSo c.args.x t c.args.last c.args.bytes.now in
    subst stays (sym c.untaken-2.ensures)
    (elim c.match-read_at.branch [
      | in-Err w ↦ subst stays (ap stops (sym w.refused-is)) (first_refused set c.args.last c.args.bytes.now c.requires go (sym c.read_at.ensures ∙ w.in-Err.is))
      | in-Ok+in-Sizes-2 w ↦
          subst stays (ap stops (sym w.refused-is))
          (first_large set c.args.last c.args.bytes.now c.requires go (sym c.read_at.ensures ∙ w.in-Ok.is) w.in-Sizes.is (sym w.is_small.ensures ∙ w.if-is_small.false))
      | in-Ok+in_default w ↦ absurd (first_only_sizes set c.args.last c.args.bytes.now c.requires go (sym c.read_at.ensures ∙ w.in-Ok.is) w.in_default.not-Sizes)
    ])
