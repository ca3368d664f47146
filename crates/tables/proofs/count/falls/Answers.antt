-- `tables::count::falls` meets its contract. Of none nothing changes; the count of another stands at its place. Assumes nothing.
use Prim.Native.Nat.{◌-◌, ◌≤◌}
use mathlib.Core.Path.{◌≡◌, refl, ◌∙◌}
use mathlib.Core.Bool.{true}
use native.Mathlib.Omega.{arith}
use lib.ListN.{get_or, set}
use lib.Seq.{get_or-set_same}
use Rattle.rules.specs.Pool.{of_record}
use Rattle.tables.specs.Counted.{fewer, fallen}
use Rattle.tables.proofs.Packed.{mark_place}
use Rattle.tables.proofs.Counted.{number_here, changed_here, fallen_on, fallen_off}
use Rattle.tables.proofs.count.falls.Goals as goal

pub returns-then-a-eq0 : goal.returns-then-a-eq0
unfolding fewer fallen
returns-then-a-eq0 c =
    rw c.if-a-eq0.true (refl, refl)

pub returns-then-counts-place-eq0 : goal.returns-then-counts-place-eq0
unfolding fewer
returns-then-counts-place-eq0 c =
    let a = c.args.a.0 in
    let counts = c.args.counts.now in
    let candidates = c.args.candidates.now in
    let place = c.record_place-place in
    let some : 1 ≤ a = omega arith in
    let here : get_or counts place.result 0 ≡ of_record counts a 0 = number_here counts a place.result some place.ensures in
    let there : get_or (set counts place.result (get_or counts place.result 0 - 1)) place.result 0 ≡ get_or counts place.result 0 - 1 =
    get_or-set_same counts place.result (get_or counts place.result 0 - 1) 0 (omega arith) in (
      changed_here counts (λ n. n - 1) a place.result some place.ensures,
      c.set_mark.ensures
          ∙ mark_place candidates a place.result true some place.ensures
          ∙ fallen_on a counts candidates (omega (arith, here, there)),
    )

pub returns-else-counts-place-eq0 : goal.returns-else-counts-place-eq0
unfolding fewer
returns-else-counts-place-eq0 c =
    let a = c.args.a.0 in
    let counts = c.args.counts.now in
    let place = c.record_place-place in
    let some : 1 ≤ a = omega arith in
    let here : get_or counts place.result 0 ≡ of_record counts a 0 = number_here counts a place.result some place.ensures in
    let there : get_or (set counts place.result (get_or counts place.result 0 - 1)) place.result 0 ≡ get_or counts place.result 0 - 1 =
    get_or-set_same counts place.result (get_or counts place.result 0 - 1) 0 (omega arith) in (
      changed_here counts (λ n. n - 1) a place.result some place.ensures,
      fallen_off a counts c.args.candidates.now (λ e. omega (arith, here, there)),
    )
