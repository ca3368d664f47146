-- `join::check_events` meets its contract. The loop's invariant: what is to be seen of the part is what is to be seen from the place on. Assumes nothing.
use native.Mathlib.Omega.{arith}
use Prim.Native.Nat.{ℕ, suc, ◌+◌, ◌-◌}
use mathlib.Core.Path.{◌≡◌, ap, ◌∙◌}
use lib.ListN.{length}
use Rattle.join.specs.Part.{events_told}
use Rattle.join.specs.Merge.{seen}
use Rattle.join.proofs.Reading.{told_event, rises}
use Rattle.join.proofs.check_events.Goals as goal

pub loop-size-init : goal.loop-size-init
loop-size-init c =
    let bytes = c.args.bytes.now in
    let place = c.args.start in
    record {
      inside = omega arith;
      least = omega arith;
      last = (
        0,
        omega arith,
        omega arith,
        c.expect_at-step.ensures,
        (length bytes - 1, omega arith, ap (λ (n : ℕ). seen (events_told n bytes place 0 0)) (let on : length bytes ≡ suc (length bytes - 1) = omega arith in on)),
      );
    }

pub loop-size-preserved : goal.loop-size-preserved
loop-size-preserved c =
    let at = c.loop-size in
    let bytes = c.args.bytes.now in
    let sized = c.in-Some.ensures in
    let (last, least, most, is, (turns, left, told)) = at.invariant.last in
    record {
      inside = omega (arith, sized.whole);
      least = omega arith;
      last = (
        at.step + 1,
        omega (arith, least, rises bytes at.place last at.events 0 is sized),
        sized.follows,
        c.expect_at-step-in-Some.ensures,
        (
          turns - 1,
          omega (arith, sized.whole, left),
          told
              ∙ told_event bytes at.place last at.events turns is sized
              ∙ ap (λ (n : ℕ). seen (events_told n bytes (at.place + c.in-Some.size) (at.step + 1) (at.events + 1)))
              (let on : turns ≡ suc (turns - 1) = omega (arith, sized.whole, left) in on),
        ),
      );
    }
