-- `reclaim::passed_over` meets its contract. The loop's invariant: no record passed over is a used, unheld candidate. Assumes nothing.
use Prim.Native.Nat.{ℕ, ◌+◌, ◌-◌, ◌*◌, ◌≤◌, ◌<◌}
use mathlib.Core.Path.{◌≡◌, ap, ◌∙◌}
use mathlib.Core.Logic.{⊎_elim}
use native.Mathlib.Omega.{arith}
use lib.ListN.{length}
use Rattle.laws.proofs.Tests.{below_or_not}
use Rattle.reclaim.specs.Raw.{may_wait}
use Rattle.reclaim.proofs.Idle.{word_idle}
use Rattle.reclaim.proofs.passed_over.Goals as goal

pub loop-word-preserved : goal.loop-word-preserved
loop-word-preserved c =
    let at = c.loop-word in
    let pre = c.requires in
    let used = c.args.used.now in
    let held = c.args.held.now in
    let candidates = c.args.candidates.now in
    let q : ℕ = at.word in
    let inside : q < length used = omega arith in (
      omega arith,
      omega (arith, at.invariant.0, at.invariant.1),
      λ more. omega (arith, more, pre.3),
      λ b least most.
          ⊎_elim
          (λ (seen : b < q * 64 + at.rest + 1). at.invariant.3 b least (omega (arith, seen)))
          (λ (later : q * 64 + at.rest + 1 ≤ b).
          ap (may_wait used held candidates) (let e : b - 1 ≡ q * 64 + (b - 1 - q * 64) = omega arith in e)
          ∙ word_idle used held candidates q inside (omega (arith, inside, pre.3, pre.4)) (omega (arith, inside, pre.3, pre.5)) (c.type_inv.held q).fits
          at.rest
          (b - 1 - q * 64)
          c.if-used-word-ne0.false
          (omega (arith, later))
          (omega (arith, most, later)))
          (below_or_not b (q * 64 + at.rest + 1)),
    )
