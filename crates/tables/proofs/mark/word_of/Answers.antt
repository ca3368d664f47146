-- `tables::mark::word_of` meets its contract. The loop's invariant: each half so far is what the test says of the places passed. Assumes nothing.
use Prim.Native.Nat.{ℕ, ◌+◌}
use mathlib.Core.Path.{◌≡◌, sym, subst}
use mathlib.Core.Bool.{Bool}
use native.Mathlib.Omega.{arith}
use Rattle.tables.proofs.Standing.{Half, half-start, half-next, halves-told}
use Rattle.tables.proofs.mark.word_of.Goals as goal

pub loop-i-init : goal.loop-i-init
loop-i-init g c = (half-start _, half-start _)

pub loop-i-preserved : goal.loop-i-preserved
loop-i-preserved g c =
    let at = c.loop-i in (
      half-next _ at.i at.low c.from.result c.test.result (omega arith) at.invariant.0 c.test.ensures c.from.ensures,
      half-next _ at.i at.high c.from-in-loop-i.result c.test-in-loop-i.result (omega arith) at.invariant.1 c.test-in-loop-i.ensures c.from-in-loop-i.ensures,
    )

pub returns : goal.returns
returns g c i h =
    let at = c.loop-i in
    let all : at.i ≡ 32 = omega arith in
    let low : Half (λ (k : ℕ) (b : Bool). goal.F-post g c.args.test k b) 32 c.from-2.result =
    subst (Half (λ (k : ℕ) (b : Bool). goal.F-post g c.args.test k b) 32) (sym c.from-2.ensures) (subst (λ (n : ℕ). Half (λ (k : ℕ) (b : Bool). goal.F-post g c.args.test k b) n at.low) all at.invariant.0) in
    let high : Half (λ (k : ℕ) (b : Bool). goal.F-post g c.args.test (k + 32) b) 32 c.from-3.result =
    subst (Half (λ (k : ℕ) (b : Bool). goal.F-post g c.args.test (k + 32) b) 32) (sym c.from-3.ensures) (subst (λ (n : ℕ). Half (λ (k : ℕ) (b : Bool). goal.F-post g c.args.test (k + 32) b) n at.high) all at.invariant.1) in
    halves-told _ c.from-2.result c.from-3.result low high i h
