-- `inspect::at_most` meets its contract: `every_folded`. Assumes nothing.
use Prim.Native.Nat.{ℕ}
use mathlib.Core.Path.{◌≡◌, ◌∙◌}
use mathlib.Core.Bool.{true, ◌&&◌}
use native.Mathlib.Omega.{arith}
use lib.Dec.{leb}
use Rattle.std.proofs.Common.{fold}
use Rattle.std.proofs.lemmas.Grind.{common_steps}
use Rattle.inspect.proofs.Tested.{every_folded}
use Rattle.inspect.proofs.at_most.Goals as goal

pub returns : goal.returns
returns c =
    let low = λ (x : ℕ). leb x c.args.most in
    let folded : c.fold.result ≡ fold (λ ok x. ok && low x) true c.args.xs.now = grind (arith, common_steps) in
    folded ∙ every_folded low c.args.xs.now
