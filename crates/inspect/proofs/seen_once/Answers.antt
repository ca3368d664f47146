-- `inspect::seen_once` meets its contract: `every_folded`. Assumes nothing.
use mathlib.Core.Path.{◌≡◌, ◌∙◌}
use mathlib.Core.Bool.{true, ◌&&◌}
use native.Mathlib.Omega.{arith}
use Rattle.std.proofs.Common.{fold}
use Rattle.std.proofs.lemmas.Grind.{common_steps}
use Rattle.inspect.specs.Parts.{is_once}
use Rattle.inspect.proofs.Tested.{every_folded}
use Rattle.inspect.proofs.seen_once.Goals as goal

pub returns : goal.returns
returns c =
    let folded : c.fold.result ≡ fold (λ ok x. ok && is_once x) true c.args.seen.now = grind (arith, common_steps) in
    folded ∙ every_folded is_once c.args.seen.now
