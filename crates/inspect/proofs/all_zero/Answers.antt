-- `inspect::all_zero` meets its contract: `zero_folded`. Assumes nothing.
use Prim.Native.Nat.{ℕ}
use mathlib.Core.Path.{◌≡◌, ap, ◌∙◌}
use borrow.Author.Rules.{rules}
use lib.Bits.{bit_or}
use lib.Dec.{eqb}
use Rattle.std.proofs.Common.{fold}
use Rattle.inspect.proofs.Tested.{zero_folded}
use Rattle.inspect.proofs.all_zero.Goals as goal

pub returns : goal.returns
returns c =
    let folded : c.fold.result ≡ fold bit_or 0 c.args.xs.now = search rules in
    ap (λ (n : ℕ). eqb n 0) folded ∙ zero_folded c.args.xs.now
