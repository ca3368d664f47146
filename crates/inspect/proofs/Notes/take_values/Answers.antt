-- `inspect::Notes::take_values` meets its contract: the values are tested, and stand in front of the others. Assumes nothing.
use mathlib.Core.Path.{◌≡◌, refl, sym, ◌∙◌}
use mathlib.Core.Bool.{◌&&◌}
use mathlib.Core.List.{◌++◌}
use Prim.Native.Nat.{◌+◌}
use native.Mathlib.Omega.{arith}
use lib.ListN.{length, drop}
use Rattle.std.proofs.lemmas.List.Edits.{paste_all}
use Rattle.clauses.specs.Inspected.{valued}
use Rattle.inspect.proofs.Notes.take_values.Goals as goal

pub returns : goal.returns
unfolding valued
returns c =
    let before = c.args.self.now in
    let values = c.args.values.now in
    λ j.
    record {
      ok = before.ok && sym c.at_most.ensures j;
      seen = before.seen;
      last = (paste_all before.last 0 values (length values) refl ∙ (λ j. sym c.copy_from_slice.ensures.after j ++ drop ((let e : 0 + length values ≡ length values = omega arith in e) j) before.last)) j;
    }
