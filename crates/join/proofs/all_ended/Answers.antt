-- `join::all_ended` meets its contract: each part's end lies in the slice. Assumes nothing.
use Prim.Native.Nat.{◌≤◌}
use mathlib.Core.Path.{sym, ◌∙◌, subst}
use lib.ListN.{length}
use Rattle.std.proofs.Common.{rules}
use Rattle.std.proofs.lemmas.List.{get_or_default}
use Rattle.std.proofs.lemmas.Iterator.{YieldsList-from_slice}
use Rattle.std.proofs.lemmas.Iterator.Adapters.{serves_from_places}
use Rattle.join.specs.declared.Cursor.{Cursor}
use Rattle.join.specs.Merge.{no_cursor}
use Rattle.join.proofs.all_ended.Goals as goal

pub all-requires-clause-callable : goal.all-requires-clause-callable
all-requires-clause-callable c =
    let cursors = c.args.cursors.now in
    serves_from_places (YieldsList-from_slice cursors cc) (λ x q k. search rules)
    (λ x i below at.
    let inside : x.now.end ≤ length c.args.parts.now =
    subst (λ (k : Cursor). k.end ≤ length c.args.parts.now) (sym (at ∙ get_or_default cursors i x.now no_cursor below)) (c.requires i below) in
    search (rules, inside))
