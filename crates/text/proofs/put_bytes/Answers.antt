-- `text::put_bytes` meets its contract: one byte more is written behind those that were. Assumes nothing.
use Prim.Native.Nat.{ℕ, ◌+◌, ◌<◌}
use mathlib.Core.Path.{sym, ap, ◌∙◌}
use mathlib.Core.List.{[], ◌∷◌}
use native.Mathlib.Omega.{arith}
use native.Mathlib.Numerals.{add-one}
use lib.ListN.{length, get_or, take, set}
use lib.Seq.{sets, length-take-le, take-suc}
use Rattle.text.proofs.Written.{sets_append}
use Rattle.text.proofs.put_bytes.Goals as goal

pub loop-i-preserved : goal.loop-i-preserved
loop-i-preserved c =
    let out = c.args.out.now in
    let bytes = c.args.bytes.now in
    let i = c.loop-i.i in
    let byte = get_or bytes i 0 in
    let inside : i < length bytes = omega arith in
    (λ j. set (c.loop-i.invariant j) (c.args.at + sym (length-take-le i bytes (omega arith)) j) byte)
    ∙ sym (sets_append (take i bytes) (byte ∷ []) out c.args.at)
    ∙ ap (sets out c.args.at) (sym (take-suc bytes i 0 inside) ∙ ap (λ (k : ℕ). take k bytes) (sym (add-one i)))
