-- `join::join` meets its contract: each return is one of the definition's answers, by what was found out. Assumes nothing.
use native.Mathlib.Omega.{arith}
use borrow.Author.Rules.{rules}
use Prim.Native.Nat.{ℕ, ◌+◌, ◌≤◌}
use mathlib.Core.Path.{◌≡◌, sym, ap, ◌∙◌}
use lib.ListN.{length, get_or}
use lib.Seq.{length-take-le}
use Rattle.std.specs.Prelude.{Result, Err}
use Rattle.fields.specs.declared.RefusedAt.{RefusedAt}
use Rattle.join.specs.Joined.{joined_trace}
use Rattle.join.proofs.Lengths.{Lent, all_lent, sum_most}
use Rattle.join.proofs.Answer.{not-lent, end_first, not_opened, not_alike, not_merged, joined_size, too_short, written_out}
use Rattle.join.proofs.join.Goals as goal
use Rattle.join.proofs.join.Goals.{Else-not-end_to_end, In-Some-measure}

-- the parts lie end to end
lent : (c : Else-not-end_to_end) → Lent c.args.parts.now c.args.lengths.now
lent c = all_lent _ _ (sym c.if-not-end_to_end.ensures)

end_inside : (c : Else-not-end_to_end) → get_or c.args.lengths.now 0 0 ≤ length c.args.parts.now
end_inside c =
    let args = c.args in
    omega (
      arith,
      end_first args.parts.now args.lengths.now args.out.now c.if-not-end_to_end.ensures (lent c),
      sum_most args.lengths.now 1,
      (lent c).adds,
    )

-- how long the joined trace is
size_is : (c : In-Some-measure)
    → let opening = c.in_ok-opening.opening in
    (length (joined_trace c.in-Some-measure.ensures.merges.told) ≡ opening.next + c.in-Some-measure.size + 7) × (opening.next ≤ length c.args.parts.now)
size_is c =
    let args = c.args in
    joined_size args.parts.now args.lengths.now args.out.now c.if-not-end_to_end.ensures (lent (goal.at.In-Some-measure c).Else-not-end_to_end)
    (sym c.in_ok-opening.ensures)
    c.in-Some-measure.ensures.merges
    c.in-Some.ensures.alike

pub returns-then-not-end_to_end : goal.returns-then-not-end_to_end
returns-then-not-end_to_end c = not-lent c.args.parts.now c.args.lengths.now c.args.out.now c.if-not-end_to_end.ensures

pub bounds-lengths-0 : goal.bounds-lengths-0
bounds-lengths-0 c = (lent (goal.at.bounds-lengths-0 c).Else-not-end_to_end).some

pub slice_bounds-open_part-end : goal.slice_bounds-open_part-end
slice_bounds-open_part-end c = sym (length-take-le _ _ (end_inside (goal.at.slice_bounds-open_part-end c).Else-not-end_to_end))

pub returns-in_err-opening : goal.returns-in_err-opening
returns-in_err-opening c =
    let args = c.args in
    let refused : c.from_residual.result ≡ Err c.in_err-opening.field-0.0 = search rules in
    not_opened args.parts.now args.lengths.now args.out.now c.if-not-end_to_end.ensures (lent (goal.at.returns-in_err-opening c).Else-not-end_to_end)
    (sym c.in_err-opening.ensures)
    ∙ ap (λ (x : Result ℕ RefusedAt). record { joined = x; out = args.out.now }) (sym refused)

pub returns-in_default : goal.returns-in_default
returns-in_default c =
    let args = c.args in
    not_alike args.parts.now args.lengths.now args.out.now c.if-not-end_to_end.ensures (lent (goal.at.returns-in_default c).Else-not-end_to_end)
    (sym c.in_ok-opening.ensures)
    c.in_default.ensures.other
    ∙ ap (λ (x : RefusedAt). record { joined = Err x; out = args.out.now }) (sym c.refusal.ensures)

pub returns-in_default-measure : goal.returns-in_default-measure
returns-in_default-measure c =
    let args = c.args in
    not_merged args.parts.now args.lengths.now args.out.now c.if-not-end_to_end.ensures (lent (goal.at.returns-in_default-measure c).Else-not-end_to_end)
    (sym c.in_ok-opening.ensures)
    c.in_default-measure.ensures.other
    ∙ ap (λ (x : RefusedAt). record { joined = Err x; out = args.out.now }) (sym c.refusal-in_default-measure.ensures)

pub overflow_add-opening : goal.overflow_add-opening
overflow_add-opening c = omega (arith, (size_is (goal.at.overflow_add-opening c).In-Some-measure).1, c.in-Some-measure.ensures.most)

pub overflow_add-opening-2 : goal.overflow_add-opening-2
overflow_add-opening-2 c = omega (arith, (size_is (goal.at.overflow_add-opening-2 c).In-Some-measure).1, c.in-Some-measure.ensures.most)

pub returns-then-out-opening : goal.returns-then-out-opening
returns-then-out-opening c =
    let args = c.args in
    too_short args.parts.now args.lengths.now args.out.now c.if-not-end_to_end.ensures (lent (goal.at.returns-then-out-opening c).Else-not-end_to_end)
    (sym c.in_ok-opening.ensures)
    c.in-Some-measure.ensures.merges
    c.in-Some.ensures.alike
    (omega (arith, (size_is (goal.at.returns-then-out-opening c).In-Some-measure).0))

pub write_joined-requires-clause-ready : goal.write_joined-requires-clause-ready
write_joined-requires-clause-ready c =
    let merges = c.in-Some-measure.ensures.merges in
    record {
      told = merges.told;
      reads = merges.reads;
      numbers = merges.numbers;
      room = omega (arith, (size_is (goal.at.write_joined-requires-clause-ready c).In-Some-measure).0);
    }

pub returns : goal.returns
returns c =
    let args = c.args in
    let merges = c.in-Some-measure.ensures.merges in
    written_out args.parts.now args.lengths.now args.out.now c.if-not-end_to_end.ensures (lent (goal.at.returns c).Else-not-end_to_end)
    (sym c.in_ok-opening.ensures)
    merges
    c.in-Some.ensures.alike
    (omega (arith, (size_is (goal.at.returns c).In-Some-measure).0))
    (c.write_joined.ensures.written merges.told merges.reads)
