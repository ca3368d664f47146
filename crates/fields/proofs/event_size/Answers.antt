-- `fields::event_size` meets its contract: each test of the code is one of what the bytes of an event field say. Assumes nothing.
use mathlib.Core.Logic.{⊎_elim}
use native.Mathlib.Omega.{arith}
use Rattle.fields.specs.Field.{byte_at}
use Rattle.fields.proofs.Tags.{tag_least, tag_most}
use Rattle.fields.proofs.Event.{no_event_lem, event_stands}
use Rattle.fields.proofs.event_size.Goals as goal

pub returns-in_err-left : goal.returns-in_err-left
returns-in_err-left c =
    let at = c.args in
    rw c.from_residual.ensures (no_event_lem at.bytes.now at.place at.step (λ says. omega (arith, says.begins, c.in_err-left.ensures)))

pub returns-then-left-lt7 : goal.returns-then-left-lt7
returns-then-left-lt7 c =
    let at = c.args in
    no_event_lem at.bytes.now at.place at.step (λ says. omega (arith, says.whole, tag_least (byte_at at.bytes.now at.place) says.known))

pub returns-then-tag-eq-SIZES_TAG : goal.returns-then-tag-eq-SIZES_TAG
returns-then-tag-eq-SIZES_TAG c =
    let at = c.args in
    no_event_lem at.bytes.now at.place at.step (λ says. ⊎_elim says.no_sizes (λ other. says.no_end other.1) c.then-tag-eq-SIZES_TAG.either)

pub returns-in_err-payload : goal.returns-in_err-payload
returns-in_err-payload c =
    let at = c.args in
    rw c.from_residual-in_err-payload.ensures (no_event_lem at.bytes.now at.place at.step (λ says. says.known c.in_err-payload.ensures))

pub overflow_add-payload : goal.overflow_add-payload
overflow_add-payload c =
    let at = c.args in
    omega (arith, tag_most (byte_at at.bytes.now at.place), c.in_ok-payload.ensures.0)

pub returns-then-left-payload : goal.returns-then-left-payload
returns-then-left-payload c =
    let at = c.args in
    no_event_lem at.bytes.now at.place at.step (λ says. omega (arith, says.whole, c.in_ok-payload.ensures.0))

pub returns-then-from-payload : goal.returns-then-from-payload
returns-then-from-payload c =
    let at = c.args in
    no_event_lem at.bytes.now at.place at.step (λ says. c.if-from-payload.true (omega (arith, says.long)))

pub returns-then-from : goal.returns-then-from
returns-then-from c =
    let at = c.args in
    no_event_lem at.bytes.now at.place at.step (λ says. c.if-from.true (omega (arith, says.next)))

pub returns : goal.returns
returns c =
    let at = c.args in
    let tag = c.in_ok-payload.ensures in
    event_stands at.bytes.now at.place at.step tag.0
    (record {
      begins = omega arith;
      known = λ none. omega (arith, tag.1);
      no_sizes = c.if-tag-eq-SIZES_TAG.false;
      no_end = c.if-tag-eq-END_TAG.false;
      long = omega (arith, tag.0);
      whole = omega (arith, tag.0);
      next = omega arith;
    })
    (omega arith)
