-- `trace::stand_behind` meets its contract: a turn passes over the end field; the trace waits, has ended, or stops at what stands next. Assumes nothing.
use Prim.Native.Nat.{ℕ, ◌+◌, ◌-◌}
use mathlib.Core.Path.{◌≡◌, sym, ap, ◌∙◌}
use mathlib.Core.Bool.{false}
use mathlib.Core.Logic.{inl, inr}
use native.Mathlib.Omega.{arith}
use lib.Dec.{ltb}
use lib.ListN.{length}
use Rattle.fresh.specs.Free.{free_in}
use Rattle.fields.specs.Part.{longest}
use Rattle.trace.specs.Replay.{ended_whole}
use Rattle.trace.specs.Stand.{waits, ended, stood}
use Rattle.trace.proofs.Behind.{few_left, waits_are, look_waits, look_finds, look_field, look_other, stood_out}
use Rattle.trace.proofs.stand_behind.Goals as goal
use Rattle.trace.proofs.stand_behind.Goals.{Else-last-bytes, Joined-bytes-lt13, then-bytes-lt13, else-bytes-lt13, else-loop-test, then-loop-test+else-last-bytes+in-Ok+in_default}

few : (c : Joined-bytes-lt13) → c.if-bytes-lt13.value ≡ ltb (length c.args.bytes.now) (c.loop.next + longest)
few c =
    few_left (length c.args.bytes.now) c.loop.next c.if-bytes-lt13.value
    (elim c.if-bytes-lt13.branch [ then-bytes-lt13 w ↦ inl (w.if-bytes-lt13.true, w.value-is) | else-bytes-lt13 w ↦ inr (w.if-bytes-lt13.false, w.value-is) ])

-- no field is waited for
goes : (c : Else-last-bytes) → waits c.args.last c.args.bytes.now c.loop.next ≡ false
goes c = waits_are c.args.last c.args.bytes.now c.loop.next (few (goal.at.Else-last-bytes c).Joined-bytes-lt13) c.if-last-bytes.false

pub returns-then-last-bytes : goal.returns-then-last-bytes
returns-then-last-bytes c =
    look_waits (2 - c.loop.counter) c.args.last (free_in c.args.n c.args.used.now) c.args.closed c.args.bytes.now c.loop.next c.loop.now (omega (arith, c.loop-test.true))
    (waits_are c.args.last c.args.bytes.now c.loop.next (few (goal.at.returns-then-last-bytes c).Joined-bytes-lt13) c.if-last-bytes.true)
    ∙ c.loop.invariant

pub returns-in-Err : goal.returns-in-Err
returns-in-Err c =
    c.ended.ensures
    ∙ look_finds (2 - c.loop.counter) c.args.last (free_in c.args.n c.args.used.now) c.args.closed c.args.bytes.now c.loop.next c.loop.now (omega (arith, c.loop-test.true))
    (goes (goal.at.returns-in-Err c).Else-last-bytes)
    (sym c.read_at.ensures ∙ c.in-Err.is)
    ∙ c.loop.invariant

pub returns-in-Nothing : goal.returns-in-Nothing
returns-in-Nothing c =
    c.ended-in-Nothing.ensures
    ∙ ap (λ (n : ℕ). ended (ended_whole n c.args.closed) c.loop.next c.loop.now) c.count_off-free.ensures
    ∙ look_field (2 - c.loop.counter) c.args.last (free_in c.args.n c.args.used.now) c.args.closed c.args.bytes.now c.loop.next c.loop.now (omega (arith, c.loop-test.true))
    (goes (goal.at.returns-in-Nothing c).Else-last-bytes)
    (sym c.read_at.ensures ∙ c.in-Ok.is)
    c.in-Nothing.is
    ∙ c.loop.invariant

pub loop-preserved : goal.loop-preserved
loop-preserved c =
    let free = free_in c.args.n c.args.used.now in
    let one : 2 - (c.loop.counter + 1) ≡ 2 - c.loop.counter - 1 = omega arith in
    ap (λ (n : ℕ). stood n c.args.last free c.args.closed c.args.bytes.now c.in-Ok.x.next c.in-Ok.x.reader) one
    ∙ look_field (2 - c.loop.counter) c.args.last free c.args.closed c.args.bytes.now c.loop.next c.loop.now (omega (arith, c.loop-test.true))
    (goes (goal.at.loop-preserved c).Else-last-bytes)
    (sym c.read_at.ensures ∙ c.in-Ok.is)
    c.in-End.is
    ∙ c.loop.invariant

pub returns : goal.returns
returns c =
    let free = free_in c.args.n c.args.used.now in
    c.ended-2.ensures
    ∙ elim c.loop-test.branch [
      | else-loop-test w ↦
          let none : 2 - c.loop.counter ≡ 0 = omega (arith, w.loop-test.false) in
          stood_out c.args.last free c.args.closed c.args.bytes.now c.loop.next c.loop.now
          ∙ ap (λ (n : ℕ). stood n c.args.last free c.args.closed c.args.bytes.now c.loop.next c.loop.now) (sym none)
      | then-loop-test+else-last-bytes+in-Ok+in_default w ↦
          look_other (2 - c.loop.counter) c.args.last free c.args.closed c.args.bytes.now c.loop.next c.loop.now (omega (arith, w.loop-test.true))
          (waits_are c.args.last c.args.bytes.now c.loop.next
          (few_left (length c.args.bytes.now) c.loop.next w.if-bytes-lt13.value
          (elim w.if-bytes-lt13.branch [ then-bytes-lt13 v ↦ inl (v.if-bytes-lt13.true, v.value-is) | else-bytes-lt13 v ↦ inr (v.if-bytes-lt13.false, v.value-is) ]))
          w.if-last-bytes.false)
          (sym w.read_at.ensures ∙ w.in-Ok.is)
          w.in_default.not-End
          w.in_default.not-Nothing
    ]
    ∙ c.loop.invariant
