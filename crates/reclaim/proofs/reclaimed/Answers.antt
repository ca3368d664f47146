-- `reclaim::reclaimed` meets its contract. The outer loop's invariant: every record passed fails. The inner loop's: the changed mark of every link passed is off. What
-- the tests say of each record says what the search of the rules finds (Found). Assumes nothing.
use Prim.Native.Nat.{◌+◌, ◌-◌, ◌≤◌, ◌<◌}
use mathlib.Core.Path.{◌≡◌, sym, ap, ◌∙◌}
use mathlib.Core.Logic.{inl, inr, ⊎_elim}
use native.Mathlib.Omega.{arith}
use borrow.Author.Count.{below_more}
use Rattle.rules.specs.declared.RecordNumber.{RecordNumber}
use Rattle.rules.specs.Size.{link_number}
use Rattle.tables.specs.Tables.{Tables}
use Rattle.tables.specs.Bits.{mark_at}
use Rattle.tables.specs.Lie.{record_number}
use Rattle.laws.proofs.Number.{bounds}
use Rattle.laws.proofs.Tests.{below_or_not}
use Rattle.reclaim.specs.Lent.{reclaims_on}
use Rattle.reclaim.specs.Raw.{waits}
use Rattle.reclaim.proofs.Idle.{idle_waits}
use Rattle.reclaim.proofs.Found.{search_finds, search_finds_none, record_fails, record_passes, record_sits}
use Rattle.reclaim.proofs.reclaimed.Goals as goal
use Rattle.reclaim.proofs.reclaimed.Goals.{After-has_bit, After-is_waiting}

pub overflow_add-a : goal.overflow_add-a
overflow_add-a c = omega (arith, (bounds c.args.s c.requires.2.sizes).n_most)

-- what the tests say
waiting_is : (c : After-is_waiting) → c.is_waiting.result ≡ waits c.args.used.now c.args.counts.now c.args.held.now c.args.candidates.now (c.records.a - 1)
waiting_is c = c.is_waiting.ensures ∙ ap (waits _ _ _ _) c.record_place.ensures

changed_is : (c : After-has_bit) → c.has_bit.result ≡ mark_at c.args.changed.now (link_number c.args.s (record_number c.records.a) c.loop-f.f).0
changed_is c = c.has_bit.ensures ∙ c.link_marks-marks.ensures c.loop-f.f (omega (arith, c.from-end.ensures))

pub passed_over-a-requires : goal.passed_over-a-requires
passed_over-a-requires c =
    let known = c.requires.2 in
    ((bounds c.args.s known.sizes).n_most, omega arith, omega arith, known.exact.used, known.exact.held, known.exact.candidates)

-- it does not wait, and those that are passed over do not
pub records-preserved-then-not-is_waiting : goal.records-preserved-then-not-is_waiting
records-preserved-then-not-is_waiting c =
    let at = c.records in
    let over = c.passed_over-a.ensures in (
      omega (arith, over.0),
      over.1,
      λ b low some.
          ⊎_elim
          (λ (here : b < at.a + 1).
          below_more _ _ at.invariant.2
          (λ some. inl (sym (waiting_is (goal.at.records-preserved-then-not-is_waiting c).After-is_waiting) ∙ c.if-not-is_waiting.true)) b here some)
          (λ (later : at.a + 1 ≤ b).
          inl (idle_waits c.args.used.now c.args.counts.now c.args.held.now c.args.candidates.now (b - 1) (over.2 b later low)))
          (below_or_not b (at.a + 1)),
    )

pub has_bit-requires : goal.has_bit-requires
has_bit-requires c = omega (arith, c.from-end.ensures, (bounds c.args.s c.requires.2.sizes).k_most)

-- a changed mark, and no child
pub records-preserved : goal.records-preserved
records-preserved c = (
  omega arith,
  omega arith,
  below_more _ _ c.records.invariant.2 (λ some.
      inr (
        c.loop-f.f,
        omega (arith, c.from-end.ensures),
        sym (changed_is (goal.at.records-preserved c).After-has_bit) ∙ c.if-has_bit.true,
        λ t c'.
            sym (c.has_child.ensures t c') ∙ c.if-has_child.false,
      )),
)

pub returns-then-s-a : goal.returns-then-s-a
returns-then-s-a c t c' known =
    search_finds_none c.args.s _ (λ b some low. record_fails c.args.s _ c' b some low (c.records.invariant.2 b.0 (omega arith) some))

-- a changed mark, and a child
pub returns-then-has_child : goal.returns-then-has_child
returns-then-has_child c t c' known =
    let at = c.args in
    let here : RecordNumber = record_number c.records.a in
    let all : Tables = reclaims_on at.used.now at.counts.now at.held.now at.candidates.now at.values.now at.changed.now t in
    search_finds at.s _ here (omega arith) (omega arith)
    (record_sits at.s all c' here (omega arith) (omega arith)
    (sym (waiting_is (goal.at.returns-then-has_child c).After-is_waiting) ∙ c.if-not-is_waiting.false)
    (sym (c.has_child.ensures all c') ∙ c.if-has_child.true))
    (λ b some low. record_fails at.s _ c' b some (omega arith) (c.records.invariant.2 b.0 low some))

-- no changed mark
pub returns-after-loop-f : goal.returns-after-loop-f
returns-after-loop-f c t c' known =
    let here : RecordNumber = record_number c.records.a in
    search_finds c.args.s _ here (omega arith) (omega arith)
    (record_passes c.args.s _ c' here (omega arith) (omega arith)
    (sym (waiting_is (goal.at.returns-after-loop-f c).After-is_waiting) ∙ c.if-not-is_waiting.false)
    (λ f low. c.loop-f.invariant f (omega (arith, c.from-end.ensures))))
    (λ b some low. record_fails c.args.s _ c' b some (omega arith) (c.records.invariant.2 b.0 low some))
