-- `reclaim::empties` meets its contract. The loop's invariant: in every pool in whose tables those lent lie, the tables are those after the unchanged ones of the
-- links passed are emptied. Assumes nothing.
use Prim.Native.Nat.{ℕ}
use mathlib.Core.Path.{◌≡◌, sym, ap, ◌∙◌, subst}
use mathlib.Core.Bool.{not}
use native.Mathlib.Omega.{arith}
use lib.ListN.{set}
use Rattle.rules.specs.declared.Collector.{Collector}
use Rattle.rules.specs.Size.{link_number}
use Rattle.rules.specs.Pool.{changed_at}
use Rattle.rules.specs.Collect.{is_unchanged, emptied_from, empties}
use Rattle.tables.specs.Tables.{Tables}
use Rattle.laws.proofs.Number.{link_inside}
use Rattle.tables.specs.Bits.{word_count, mark_at}
use Rattle.tables.specs.Lie.{pool_of}
use Rattle.tables.proofs.RoundTrip.{known_back}
use Rattle.tables.proofs.Stand.{changed_stands}
use Rattle.reclaim.specs.Lent.{empties_on, InPool, Leaves}
use Rattle.reclaim.proofs.Emptied.{emptied_tables, emptied_first, emptied_next, emptied-over, Fit, value_low, value-fits}
use Rattle.reclaim.proofs.empties.Goals as goal
use Rattle.reclaim.proofs.empties.Goals.{After-is_on, After-from-link}

pub loop-f-init : goal.loop-f-init
loop-f-init c t c' inside = emptied_first _ c.args.s c.args.a _ ∙ known_back inside.known

-- where the next link stands
place_is : (c : After-from-link) → c.from-link.result ≡ (link_number c.args.s c.args.a c.loop-f.f).0
place_is c = c.from-link.ensures ∙ ap (λ l. l.0) c.link_number.ensures.0

-- what the test says, in any pool that has these tables
changed_is : (c : After-is_on) (t : Tables) (c' : Collector) → let at = c.args in
    let here : Tables = empties_on at.counts.now at.candidates.now at.values.now at.changed.now t in
    InPool at.s here c' at.a → changed_at (pool_of at.s here c') (link_number at.s at.a c.loop-f.f) ≡ c.is_on.result
changed_is c t c' inside =
    let at = c.args in
    changed_stands at.s _ c' (link_number at.s at.a c.loop-f.f) (link_inside at.s at.a c.loop-f.f inside.some inside.low (omega arith))
    ∙ sym (c.is_on.ensures ∙ ap (mark_at at.changed.now) (place_is (goal.at.After-is_on c).After-from-link))

-- a changed link is passed over
pub loop-f-preserved-then-is_on : goal.loop-f-preserved-then-is_on
loop-f-preserved-then-is_on c t c' inside =
    let at = c.loop-f in
    emptied-over _ c.args.s c.args.a at.f _ (empties_on at.counts at.candidates at.values c.args.changed.now t)
    (ap not (changed_is (goal.at.loop-f-preserved-then-is_on c).After-is_on t c' inside ∙ c.if-is_on.true))
    (at.invariant t c' inside)

pub falls-requires : goal.falls-requires
falls-requires c =
    let at = c.loop-f in
    let inside = c.requires.2 in
    let u : Tables = empties_on at.counts at.candidates at.values c.args.changed.now c.requires.0 in
    let fit : Fit c.args.s c.from-link.result u =
    rw (place_is (goal.at.falls-requires c).After-from-link)
    (value-fits inside at.f (omega arith)
    (changed_is (goal.at.falls-requires c).After-is_on c.requires.0 c.requires.1 inside ∙ c.if-is_on.false)
    u
    (at.invariant c.requires.0 c.requires.1 inside)) in (
      omega (arith, fit.0, inside.known.exact.counts),
      at.auto.candidates ∙ inside.known.exact.candidates ∙ ap word_count (sym (at.auto.counts ∙ inside.known.exact.counts)),
      fit.1,
    )

pub loop-f-preserved : goal.loop-f-preserved
loop-f-preserved c t c' inside =
    let falls = c.falls in
    let at = c.loop-f in
    let changed = c.args.changed.now in
    let u : Tables = empties_on at.counts at.candidates at.values changed t in
    emptied_next _ c.args.s c.args.a at.f _ u
    (omega (arith, value_low inside at.f, inside.known.tables.sound.shaped.records.candidate))
    (ap not (changed_is (goal.at.loop-f-preserved c).After-is_on t c' inside ∙ c.if-is_on.false))
    (at.invariant t c' inside)
    ∙ ap (λ (l : ℕ). emptied_tables l u) (sym (place_is (goal.at.loop-f-preserved c).After-from-link))
    ∙ (λ j. empties_on (sym falls.ensures.0 j) (sym falls.ensures.1 j) (set at.values c.from-link.result 0) changed t)

pub returns : goal.returns
unfolding empties
returns c =
    let at = c.loop-f in
    let s = c.args.s in
    let changed = c.args.changed.now in
    subst
    (λ (n : ℕ). Leaves InPool s (empties_on c.args.counts.now c.args.candidates.now c.args.values.now changed) c.args.a (λ p. emptied_from (is_unchanged p) s c.args.a 0 n p)
    (empties_on at.counts at.candidates at.values changed))
    (let all : at.f ≡ s.k = omega arith in all)
    at.invariant
