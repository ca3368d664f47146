-- `reclaim::frees` meets its contract: the links are emptied, and two marks go off. Assumes nothing.
use Prim.Native.Nat.{ℕ}
use mathlib.Core.Path.{◌≡◌, sym, ◌∙◌}
use mathlib.Core.List.{List}
use mathlib.Core.Bool.{false}
use native.Mathlib.Omega.{arith}
use Rattle.tables.specs.Bits.{marked, mark_record}
use Rattle.tables.specs.Tables.{Tables, put_used, put_counts, put_candidates, put_values, put_changed}
use Rattle.tables.specs.Lie.{pool_of}
use Rattle.tables.proofs.Packed.{mark_place}
use Rattle.reclaim.specs.Lent.{frees_on}
use Rattle.reclaim.proofs.Emptied.{freed_next}
use Rattle.reclaim.proofs.frees.Goals as goal

pub empties-requires : goal.empties-requires
empties-requires c = (put_used c.args.used.now c.requires.0, c.requires.1, c.requires.2.inside)

pub returns : goal.returns
returns c t c' asked =
    let at = c.args in
    let empties = c.empties in
    let off : (marks : List ℕ) → marked marks c.record_place-place.result false ≡ mark_record marks at.a.0 false =
    λ marks. mark_place marks at.a.0 c.record_place-place.result false asked.inside.some c.record_place-place.ensures in
    let shaped = asked.inside.known.tables.sound.shaped.records in
    let rest : Tables = put_counts empties.new.counts (put_values empties.new.values (put_changed at.changed.now t)) in
    freed_next at.s at.a (pool_of at.s (frees_on at.used.now at.counts.now at.candidates.now at.values.now at.changed.now t) c')
    (put_used at.used.now (put_candidates empties.new.candidates rest))
    (omega (arith, shaped.used, asked.inside.low))
    (omega (arith, shaped.candidate, asked.inside.low))
    asked.unchanged
    (empties.ensures (put_used at.used.now t) c' asked.inside)
    ∙ (λ j. put_used (sym (c.set_mark.ensures ∙ off at.used.now) j) (put_candidates (sym (c.set_mark-2.ensures ∙ off empties.new.candidates) j) rest))
