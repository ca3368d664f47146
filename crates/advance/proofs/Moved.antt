-- The collector's record after a step, by the phase that the step left.
--     opening_moves     phase 0
--     others_move       any phase but 6
--     closing-moves     phase 6
-- Assumes nothing.
use Rattle.std.proofs.Common.{◌≡◌, ℕ, suc, Bool, cond, eqb, List, [], ap, ◌∙◌, arith, ne_eqb, le-leb}
use Rattle.rules.specs.declared.Collector.{Collector}
use Rattle.rules.specs.Pool.{Entry}
use Rattle.rules.specs.Collect.{phase_after, advanced}
use Rattle.advance.specs.Moved.{closed_on, moved_on}

-- "phase 1, position 0"
pub opening_moves : (c : Collector) → c.phase ≡ 0 → moved_on 1 [] c ≡ record { phase = 1; position = 0; closed = c.closed }
unfolding moved_on phase_after
opening_moves c e =
    ap (λ (k : ℕ). moved_on 1 [] (record { phase = k; position = c.position; closed = c.closed })) e
    ∙ ap (λ (b : Bool). cond b (record { phase = 1; position = 0; closed = c.closed }) (record { phase = 0; position = suc c.position; closed = c.closed }))
    (le-leb 1 (suc c.position) (omega arith))

module _ (n : ℕ) (history : List Entry) (c : Collector) where
  pub others_move : (c.phase ≡ 6 → ⊥) → moved_on n history c ≡ advanced n history c
  unfolding moved_on
  others_move other = ap (λ (b : Bool). cond b (closed_on c) (advanced n history c)) (ne_eqb c.phase 6 other)

  pub closing-moves : c.phase ≡ 6 → moved_on n history c ≡ closed_on c
  unfolding moved_on
  closing-moves e = ap (λ (k : ℕ). cond (eqb k 6) (closed_on c) (advanced n history c)) e
