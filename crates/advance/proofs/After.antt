-- The phase after a phase, by how many entries the history has.
--     after_skipped     a phase is skipped
--     after_others      none is
-- Assumes nothing.
use Rattle.std.proofs.Common.{◌≡◌, ◌⊎◌, inl, inr, ℕ, suc, ◌+◌, cond, ◌||◌, List, [], ◌∷◌, length, sym, refl, subst, ◌∙◌, add-one, arith, ne_eqb}
use Rattle.rules.specs.Pool.{Entry}
use Rattle.rules.specs.Collect.{phase_after}

-- "Phases 3 and 5 are skipped when the history is empty."
pub after_skipped : (phase : ℕ) (history : List Entry) → length history ≡ 0 → (phase ≡ 2) ⊎ (phase ≡ 4) → phase + 2 ≡ phase_after phase history
unfolding phase_after
after_skipped phase [] h (inl e) = subst (λ (n : ℕ). n + 2 ≡ phase_after n []) (sym e) refl
after_skipped phase [] h (inr e) = subst (λ (n : ℕ). n + 2 ≡ phase_after n []) (sym e) refl
after_skipped phase (x ∷ history) h e = absurd (omega arith)

pub after_others : (phase : ℕ) (history : List Entry) → (length history ≡ 0 → (phase ≡ 2) ⊎ (phase ≡ 4) → ⊥) → phase + 1 ≡ phase_after phase history
unfolding phase_after
after_others phase [] other =
    let three : suc phase ≡ 3 → ⊥ = λ e. other refl (inl (omega arith)) in
    let five : suc phase ≡ 5 → ⊥ = λ e. other refl (inr (omega arith)) in
    add-one phase ∙ sym (λ j. cond (ne_eqb (suc phase) 3 three j || ne_eqb (suc phase) 5 five j) (suc (suc phase)) (suc phase))
after_others phase (x ∷ history) other = add-one phase
