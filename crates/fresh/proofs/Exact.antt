-- The test of the lengths, and what it says.
--     exact_tells     where the test is true, every table has its length
--     exact_true      and the other way round
-- Assumes nothing.
use Prim.Native.Nat.{◌+◌, ◌*◌}
use mathlib.Core.Path.{◌≡◌}
use mathlib.Core.Bool.{Bool, true, ◌&&◌}
use mathlib.Core.List.{List, [], ◌∷◌}
use borrow.Author.Tests.{eqb-true, eq-eqb}
use lib.Dec.{eqb}
use lib.ListN.{length}
use Rattle.rules.specs.declared.Sizes.{Sizes}
use Rattle.rules.specs.Size.{links}
use Rattle.rules.specs.Sound.{Each}
use Rattle.laws.proofs.Tests.{and_left, and_right, and_both}
use Rattle.tables.specs.Bits.{word_count}
use Rattle.tables.specs.Tables.{Tables}
use Rattle.tables.specs.Lie.{room}
use Rattle.tables.specs.Known.{Exact}
use Rattle.fresh.specs.Fits.{is_exact}

-- tests joined from the left: all of them are true where the whole is
ands : Bool → List Bool → Bool
ands b [] = b
ands b (c ∷ more) = ands (b && c) more

ands_each : (b : Bool) (more : List Bool) → ands b more ≡ true → (b ≡ true) × Each (λ c. c ≡ true) more
unfolding ands
ands_each b [] h = (h, tt)
ands_each b (c ∷ more) h = let both = ands_each (b && c) more h in (and_left b c both.0, (and_right b c both.0, both.1))

ands_all : (b : Bool) (more : List Bool) → b ≡ true → Each (λ c. c ≡ true) more → ands b more ≡ true
unfolding ands
ands_all b [] h all = h
ands_all b (c ∷ more) h all = ands_all (b && c) more (and_both b c h all.0) all.1

module _ (s : Sizes) (t : Tables) where
  -- the tests behind the first
  others : List Bool
  others =
      eqb (length t.counts) s.n
      ∷ eqb (length t.held) (word_count s.n)
      ∷ eqb (length t.candidates) (word_count s.n)
      ∷ eqb (length t.makers) s.n
      ∷ eqb (length t.values) (links s)
      ∷ eqb (length t.changed) (word_count (links s))
      ∷ eqb (length t.registers) (s.w * s.r + 1)
      ∷ eqb (length t.snoops) s.w
      ∷ eqb (length t.logs) (s.w * room s)
      ∷ eqb (length t.history) (room s)
      ∷ eqb (length t.lengths) (s.w + 1)
      ∷ []

  pub exact_tells : is_exact s t ≡ true → Exact s t
  unfolding is_exact ands others
  exact_tells h =
      let all = ands_each (eqb (length t.used) (word_count s.n)) others h in
      let rest = all.1 in
      record {
        used = eqb-true _ _ all.0;
        counts = eqb-true _ _ rest.0;
        held = eqb-true _ _ rest.1.0;
        candidates = eqb-true _ _ rest.1.1.0;
        makers = eqb-true _ _ rest.1.1.1.0;
        values = eqb-true _ _ rest.1.1.1.1.0;
        changed = eqb-true _ _ rest.1.1.1.1.1.0;
        registers = eqb-true _ _ rest.1.1.1.1.1.1.0;
        snoops = eqb-true _ _ rest.1.1.1.1.1.1.1.0;
        logs = eqb-true _ _ rest.1.1.1.1.1.1.1.1.0;
        history = eqb-true _ _ rest.1.1.1.1.1.1.1.1.1.0;
        lengths = eqb-true _ _ rest.1.1.1.1.1.1.1.1.1.1.0;
      }

  pub exact_true : Exact s t → is_exact s t ≡ true
  unfolding is_exact ands others
  exact_true e =
      ands_all (eqb (length t.used) (word_count s.n)) others (eq-eqb _ _ e.used) (
        eq-eqb _ _ e.counts,
        (
          eq-eqb _ _ e.held,
          (
            eq-eqb _ _ e.candidates,
            (
              eq-eqb _ _ e.makers,
              (
                eq-eqb _ _ e.values,
                (
                  eq-eqb _ _ e.changed,
                  (eq-eqb _ _ e.registers, (eq-eqb _ _ e.snoops, (eq-eqb _ _ e.logs, (eq-eqb _ _ e.history, (eq-eqb _ _ e.lengths, tt))))),
                ),
              ),
            ),
          ),
        ),
      )
