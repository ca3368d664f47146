-- The three outcomes of phase 6, on known tables.
--     closed_tables            the tables after a close
--     close_asks               what `advance::onward` asks of the collector's record
--     closed_on_lem            the collect event where the search finds none
--     found_inside             what the search finds is a record of the pool
--     freed_on, emptied_on     and where it finds a record: all of its changed marks are off, or one is on
-- Assumes nothing.
use Prim.Native.Nat.{ℕ, zero, suc, ◌≤◌, ◌<◌}
use mathlib.Core.Path.{◌≡◌, refl, sym, ap, ◌∙◌}
use mathlib.Core.Bool.{Bool, true, false, cond}
use mathlib.Core.List.{List, [], ◌∷◌, map}
use mathlib.Core.Logic.{⊎_elim}
use native.Mathlib.Omega.{arith}
use native.Mathlib.Nat.{not-suc-le-zero}
use lib.ListN.{length, replicate}
use Rattle.std.proofs.Common.{Some, None}
use Rattle.rules.specs.declared.Sizes.{Sizes}
use Rattle.rules.specs.declared.RecordNumber.{RecordNumber}
use Rattle.rules.specs.declared.Collector.{Collector}
use Rattle.rules.specs.declared.Event.TheVariants.{Collect}
use Rattle.rules.specs.declared.Answer.TheVariants.{Stepped, Freed}
use Rattle.rules.specs.declared.Answered.{Answered}
use Rattle.rules.specs.Pool.{Pool}
use Rattle.rules.specs.Collect.{stepped, unchanged, reclaimed, becomes_free, frees, empties, next_closed, closes, frees_or_empties, reclaims_or_closes, reclaims, phases}
use Rattle.tables.specs.Tables.{Tables, put_held, put_candidates}
use Rattle.tables.specs.Bits.{word_count, words_of, only_standing}
use Rattle.tables.specs.Lie.{pool_of, tables_of}
use Rattle.tables.specs.There.{record_there}
use Rattle.tables.specs.Known.{Known}
use Rattle.tables.specs.Event.{written, event_on}
use Rattle.tables.proofs.There.{some-there, none-there}
use Rattle.tables.proofs.Packed.{all_off}
use Rattle.tables.proofs.Standing.{only_marks}
use Rattle.tables.proofs.RoundTrip.{known_back}
use Rattle.tables.proofs.Done.{collect_is}
use Rattle.soundness.proofs.Core.{position_in}
use Rattle.laws.proofs.Search.{frees_is, reclaimed-passes}
use Rattle.laws.proofs.Change.{empties_unmoved}
use Rattle.advance.specs.Moved.{Movable}
use Rattle.reclaim.specs.Lent.{InPool, Freeable}

-- ---- the close

nothing_on : (held : List Bool) → map (λ h. false) held ≡ replicate (length held) false
nothing_on [] = refl
nothing_on (h ∷ held) = ap (λ t. false ∷ t) (nothing_on held)

abbrev pub closed_tables : Tables → Tables
closed_tables t = put_held (replicate (length t.held) 0) (put_candidates (only_standing 0 t.counts t.candidates) t)

closes-written : {s : Sizes} {t : Tables} {c : Collector} → Known s t c → tables_of s (closes (pool_of s t c)) ≡ closed_tables t
unfolding tables_of closes pool_of
closes-written {s} {t} {c} known =
    let held : List Bool = (pool_of s t c).records.held in
    λ j.
    put_held
    ((ap words_of (nothing_on held)
    ∙ all_off (length held)
    ∙ ap (λ (n : ℕ). replicate n 0) (ap word_count known.tables.sound.shaped.records.held ∙ sym known.exact.held)) j)
    (put_candidates (only_marks s.n 0 t.counts t.candidates known.exact.counts known.exact.candidates known.tables.marked.candidates j) (known_back known j))

-- ---- the collect event

module _ {s : Sizes} {t : Tables} {c : Collector} (known : Known s t c) (phase : c.phase ≡ 6) where
  abbrev p : Pool
  p = pool_of s t c

  -- phase 6 has one position
  pub close_asks : Movable c
  unfolding pool_of
  close_asks = let first : c.position < 1 = position_in known.tables.sound 6 phase in (omega arith, omega (arith, first))

  -- the step, by the number of the record that the search finds
  step_is : (k : ℕ) → (reclaimed s p).0 ≡ k → event_on s t c Collect ≡ written s (reclaims_or_closes s p k)
  unfolding phases reclaims
  step_is k e = collect_is s t c 6 phase ∙ ap (λ (b : ℕ). written s (reclaims_or_closes s p b)) e

  pub closed_on_lem : None ≡ record_there (reclaimed s p)
      → (x : Answered) → x ≡ record { answer = Stepped; collector = record { phase = 0; position = 0; closed = next_closed c.closed } }
      → (after : Tables) → closed_tables t ≡ after → event_on s t c Collect ≡ record { answer = x.answer; collector = x.collector; tables = after }
  unfolding reclaims_or_closes written closes pool_of
  closed_on_lem none x answered after h =
      step_is 0 (none-there (reclaimed s p) none)
      ∙ (λ j.
      record {
        answer = (sym answered j).answer;
        collector = (sym answered j).collector;
        tables = (closes-written known ∙ h) j;
      })

  found_is : (k : ℕ) → 1 ≤ k → reclaims_or_closes s p k ≡ frees_or_empties s p (record { 0 = k })
  unfolding reclaims_or_closes
  found_is zero k = absurd (not-suc-le-zero k)
  found_is (suc i) k = refl

  module _ (a : RecordNumber) (found : Some a ≡ record_there (reclaimed s p)) where
    there : (a ≡ reclaimed s p) × (1 ≤ a.0)
    there = some-there a (reclaimed s p) found

    number_is : (reclaimed s p).0 ≡ a.0
    number_is = sym (ap (λ x. x.0) there.0)

    pub found_inside : InPool s t c a
    found_inside =
        let low : (reclaimed s p).0 ≤ s.n = ⊎_elim (λ nothing. absurd (omega (arith, there, number_is))) (λ x. x.2) (reclaimed-passes s p) in
        record { known = known; phase = phase; some = there.1; low = omega (arith, number_is) }

    -- what is done to the record that is found, by its changed marks
    marks_are : (b : Bool) → unchanged s p a ≡ b
        → event_on s t c Collect ≡ written s (cond b (record { answer = Freed a; pool = frees s a p }) (stepped (empties s a p)))
    unfolding frees_or_empties
    marks_are b e =
        step_is a.0 number_is
        ∙ ap (written s) (found_is a.0 there.1 ∙ ap (λ x. cond x (record { answer = Freed a; pool = frees s a p }) (stepped (empties s a p))) e)

    pub freed_on : unchanged s p a ≡ true → (after : Tables) → (Freeable s t c a → tables_of s (frees s a p) ≡ after)
        → event_on s t c Collect ≡ record { answer = Freed a; collector = c; tables = after }
    unfolding written pool_of becomes_free
    freed_on off after h =
        marks_are true off
        ∙ (λ j.
        record {
          answer = Freed a;
          collector = (ap (λ q. q.collector) (frees_is s p a off) ∙ (empties_unmoved s a p).collector) j;
          tables = h (record { inside = found_inside; unchanged = off }) j;
        })

    pub emptied_on : unchanged s p a ≡ false → (after : Tables) → (InPool s t c a → tables_of s (empties s a p) ≡ after)
        → (x : Answered) → x ≡ record { answer = Stepped; collector = c }
        → event_on s t c Collect ≡ record { answer = x.answer; collector = x.collector; tables = after }
    unfolding written pool_of
    emptied_on on after h x answered =
        marks_are false on
        ∙ (λ j. record { answer = Stepped; collector = (empties_unmoved s a p).collector j; tables = h found_inside j })
        ∙ (λ j. record { answer = (sym answered j).answer; collector = (sym answered j).collector; tables = after })
