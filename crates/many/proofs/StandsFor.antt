-- Many events at once on packed tables with unused bits 0, of a sound pool or not, and on the old ones that they stand for: equal answers, and tables that stand for
-- equal tables (document 02, request 9). Assumes nothing.
use Prim.Native.Nat.{ℕ}
use mathlib.Core.Path.{◌≡◌, refl, sym, ap, ◌∙◌}
use mathlib.Core.List.{List}
use Rattle.rules.specs.declared.Sizes.{Sizes}
use Rattle.rules.specs.declared.Collector.{Collector}
use Rattle.rules.specs.Pool.{Pool}
use Rattle.rules.specs.Outcome.{after}
use Rattle.rules.specs.Sound.{Sound}
use Rattle.laws.proofs.Runs.{run_keeps}
use Rattle.soundness.proofs.Kept.{event_keeps_sound}
use Rattle.tables.specs.Tables.{Tables}
use Rattle.tables.specs.Lie.{pool_of}
use Rattle.tables.specs.Known.{Known}
use Rattle.events.specs.Old.{old_pool_of, stands_for, PackedWords}
use Rattle.events.proofs.StandsFor.{same_pool, same_tables}
use Rattle.pool.proofs.StandsFor.{by_tests}
use Rattle.trace.specs.Stretch.{stretch, RanOn, ran_of, ran_on}
use Rattle.many.specs.Many.{done, many_on}
use Rattle.many.specs.Old.{old_ran_of, old_many_on, old_many}

module _ {s : Sizes} {t : Tables} (c : Collector) (bytes : List ℕ) (step : ℕ) (room : List ℕ) where
  done_same : Known s t c → done bytes (old_ran_of s (old_pool_of s (stands_for s t) c) bytes step room) ≡ old_many s (done bytes (ran_on s t c bytes 0 step room))
  unfolding ran_on
  done_same known =
      let p : Pool = pool_of s t c in
      let x : RanOn = ran_of s p bytes 0 step room in
      let q : Pool = after s p (stretch bytes 0 step).events in
      let sound : Sound s q = run_keeps s (Sound s) (event_keeps_sound s known.sizes) p known.tables.sound (stretch bytes 0 step).events in
      ap (λ (p : Pool). done bytes (old_ran_of s p bytes step room)) (same_pool s t c)
      ∙ (λ j. done bytes (record { ran = x.ran; tables = sym (same_tables s q sound) j; answers = x.answers }))

  pub many_same : PackedWords s t → old_many_on s (stands_for s t) c bytes step room ≡ old_many s (many_on s t c bytes step room)
  unfolding old_many_on many_on
  many_same packed = by_tests packed c (old_many s) done_same refl refl
