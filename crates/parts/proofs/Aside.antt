-- The arrays before the first field: "sets aside 256 links, all none, before the first field", and 8 board entries.
--     at_rest            the collector's record of a fresh pool
--     aside_is_fresh     a fresh pool of any sizes that the program takes lies at their beginnings
--     aside_known        it is a sound pool
--     aside_pool         and the pool that they mean
-- Assumes nothing.
use Prim.Native.Nat.{◌+◌, ◌*◌}
use mathlib.Core.Path.{◌≡◌, sym, ap, ◌∙◌, subst}
use mathlib.Core.Bool.{true}
use native.Mathlib.Omega.{arith}
use Rattle.std.proofs.lemmas.List.{take-replicate}
use Rattle.rules.specs.declared.Sizes.{Sizes}
use Rattle.rules.specs.declared.Collector.{Collector}
use Rattle.rules.specs.Size.{in_range, links}
use Rattle.rules.specs.Pool.{fresh}
use Rattle.soundness.proofs.Kept.{fresh_is_sound}
use Rattle.tables.specs.Bits.{word_count}
use Rattle.tables.specs.Tables.{Tables}
use Rattle.tables.specs.Lie.{room, pool_of, tables_of}
use Rattle.tables.specs.Known.{Known}
use Rattle.tables.proofs.RoundTrip.{pool_of_tables, sound_known}
use Rattle.fresh.proofs.Zero.{zero_tables, fresh-zero}
use Rattle.parts.specs.Arrays.{is_small, front, aside}
use Rattle.parts.proofs.Front.{small, links_few, registers_few, logs_few}

-- the collector's record of a fresh pool
abbrev pub at_rest : Collector
at_rest = record { phase = 0; position = 0; closed = 0 }

module _ (s : Sizes) (h : is_small s ≡ true) where
  pub aside_is_fresh : front s aside ≡ tables_of s (fresh s)
  unfolding front aside zero_tables
  aside_is_fresh =
      (λ j.
      record {
        used = take-replicate (word_count s.n) 1 0 (omega (arith, (small s h).n)) j;
        counts = take-replicate s.n 64 0 (omega (arith, (small s h).n)) j;
        held = take-replicate (word_count s.n) 1 0 (omega (arith, (small s h).n)) j;
        candidates = take-replicate (word_count s.n) 1 0 (omega (arith, (small s h).n)) j;
        makers = take-replicate s.n 64 0 (omega (arith, (small s h).n)) j;
        values = take-replicate (links s) 264 0 (links_few s h) j;
        changed = take-replicate (word_count (links s)) 5 0 (omega (arith, links_few s h)) j;
        registers = take-replicate (s.w * s.r + 1) 33 0 (registers_few s h) j;
        snoops = take-replicate s.w 4 0 (omega (arith, (small s h).w)) j;
        logs = take-replicate (s.w * room s) 2112 0 (logs_few s h) j;
        history = take-replicate (room s) 528 0 (omega (arith, links_few s h)) j;
        lengths = take-replicate (s.w + 1) 5 0 (omega (arith, (small s h).w)) j;
      })
      ∙ sym (fresh-zero s)

  pub aside_known : in_range s ≡ true → Known s (front s aside) at_rest
  unfolding fresh
  aside_known range = subst (λ (t : Tables). Known s t at_rest) (sym aside_is_fresh) (sound_known s range (fresh s) (fresh_is_sound s))

  pub aside_pool : pool_of s (front s aside) at_rest ≡ fresh s
  unfolding fresh
  aside_pool =
      let sound = fresh_is_sound s in
      ap (λ (t : Tables). pool_of s t at_rest) aside_is_fresh ∙ pool_of_tables s (fresh s) sound.shaped sound.log_length sound.history_length
