-- The check as it goes: what `inspected` tells.
--     LinksFit            what `links_fit` tells
--     inspected_tells     the whole check
-- The list lengths are tested so that what is noted stays apart; of a pool in which the marks are right they are at most S anyway. Assumes nothing.
use Prim.Native.Nat.{ℕ, ◌*◌, ◌≤◌, ◌<◌}
use mathlib.Core.Path.{◌≡◌, subst}
use mathlib.Core.Logic.Iff
use mathlib.Core.Bool.{true}
use native.Mathlib.Omega.{arith}
use lib.ListN.{get_or, drop}
use Rattle.rules.specs.declared.Sizes.{Sizes}
use Rattle.rules.specs.declared.LinkNumber.{LinkNumber}
use Rattle.rules.specs.declared.Collector.{Collector}
use Rattle.rules.specs.Size.{in_range, links}
use Rattle.rules.specs.Pool.{Pool}
use Rattle.rules.specs.Sound.{Each, positions, counts_for}
use Rattle.laws.proofs.Lists.{Each-places}
use Rattle.soundness.proofs.Core.{core, sound}
use Rattle.tables.specs.Bits.{Packed}
use Rattle.tables.specs.Tables.{Tables}
use Rattle.tables.specs.Lie.{pool_of}
use Rattle.tables.specs.Known.{Exact, block, Padded, SoundTables}
use Rattle.tables.proofs.RoundTrip.{length_known}
use Rattle.tables.proofs.Stand.{history_length}
use Rattle.clauses.specs.Inspected.{phase_fits, padded_logs, links_fit, inspected}
use Rattle.clauses.proofs.Tests.{Tells, most_tells, ◌and◌, ◌then◌, ◌also◌, every_tells, below_tells}
use Rattle.clauses.proofs.IsSound.{packed_tells, zeros_tell, pool_shaped}
use Rattle.clauses.proofs.Phase.{FitsPhase, phase_tells}
use Rattle.clauses.proofs.Numbers.{NumbersFit, numbers_tell}
use Rattle.clauses.proofs.Links.{Ranged, Right, Counted, ranged_tells, right_tells, counted_tells}

pub record LinksFit (s : Sizes) (t : Tables) (p : Pool) : Type 0 where
  pub range : Ranged s p
  pub padded : Padded s t
  pub marks : Packed (links s) t.changed
  pub right : (l : LinkNumber) → l.0 < links s → Right p l
  pub counts : Counted s p

module _ (s : Sizes) (t : Tables) (c : Collector) (sizes : in_range s ≡ true) (exact : Exact s t) where
  abbrev p : Pool
  p = pool_of s t c

  fits_tells : Tells (phase_fits s c (get_or t.lengths s.w 0)) (FitsPhase s p.history c.phase c.position)
  fits_tells =
      subst (λ (n : ℕ). Tells (phase_fits s c n) (FitsPhase s p.history c.phase c.position)) (history_length s t c) (phase_tells s p.history c)

  links_tell : Each (λ n. n ≤ links s) t.lengths → FitsPhase s p.history c.phase c.position → Tells (links_fit s t c) (LinksFit s t p)
  unfolding links_fit padded_logs
  links_tell lengths fits =
      Iff.trans
      (ranged_tells s t c sizes exact lengths fits
      and below_tells s.w (λ w _. zeros_tell (drop (get_or t.lengths w 0 * 2) (block s t w)))
      and zeros_tell (drop (get_or t.lengths s.w 0 * 2) t.history)
      and packed_tells (links s) t.changed
      then (λ (((range, _), _), _). right_tells s t c sizes exact lengths fits range)
      then (λ ((((range, _), _), _), right). counted_tells s t c sizes exact lengths fits range right)) (
        λ (((((range, logs), history), marks), right), counts).
            record { range = range; padded = record { logs = logs; history = history }; marks = marks; right = right; counts = counts },
        λ x. x.range also x.padded.logs also x.padded.history also x.marks also x.right also x.counts,
      )

  -- ---- from the parts to a sound pool, and back

  sound_of : FitsPhase s p.history c.phase c.position → NumbersFit s t c → LinksFit s t p → SoundTables s t c
  unfolding positions pool_of counts_for
  sound_of fits numbers ls =
      record {
        marked =
            record { used = numbers.used; held = numbers.held; candidates = numbers.candidates; changed = ls.marks; snoops = numbers.snoops };
        padded = ls.padded;
        sound =
            sound
            (record {
              shaped = pool_shaped c exact;
              registers = numbers.registers;
              last = numbers.last;
              values = ls.range.values;
              logs = ls.range.logs;
              history = ls.range.history;
              makers = numbers.makers;
              once = λ l k. (ls.right l k).once;
              marks = λ l k. (ls.right l k).mark;
              counts = ls.counts;
            })
            fits.most
            fits.inside
            fits.empty
            fits.entries;
      }

  module _ (x : SoundTables s t c) where
    lengths_of : Each (λ n. n ≤ links s) t.lengths
    lengths_of =
        Each-places (λ n. n ≤ links s) 0 t.lengths
        (λ w k. length_known {s = s} {t = t} {c = c} (record { sizes = sizes; exact = exact; tables = x }) w (omega (arith, exact.lengths)))

    fits_of : FitsPhase s p.history c.phase c.position
    unfolding positions pool_of
    fits_of = record { most = x.sound.phase; inside = x.sound.position; empty = x.sound.history_empty; entries = x.sound.history_entries }

    numbers_of_lem : NumbersFit s t c
    numbers_of_lem =
        record {
          used = x.marked.used;
          held = x.marked.held;
          candidates = x.marked.candidates;
          makers = x.sound.makers;
          registers = x.sound.registers;
          last = x.sound.last;
          snoops = x.marked.snoops;
        }

    links_of : LinksFit s t p
    links_of =
        record {
          range = record { history = x.sound.history; values = x.sound.values; logs = x.sound.logs };
          padded = x.padded;
          marks = x.marked.changed;
          right = λ l k. record { mark = (core x.sound).marks l k; once = x.sound.once l k };
          counts = x.sound.counts;
        }

  pub inspected_tells : Tells (inspected s t c) (SoundTables s t c)
  unfolding inspected
  inspected_tells =
      Iff.trans
      (every_tells (λ n. most_tells n (links s)) t.lengths
      and fits_tells
      and numbers_tell s t c exact
      then (λ ((lengths, fits), _). links_tell lengths fits)) (
        λ (((_, fits), numbers), ls). sound_of fits numbers ls,
        λ x. lengths_of x also fits_of x also numbers_of_lem x also links_of x,
      )
