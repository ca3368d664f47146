-- The pool at the arrays' beginnings.
--     Small, small              the sizes that the program takes
--     links_few, registers_few, logs_few     how much room their tables take
--     within                    a pool of these sizes has room in the arrays
--     back                      the arrays with other tables at their beginnings
--     front_back, long_back     these lie there then, and the arrays keep their lengths
--     ran_known, runs_back      the events of a stretch, done on the pool there
-- Assumes nothing.
use Prim.Native.Nat.{ℕ, ◌+◌, ◌*◌, ◌≤◌}
use mathlib.Core.Path.{◌≡◌, sym, ◌∙◌, subst}
use mathlib.Core.Bool.{Bool, true, ◌&&◌}
use mathlib.Core.List.{List, ◌++◌}
use native.Mathlib.Omega.{arith}
use native.Mathlib.Nat.{mul-le-mul_left}
use borrow.Author.Tests.{leb-true}
use lib.Dec.{leb}
use lib.ListN.{length, drop}
use lib.Seq.{length-take-le, length_front, take_at}
use Rattle.rules.specs.declared.Sizes.{Sizes}
use Rattle.rules.specs.declared.Collector.{Collector}
use Rattle.rules.specs.Size.{links}
use Rattle.rules.specs.Pool.{Pool}
use Rattle.rules.specs.Outcome.{after}
use Rattle.rules.specs.Sound.{Sound}
use Rattle.laws.proofs.Tests.{and_left, and_right}
use Rattle.laws.proofs.Runs.{run_keeps}
use Rattle.soundness.proofs.Kept.{event_keeps_sound}
use Rattle.tables.specs.Bits.{word_count}
use Rattle.tables.specs.Tables.{Tables}
use Rattle.tables.specs.Lie.{room, pool_of}
use Rattle.tables.specs.Known.{Exact, Known}
use Rattle.tables.proofs.RoundTrip.{sound_known}
use Rattle.trace.specs.Stretch.{stretch, RanOn, ran_on}
use Rattle.parts.specs.Arrays.{is_small, front, Long, Within, Runs}

-- ---- the sizes

-- "it takes N up to 64, K up to 4, W up to 4, R up to 8", and "B up to 8" (document 02, request 5)
pub record Small (s : Sizes) : Type 0 where
  pub n : s.n ≤ 64
  pub k : s.k ≤ 4
  pub w : s.w ≤ 4
  pub r : s.r ≤ 8
  pub b : s.b ≤ 8

pub small : (s : Sizes) → is_small s ≡ true → Small s
unfolding is_small
small s h =
    let n : Bool = leb s.n 64 in
    let k : Bool = leb s.k 4 in
    let w : Bool = leb s.w 4 in
    let r : Bool = leb s.r 8 in
    let nkwr : (n && k && w && r) ≡ true = and_left (n && k && w && r) (leb s.b 8) h in
    let nkw : (n && k && w) ≡ true = and_left (n && k && w) r nkwr in
    let nk : (n && k) ≡ true = and_left (n && k) w nkw in
    record {
      n = leb-true s.n 64 (and_left n k nk);
      k = leb-true s.k 4 (and_right n k nk);
      w = leb-true s.w 4 (and_right (n && k) w nkw);
      r = leb-true s.r 8 (and_right (n && k && w) r nkwr);
      b = leb-true s.b 8 (and_right (n && k && w && r) (leb s.b 8) h);
    }

-- how much room they take
module _ (s : Sizes) (h : is_small s ≡ true) where
  pub links_few : links s ≤ 264
  unfolding links
  links_few = omega (arith, mul-le-mul_left s.n (small s h).k, (small s h).n, (small s h).b)

  pub registers_few : s.w * s.r + 1 ≤ 33
  registers_few = omega (arith, mul-le-mul_left s.w (small s h).r, (small s h).w)

  pub logs_few : s.w * room s ≤ 2112
  logs_few = omega (arith, mul-le-mul_left s.w (let few : room s ≤ 528 = omega (arith, links_few) in few), (small s h).w)

pub within : (s : Sizes) (t : Tables) → is_small s ≡ true → Long t → Within s t
within s t h long =
    let few = small s h in
    record {
      used = omega (arith, long.used, few.n);
      counts = omega (arith, long.counts, few.n);
      held = omega (arith, long.held, few.n);
      candidates = omega (arith, long.candidates, few.n);
      makers = omega (arith, long.makers, few.n);
      values = omega (arith, long.values, links_few s h);
      changed = omega (arith, long.changed, links_few s h);
      registers = omega (arith, long.registers, registers_few s h);
      snoops = omega (arith, long.snoops, few.w);
      logs = omega (arith, long.logs, logs_few s h);
      history = omega (arith, long.history, links_few s h);
      lengths = omega (arith, long.lengths, few.w);
    }

-- ---- tables put back at the beginnings

abbrev pub back : Sizes → Tables → Tables → Tables
back s t x =
    record {
      used = x.used ++ drop (word_count s.n) t.used;
      counts = x.counts ++ drop s.n t.counts;
      held = x.held ++ drop (word_count s.n) t.held;
      candidates = x.candidates ++ drop (word_count s.n) t.candidates;
      makers = x.makers ++ drop s.n t.makers;
      values = x.values ++ drop (links s) t.values;
      changed = x.changed ++ drop (word_count (links s)) t.changed;
      registers = x.registers ++ drop (s.w * s.r + 1) t.registers;
      snoops = x.snoops ++ drop s.w t.snoops;
      logs = x.logs ++ drop (s.w * room s) t.logs;
      history = x.history ++ drop (room s) t.history;
      lengths = x.lengths ++ drop (s.w + 1) t.lengths;
    }

-- one table keeps its length
same_long : (d e : List ℕ) {n m : ℕ} → n ≤ length d → length e ≡ n → length d ≡ m → length (e ++ drop n d) ≡ m
same_long d e {n} inside exact long = length_front d e n (exact ∙ sym (length-take-le n d inside)) ∙ long

module _ {s : Sizes} (t : Tables) {x : Tables} (exact : Exact s x) where
  pub front_back : front s (back s t x) ≡ x
  unfolding front
  front_back =
      λ j.
      record {
        used = take_at x.used (drop (word_count s.n) t.used) (word_count s.n) exact.used j;
        counts = take_at x.counts (drop s.n t.counts) s.n exact.counts j;
        held = take_at x.held (drop (word_count s.n) t.held) (word_count s.n) exact.held j;
        candidates = take_at x.candidates (drop (word_count s.n) t.candidates) (word_count s.n) exact.candidates j;
        makers = take_at x.makers (drop s.n t.makers) s.n exact.makers j;
        values = take_at x.values (drop (links s) t.values) (links s) exact.values j;
        changed = take_at x.changed (drop (word_count (links s)) t.changed) (word_count (links s)) exact.changed j;
        registers = take_at x.registers (drop (s.w * s.r + 1) t.registers) (s.w * s.r + 1) exact.registers j;
        snoops = take_at x.snoops (drop s.w t.snoops) s.w exact.snoops j;
        logs = take_at x.logs (drop (s.w * room s) t.logs) (s.w * room s) exact.logs j;
        history = take_at x.history (drop (room s) t.history) (room s) exact.history j;
        lengths = take_at x.lengths (drop (s.w + 1) t.lengths) (s.w + 1) exact.lengths j;
      }

  pub long_back : Within s t → Long t → Long (back s t x)
  long_back fits long =
      record {
        used = same_long t.used x.used fits.used exact.used long.used;
        counts = same_long t.counts x.counts fits.counts exact.counts long.counts;
        held = same_long t.held x.held fits.held exact.held long.held;
        candidates = same_long t.candidates x.candidates fits.candidates exact.candidates long.candidates;
        makers = same_long t.makers x.makers fits.makers exact.makers long.makers;
        values = same_long t.values x.values fits.values exact.values long.values;
        changed = same_long t.changed x.changed fits.changed exact.changed long.changed;
        registers = same_long t.registers x.registers fits.registers exact.registers long.registers;
        snoops = same_long t.snoops x.snoops fits.snoops exact.snoops long.snoops;
        logs = same_long t.logs x.logs fits.logs exact.logs long.logs;
        history = same_long t.history x.history fits.history exact.history long.history;
        lengths = same_long t.lengths x.lengths fits.lengths exact.lengths long.lengths;
      }

-- ---- the events of a stretch

-- the tables that they leave are those of a sound pool
pub ran_known : {s : Sizes} {t : Tables} {c : Collector} → Known s t c → (bytes : List ℕ) (place step : ℕ) (room : List ℕ) {x : RanOn}
    → ran_on s t c bytes place step room ≡ x → Known s x.tables x.ran.collector
unfolding ran_on
ran_known {s} {t} {c} known bytes place step room run =
    let events = (stretch bytes place step).events in
    let q : Pool = after s (pool_of s t c) events in
    let sound : Sound s q = run_keeps s (Sound s) (event_keeps_sound s known.sizes) (pool_of s t c) known.tables.sound events in
    subst (λ (y : RanOn). Known s y.tables y.ran.collector) run (sound_known s known.sizes q sound)

module _ {s : Sizes} {t : Tables} {c : Collector} (fits : Within s t) (long : Long t) (known : Known s (front s t) c)
    (bytes : List ℕ) (place step : ℕ) (room : List ℕ) where
  pub runs_back : {x : RanOn} → ran_on s (front s t) c bytes place step room ≡ x
      → Runs s (ran_on s (front s t) c bytes place step room) x.ran (back s t x.tables) x.answers
  runs_back {x} run =
      let exact : Exact s x.tables = (ran_known known bytes place step room run).exact in
      record {
        long = long_back t exact fits long;
        same = run ∙ (λ j. record { ran = x.ran; tables = sym (front_back t exact) j; answers = x.answers });
      }
