-- What the code of phase 5 rests on, in its tables: the history entry at the position, and the view value of its link.
--     history_entries     how many entries the history has
--     entry_here_lem      the entry, by its two numbers
--     Ready, ready        its numbers are in range, the count that falls is not 0, the look-up has its one entry, and the count that rises has room
-- Assumes nothing.
use Prim.Native.Nat.{ℕ, zero, suc, ◌+◌, ◌-◌, ◌*◌, ◌≤◌, ◌<◌, zero-le}
use mathlib.Core.Path.{◌≡◌, sym, ap, ◌∙◌, subst}
use mathlib.Core.Logic.{inr, ⊎_elim}
use mathlib.Core.Bool.{true}
use mathlib.Core.List.{List}
use native.Mathlib.Omega.{arith}
use lib.ListN.{length, get_or}
use Rattle.rules.specs.declared.Sizes.{Sizes}
use Rattle.rules.specs.declared.Collector.{Collector}
use Rattle.rules.specs.Size.{links}
use Rattle.rules.specs.Pool.{Entry, Pool, of_record, count_at}
use Rattle.rules.specs.View.{all_logs, view_value}
use Rattle.rules.specs.Collect.{entry_here}
use Rattle.rules.specs.Sound.{Sound, EntryInRange}
use Rattle.tables.specs.Tables.{Tables}
use Rattle.tables.specs.Bits.{word_count, mark_at}
use Rattle.tables.specs.Lie.{pool_of}
use Rattle.tables.specs.Known.{Known}
use Rattle.tables.specs.Counted.{fewer}
use Rattle.tables.proofs.Entered.{entry_in}
use Rattle.tables.proofs.RoundTrip.{length_known}
use Rattle.tables.proofs.Stand.{changed_stands, history_length, entry_stands}
use Rattle.laws.proofs.Number.{bounds, links_most}
use Rattle.laws.proofs.Lists.{with_record_cases, length-with_record}
use Rattle.soundness.proofs.Core.{core, view_low}
use Rattle.soundness.proofs.Known.{entry_there, entry_below, count_most, old_has_count, one_entry}
use Rattle.count.specs.Looked.{OneEntry}

-- a count that falls, in its table: no count is more than it was
fewer_most : (a b : ℕ) (counts : List ℕ) → of_record (fewer a counts) b 0 ≤ of_record counts b 0
unfolding fewer
fewer_most a b counts =
    ⊎_elim
    (λ e. omega (arith, e))
    (λ e. omega (arith, e.1, ap (λ (k : ℕ). of_record counts k 0) e.0))
    (with_record_cases counts a (of_record counts a 0 - 1) b 0)

length-fewer : (a : ℕ) (counts : List ℕ) → length (fewer a counts) ≡ length counts
unfolding fewer
length-fewer a counts = length-with_record counts a (of_record counts a 0 - 1)

-- what the code asks of the tables, with the history's length at place w and the entry at position i
pub record Ready (s : Sizes) (t : Tables) (c : Collector) (w i : ℕ) : Type 0 where
  pub worker : w ≤ 8
  pub lengths : w < length t.lengths
  pub history : get_or t.lengths w 0 * 2 ≤ length t.history
  pub entry : i * 2 + 1 < length t.history
  pub position : c.position < 8208
  -- the count that falls
  pub old : (entry_in t.history i).old.0 ≤ length t.counts
  pub candidates : length t.candidates ≡ word_count (length t.counts)
  pub counted : 1 ≤ (entry_in t.history i).old.0 → 1 ≤ of_record t.counts (entry_in t.history i).old.0 0
  -- the view value
  pub link : (entry_in t.history i).link.0 < links s
  pub value : length t.values ≡ links s
  pub mark : length t.changed ≡ word_count (links s)
  pub one : mark_at t.changed (entry_in t.history i).link.0 ≡ true → OneEntry s t.logs t.lengths (entry_in t.history i).link
  -- its count, which rises once that of the old value fell
  pub view : (view_value (pool_of s t c) (entry_in t.history i).link).0 ≤ length (fewer (entry_in t.history i).old.0 t.counts)
  pub room : of_record (fewer (entry_in t.history i).old.0 t.counts) (view_value (pool_of s t c) (entry_in t.history i).link).0 0 < 65535

module _ {s : Sizes} {t : Tables} {c : Collector} (known : Known s t c) (phase : c.phase ≡ 5) {w i : ℕ} (worker : w ≡ s.w) (position : i ≡ c.position) where
  abbrev p : Pool
  p = pool_of s t c

  abbrev sound : Sound s p
  sound = known.tables.sound

  abbrev here : Entry
  here = entry_in t.history i

  pub history_entries : get_or t.lengths w 0 ≡ length p.history
  history_entries = ap (λ (k : ℕ). get_or t.lengths k 0) worker ∙ sym (history_length s t c)

  there : i < get_or t.lengths w 0
  unfolding pool_of
  there = omega (arith, entry_there sound (inr phase), history_entries)

  pub entry_here_lem : entry_here p ≡ here
  unfolding pool_of
  entry_here_lem =
      entry_stands s t c c.position (omega (arith, there, ap (λ (k : ℕ). get_or t.lengths k 0) worker)) ∙ ap (entry_in t.history) (sym position)

  in_range_lem : EntryInRange s here
  unfolding pool_of
  in_range_lem = subst (EntryInRange s) entry_here_lem (entry_below sound (inr phase))

  -- none has no count
  count_low : (a : ℕ) → a ≤ s.n → of_record t.counts a 0 ≤ links s
  unfolding pool_of
  count_low zero h = zero-le
  count_low (suc a) h = count_most sound (record { 0 = suc a }) (omega arith) h

  pub ready : Ready s t c w i
  unfolding pool_of all_logs
  ready =
      let exact = known.exact in
      let few : get_or t.lengths w 0 ≤ links s = length_known known w (omega arith) in
      let most : links s ≤ 8208 = links_most s known.sizes in
      let v : ℕ = (view_value p here.link).0 in
      let low : v ≤ s.n = view_low (core sound) here.link in
      record {
        worker = omega (arith, (bounds s known.sizes).w_most);
        lengths = omega (arith, exact.lengths);
        history = omega (arith, exact.history);
        entry = omega (arith, exact.history, there);
        position = omega (arith, there);
        old = omega (arith, exact.counts, in_range_lem.old);
        candidates = exact.candidates ∙ ap word_count (sym exact.counts);
        counted = subst (λ (e : Entry). 1 ≤ e.old.0 → 1 ≤ count_at p e.old) entry_here_lem (old_has_count sound phase);
        link = in_range_lem.link;
        value = exact.values;
        mark = exact.changed;
        one =
            λ on.
            record {
              sizes = known.sizes;
              logs = exact.logs;
              lengths = exact.lengths;
              low = length_known known;
              one = one_entry sound here.link phase in_range_lem.link (changed_stands s t c here.link in_range_lem.link ∙ on);
            };
        view = omega (arith, exact.counts, length-fewer here.old.0 t.counts);
        room = omega (arith, fewer_most here.old.0 v t.counts, count_low v low);
      }
