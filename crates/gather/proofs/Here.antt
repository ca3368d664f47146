-- What known tables have at the collector's position.
--     position_known     the position is one of the phase's
--     onward_asks        what `advance::onward` asks of the collector's record
--     room_known         phase 2: the history has room for the worker's log
--     entry_inside, entry_known     phases 3 and 5: the history entry, by its two numbers
--     row_known          phase 4: the worker's registers have record numbers
-- Assumes nothing.
use Prim.Native.Nat.{ℕ, ◌+◌, ◌*◌, ◌≤◌, ◌<◌}
use mathlib.Core.Path.{◌≡◌, ap, ◌∙◌, subst}
use mathlib.Core.Logic.{◌⊎◌}
use mathlib.Core.List.{List, [], ◌∷◌}
use native.Mathlib.Omega.{arith}
use lib.ListN.{length, get_or, take, drop, get_or-map}
use Rattle.rules.specs.declared.Sizes.{Sizes}
use Rattle.rules.specs.declared.RecordNumber.{RecordNumber}
use Rattle.rules.specs.declared.Collector.{Collector}
use Rattle.rules.specs.Size.{links}
use Rattle.rules.specs.Pool.{Pool, none}
use Rattle.rules.specs.Collect.{entry_here}
use Rattle.rules.specs.Sound.{Each, EntryInRange, Sound}
use Rattle.laws.proofs.Number.{bounds, links_most}
use Rattle.laws.proofs.Lists.{Each-at, Each-places}
use Rattle.soundness.proofs.Core.{positions_in, position_in}
use Rattle.soundness.proofs.Known.{entry_there, entry_below, history_has_room}
use Rattle.tables.specs.Tables.{Tables}
use Rattle.tables.specs.Lie.{record_number, pool_of}
use Rattle.tables.specs.Known.{Known}
use Rattle.tables.proofs.Entered.{entry_in}
use Rattle.tables.proofs.Stand.{row-stands, log_length, history_length, entry_stands}
use Rattle.advance.specs.Moved.{Movable}

module _ {s : Sizes} {t : Tables} {c : Collector} (known : Known s t c) where
  abbrev p : Pool
  p = pool_of s t c

  abbrev sound : Sound s p
  sound = known.tables.sound

  pub position_known : (k : ℕ) → c.phase ≡ k → c.position < positions_in s k p.history
  unfolding pool_of
  position_known k e = position_in sound k e

  -- no phase has more positions than S, or than there are workers
  pub onward_asks : (k : ℕ) → k ≤ 5 → c.phase ≡ k → Movable c
  onward_asks k h e =
      let m : ℕ = length p.history in
      let workers : s.w ≤ 8208 = omega (arith, (bounds s known.sizes).w_most) in
      let entries : m ≤ 8208 = omega (arith, sound.history_length, links_most s known.sizes) in
      let most : positions_in s k p.history ≤ 8208 =
      Each-at (λ n. n ≤ 8208) (1 ∷ s.w ∷ s.w ∷ m ∷ s.w ∷ m ∷ []) k 1 (omega arith)
      (omega arith, (workers, (workers, (entries, (workers, (entries, tt)))))) in
      (omega arith, omega (arith, position_known k e))

  pub room_known : c.phase ≡ 2 → get_or t.lengths s.w 0 + get_or t.lengths c.position 0 ≤ links s
  unfolding pool_of
  room_known e =
      let worker = position_known 2 e in
      omega (arith, history_has_room sound c.position e worker, history_length s t c, log_length s t c known c.position worker)

  pub entry_inside : (c.phase ≡ 3) ⊎ (c.phase ≡ 5) → c.position < links s
  unfolding pool_of
  entry_inside e = omega (arith, entry_there sound e, sound.history_length)

  pub entry_known : (c.phase ≡ 3) ⊎ (c.phase ≡ 5)
      → (entry_here p ≡ entry_in t.history c.position) × EntryInRange s (entry_in t.history c.position)
  unfolding pool_of
  entry_known e =
      let here : entry_here p ≡ entry_in t.history c.position =
      entry_stands s t c c.position (omega (arith, entry_there sound e, history_length s t c)) in
      (here, subst (EntryInRange s) here (entry_below sound e))

  pub row_known : c.phase ≡ 4 → Each (λ a. a ≤ s.n) (take s.r (drop (c.position * s.r) t.registers))
  row_known e =
      let w : ℕ = c.position in
      let row : List ℕ = take s.r (drop (w * s.r) t.registers) in
      Each-places (λ a. a ≤ s.n) 0 row
      (λ i inside.
      subst (λ (a : RecordNumber). a.0 ≤ s.n)
      (ap (λ (names : List RecordNumber). get_or names i none) (row-stands s t c w (position_known 4 e)) ∙ get_or-map record_number row i 0)
      (sound.registers w i))
