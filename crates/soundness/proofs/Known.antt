-- What the code rests on: facts of every sound pool, each a law of its own.
--     register_inside, value_inside     a record number that is not none is within the tables
--     link_below          a link of the record in a register has a number below S
--     entry_there, entry_below     phases 3 and 5: the position has a history entry, whose numbers are in range
--     count_most          no count passes S
--     old_has_count       phase 5: the count that falls is not 0
--     value_has_count     phase 6: nor is any that falls while links are emptied
--     history_has_room    phase 2: the history has room for the log that is added
--     one_entry           phase 5: the one entry that the view value looks for exists and is the only one
-- Assumes nothing.
use Prim.Native.Nat.{ℕ, ◌+◌, ◌-◌, ◌≤◌, ◌<◌}
use mathlib.Core.Path.{◌≡◌, refl, ap, ◌∙◌}
use mathlib.Core.Logic.{◌⊎◌, inl, inr}
use mathlib.Core.Bool.{Bool, true, false}
use mathlib.Core.List.{List, []}
use native.Mathlib.Omega.{arith}
use borrow.Author.Tests.{eq-eqb}
use lib.ListN.{length, get_or, length-append}
use Rattle.rules.specs.declared.Sizes.{Sizes}
use Rattle.rules.specs.declared.RecordNumber.{RecordNumber}
use Rattle.rules.specs.declared.LinkNumber.{LinkNumber}
use Rattle.rules.specs.Size.{links, link_number}
use Rattle.rules.specs.Pool.{Pool, count_at, value_at, changed_at, register_at, log_at}
use Rattle.rules.specs.View.{bit, times, all_logs}
use Rattle.rules.specs.Collect.{no_entry, entry_here, falls, is_unchanged, emptied, emptied_from}
use Rattle.rules.specs.Sound.{Sound, EntryInRange, counts_for}
use Rattle.laws.proofs.Number.{link_inside}
use Rattle.laws.proofs.Change.{emptied_keeps}
use Rattle.laws.proofs.Lists.{Each-at}
use Rattle.laws.proofs.Tally.{tally_most}
use Rattle.soundness.proofs.Core.{Core, core_in, position_in, history_room}
use Rattle.soundness.proofs.Take.{core_taken}
use Rattle.soundness.proofs.Count.{old_counted, value-counted}
use Rattle.soundness.proofs.Reclaim.{core_emptied_from}

module _ {s : Sizes} {p : Pool} (h : Sound s p) where
  -- a record number that is not none stands at its place less one in every table of the records, each of which has N
  pub register_inside : (w r : ℕ) → 1 ≤ (register_at p w r).0 → (register_at p w r).0 - 1 < s.n
  register_inside w r some = omega (arith, h.registers w r)

  pub value_inside : (l : LinkNumber) → 1 ≤ (value_at p l).0 → (value_at p l).0 - 1 < s.n
  value_inside l some = omega (arith, h.values l)

  pub link_below : (w q f : ℕ) → 1 ≤ (register_at p w q).0 → f < s.k → (link_number s (register_at p w q) f).0 < links s
  link_below w q f some k = link_inside s (register_at p w q) f some (h.registers w q) k

  -- in phases 3 and 5 the position is one of the history's
  pub entry_there : (p.collector.phase ≡ 3) ⊎ (p.collector.phase ≡ 5) → p.collector.position < length p.history
  entry_there (inl e) = position_in h 3 e
  entry_there (inr e) = position_in h 5 e

  pub entry_below : (p.collector.phase ≡ 3) ⊎ (p.collector.phase ≡ 5) → EntryInRange s (entry_here p)
  entry_below e = Each-at (EntryInRange s) p.history p.collector.position no_entry (entry_there e) h.history

  pub count_most : (a : RecordNumber) → 1 ≤ a.0 → a.0 ≤ s.n → count_at p a ≤ links s
  count_most a some low = omega (arith, h.counts a some low, tally_most (counts_for p) (links s) a)

  pub old_has_count : p.collector.phase ≡ 5 → 1 ≤ (entry_here p).old.0 → 1 ≤ count_at p (entry_here p).old
  old_has_count e some =
      let old : RecordNumber = (entry_here p).old in
      omega (arith, old_counted p.collector.position (core_in h 5 e) (entry_there (inr e)) no_entry old some (entry_below (inr e)).old, ap bit (eq-eqb old.0 old.0 refl))

  pub history_has_room : (w : ℕ) → p.collector.phase ≡ 2 → w < s.w → length p.history + length (log_at p w) ≤ links s
  history_has_room w e k = omega (arith, history_room (core_taken (core_in h 2 e) w k), length-append p.history (log_at p w))

  pub one_entry : (l : LinkNumber) → p.collector.phase ≡ 5 → l.0 < links s → changed_at p l ≡ true → times l (all_logs p) ≡ 1
  unfolding times
  one_entry l e k on = omega (arith, (core_in h 5 e).marks l k, ap bit on)

  -- an unchanged link f of a record, once the unchanged links before it are emptied
  pub value_has_count : (a : RecordNumber) (f : ℕ) → p.collector.phase ≡ 6 → 1 ≤ a.0 → a.0 ≤ s.n → f < s.k → changed_at p (link_number s a f) ≡ false
      → let q : Pool = emptied_from (is_unchanged p) s a 0 f p in 1 ≤ (value_at q (link_number s a f)).0 → 1 ≤ count_at q (value_at q (link_number s a f))
  unfolding emptied falls
  value_has_count a f e some low k off there =
      let q : Pool = emptied_from (is_unchanged p) s a 0 f p in
      let l : LinkNumber = link_number s a f in
      let v : RecordNumber = value_at q l in
      let c : Core s q [] [] = core_emptied_from s a p (core_in h 6 e) some low f (omega arith) in
      let still-off : changed_at q l ≡ false =
      ap (λ (marks : List Bool). get_or marks l.0 false) (emptied_keeps (is_unchanged p) s a (λ q. q.links.changed) (λ l q. refl) 0 f p) ∙ off in
      omega (arith, value-counted c l (link_inside s a f some low k) still-off v there (c.values l), ap bit (eq-eqb v.0 v.0 refl))
