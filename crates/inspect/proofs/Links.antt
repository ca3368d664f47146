-- The check of the links, put together from its parts.
--     parted                                                    where the collector's record parts the history
--     Cut, cut_order                                            the history, cut at these places
--     counted_part, cleared_part, uncleared_part, rest_part     the parts, as the code cuts them out
--     links_noted                                               what is noted after all of them
--     links_checked                                             the whole check
-- Assumes nothing.
use Prim.Native.Nat.{ℕ, ◌-◌, ◌*◌, ◌≤◌, ◌<◌, zero-le}
use mathlib.Core.Path.{◌≡◌, refl, sym, ap, ◌∙◌}
use mathlib.Core.Bool.{Bool, true, false, cond, ◌&&◌}
use mathlib.Core.List.{List, flatten}
use native.Mathlib.Omega.{arith}
use native.Mathlib.Nat.{le_refl}
use borrow.Author.Tests.{ltb-true, eqb-true}
use lib.Dec.{eqb}
use lib.ListN.{length, get_or, take, drop, replicate, length-drop}
use lib.Seq.{take_all}
use Rattle.rules.specs.declared.Sizes.{Sizes}
use Rattle.rules.specs.declared.Collector.{Collector}
use Rattle.rules.specs.Size.{links}
use Rattle.rules.specs.Pool.{Entry}
use Rattle.tables.specs.Tables.{Tables}
use Rattle.tables.specs.Lie.{entries, logs_in}
use Rattle.laws.proofs.Number.{links_most}
use Rattle.laws.proofs.Lists.{Each-at}
use Rattle.clauses.specs.IsSound.{every, is_packed, is_zero}
use Rattle.clauses.specs.Entered.{Noted, once, outstanding, entered_all}
use Rattle.clauses.specs.Tallied.{tallied}
use Rattle.clauses.specs.Inspected.{phase_fits, counted_to, uncleared_from, padded_logs, valued, noted_links, marks_match, counts_match, links_fit}
use Rattle.inspect.specs.Parts.{Fits}
use Rattle.tables.proofs.Rooms.{entries-take, entries_part, entries_between}

-- ---- where the history is parted

-- the counted part ends before the uncleared part begins
parted : (s : Sizes) (c : Collector) (n : ℕ) → phase_fits s c n ≡ true → (counted_to c ≤ uncleared_from c n) × (uncleared_from c n ≤ n)
unfolding phase_fits counted_to uncleared_from
parted s c n h = by_phase (eqb c.phase 5) (eqb c.phase 2) (eqb c.phase 3) refl refl refl
  where
    by_phase : (five two three : Bool) → eqb c.phase 5 ≡ five → eqb c.phase 2 ≡ two → eqb c.phase 3 ≡ three
        → (cond five c.position 0 ≤ cond two 0 (cond three c.position n)) × (cond two 0 (cond three c.position n) ≤ n)
    by_phase true true three e f g = absurd (omega (arith, eqb-true c.phase 5 e, eqb-true c.phase 2 f))
    by_phase true false true e f g = absurd (omega (arith, eqb-true c.phase 5 e, eqb-true c.phase 3 g))
    by_phase true false false e f g = let low : c.position < n = ltb-true c.position n (rw (eqb-true c.phase 5 e) at h) in (omega arith, le_refl n)
    by_phase false true three e f g = (zero-le, zero-le)
    by_phase false false true e f g = let low : c.position < n = ltb-true c.position n (rw (eqb-true c.phase 3 g) at h) in (zero-le, omega arith)
    by_phase false false false e f g = (zero-le, le_refl n)

-- ---- the history, cut there

abbrev entries_of : Sizes → Tables → ℕ
entries_of s t = get_or t.lengths s.w 0

-- the counted entries are those before `to`, the uncleared ones those from `from` on
pub record Cut (s : Sizes) (t : Tables) (c : Collector) (to from end : ℕ) : Type 0 where
  pub counted : to ≡ counted_to c
  pub uncleared : from ≡ uncleared_from c (entries_of s t)
  pub whole : end ≡ entries_of s t

module _ {s : Sizes} {t : Tables} {c : Collector} (fits : Fits s t c) {to from end : ℕ} (cut : Cut s t c to from end) where
  pub cut_order : (to ≤ from) × (from ≤ end) × (end ≤ 8208) × (end * 2 ≤ length t.history)
  cut_order =
      let n = entries_of s t in
      let ordered = parted s c n fits.phase in
      let low : n ≤ links s = Each-at (λ k. k ≤ links s) t.lengths s.w 0 (omega (arith, fits.exact.lengths)) fits.low in
      let most = links_most s fits.sizes in (
        omega (arith, ordered.0, cut.counted, cut.uncleared),
        omega (arith, ordered.1, cut.uncleared, cut.whole),
        omega (arith, cut.whole),
        omega (arith, cut.whole, fits.exact.history),
      )

  counted_part : take (counted_to c) (entries (entries_of s t) t.history) ≡ entries to (take (to * 2) t.history)
  counted_part =
      (λ j. take (sym cut.counted j) (entries (sym cut.whole j) t.history))
      ∙ entries-take to end t.history (omega (arith, cut_order))
      ∙ sym (entries_part to t.history)

  cleared_part : drop (counted_to c) (take (uncleared_from c (entries_of s t)) (entries (entries_of s t) t.history))
      ≡ entries (from - to) (take (from * 2 - to * 2) (drop (to * 2) t.history))
  cleared_part =
      (λ j. drop (sym cut.counted j) (take (sym cut.uncleared j) (entries (sym cut.whole j) t.history)))
      ∙ entries_between to from end t.history cut_order.0 cut_order.1

  uncleared_part : drop (uncleared_from c (entries_of s t)) (entries (entries_of s t) t.history)
      ≡ entries (end - from) (take (end * 2 - from * 2) (drop (from * 2) t.history))
  uncleared_part =
      (λ j. drop (sym cut.uncleared j) (entries (sym cut.whole j) t.history))
      ∙ ap (drop from) (sym (entries-take end end t.history (le_refl end)))
      ∙ entries_between from end end t.history cut_order.1 (le_refl end)

  -- past the history's length
  rest_part : take (length t.history - end * 2) (drop (end * 2) t.history) ≡ drop (entries_of s t * 2) t.history
  rest_part =
      take_all (length t.history - end * 2) (drop (end * 2) t.history) (omega (arith, length-drop (end * 2) t.history))
      ∙ ap (λ (n : ℕ). drop (n * 2) t.history) cut.whole

-- ---- the parts together

module _ {s : Sizes} {t : Tables} {c : Collector} (fits : Fits s t c) {to from end many : ℕ} (cut : Cut s t c to from end) (same : many ≡ links s)
    {counted taken logged cleared all : Noted}
    (first : entered_all (links s) s.n once (entries to (take (to * 2) t.history)) (record { ok = true; seen = replicate 8208 0; last = replicate 8208 0 }) ≡ counted)
    (second : valued s.n t.values counted ≡ taken)
    (third : entered_all (links s) s.n 1 (flatten (logs_in s t.logs t.lengths)) taken ≡ logged)
    (fourth : entered_all (links s) s.n once (entries (from - to) (take (from * 2 - to * 2) (drop (to * 2) t.history))) logged ≡ cleared)
    (fifth : entered_all (links s) s.n outstanding (entries (end - from) (take (end * 2 - from * 2) (drop (from * 2) t.history))) cleared ≡ all) where
  links_noted : noted_links s t c ≡ all
  unfolding noted_links
  links_noted =
      let n : ℕ = entries_of s t in
      let history : List Entry = entries n t.history in
      let enter : ℕ → List Entry → Noted → Noted = entered_all (links s) s.n in
      let logs : Noted → Noted = enter 1 (flatten (logs_in s t.logs t.lengths)) in
      let middle : Noted → Noted = enter once (drop (counted_to c) (take (uncleared_from c n) history)) in
      let rest : Noted → Noted = enter outstanding (drop (uncleared_from c n) history) in
      ap (λ (x : Noted). rest (middle (logs (valued s.n t.values x))))
      (ap (λ (es : List Entry). enter once es (record { ok = true; seen = replicate 8208 0; last = replicate 8208 0 })) (counted_part fits cut) ∙ first)
      ∙ ap (λ (x : Noted). rest (middle (logs x))) second
      ∙ ap (λ (x : Noted). rest (middle x)) third
      ∙ ap rest (ap (λ (es : List Entry). enter once es logged) (cleared_part fits cut) ∙ fourth)
      ∙ ap (λ (es : List Entry). enter outstanding es cleared) (uncleared_part fits cut)
      ∙ fifth

  pub links_checked : {padded zeros unused marked matched : Bool} {tally : List ℕ}
      → padded ≡ padded_logs s t.logs t.lengths
      → zeros ≡ every is_zero (take (length t.history - end * 2) (drop (end * 2) t.history))
      → unused ≡ is_packed many t.changed
      → marked ≡ marks_match many t.changed all.seen
      → tally ≡ tallied all.last many (replicate 8320 0)
      → matched ≡ counts_match t.counts tally
      → (all.ok && padded && zeros && unused && marked && matched) ≡ links_fit s t c
  unfolding links_fit
  links_checked p z f m l k =
      λ j.
      let x : Noted = sym links_noted j in
      x.ok
      && p j
      && (z ∙ ap (every is_zero) (rest_part fits cut)) j
      && (f ∙ ap (λ (n : ℕ). is_packed n t.changed) same) j
      && (m ∙ (λ j. marks_match (same j) t.changed (sym links_noted j).seen)) j
      && (k ∙ ap (counts_match t.counts) (l ∙ (λ j. tallied (sym links_noted j).last (same j) (replicate 8320 0)))) j
