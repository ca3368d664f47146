-- The clauses on links, from what is noted of each.
--     Ranged, ranged_tells       every entry and every value is in range
--     Right, right_tells         each mark is right, and no link stands twice in the history
--     Counted, counted_tells     each count is the tally of its record
-- Each rests on those before it: only of entries in range is each noted at its own place, and only where the marks are right is the last that is noted of a
-- link what it counts for. Assumes nothing.
use Prim.Native.Nat.{ℕ, suc, ◌+◌, ◌*◌, ◌%◌, ◌≤◌, ◌<◌, zero-le}
use mathlib.Core.Path.{◌≡◌, refl, sym, ap, ◌∙◌, subst}
use mathlib.Core.Logic.Iff
use mathlib.Core.Bool.{Bool, true, false, ◌&&◌}
use mathlib.Core.List.{List}
use native.Mathlib.Omega.{arith}
use native.Mathlib.Nat.{mul-le-mul_right}
use lib.Dec.{eqb, ltb}
use lib.ListN.{length, get_or, take, drop, replicate, take-append-drop}
use Rattle.rules.specs.declared.Sizes.{Sizes}
use Rattle.rules.specs.declared.LinkNumber.{LinkNumber}
use Rattle.rules.specs.declared.RecordNumber.{RecordNumber}
use Rattle.rules.specs.declared.Collector.{Collector}
use Rattle.rules.specs.Size.{in_range, links}
use Rattle.rules.specs.Pool.{Pool, none, value_at, changed_at, count_at}
use Rattle.rules.specs.View.{bit, times, old_in, all_logs, view_value, look_up}
use Rattle.rules.specs.Sound.{Each, EntryInRange, uncleared, uncounted, counts_for, tally}
use Rattle.laws.proofs.Number.{bounds, links_most}
use Rattle.laws.proofs.Tests.{bit_most}
use Rattle.laws.proofs.Lists.{Each-map, Each-at, Each-right}
use Rattle.laws.proofs.Entries.{times_from, old_in_else, old_in_absent, old_in_present, old_in_keeps}
use Rattle.laws.proofs.LookUp.{view_marked, view_unmarked, view_keeps}
use Rattle.laws.proofs.Tally.{tally_same}
use Rattle.tables.specs.Bits.{mark_at}
use Rattle.tables.specs.Tables.{Tables}
use Rattle.tables.specs.Lie.{record_number, link_number_of, pool_of}
use Rattle.tables.specs.Known.{Exact}
use Rattle.tables.proofs.Logs.{all_joined_most}
use Rattle.tables.proofs.Stand.{history_length, value-stands, changed_stands}
use Rattle.clauses.specs.Entered.{Noted}
use Rattle.clauses.specs.Tallied.{tallied, tally_of}
use Rattle.clauses.specs.Inspected.{counted_to, uncleared_from, noted_links, marks_match, counts_match}
use Rattle.clauses.proofs.Tests.{Tells, equal_tells, less_tells, ◌and◌, below_tells}
use Rattle.clauses.proofs.Places.{every_record}
use Rattle.clauses.proofs.Phase.{FitsPhase, Parted, parted}
use Rattle.clauses.proofs.Entries.{times-length, times_later}
use Rattle.clauses.proofs.Noted.{noted_tells, noted_seen, noted_last}
use Rattle.clauses.proofs.Numbers.{values_are}
use Rattle.clauses.proofs.Tallied.{tallied_is}

-- every entry and every value is in range
pub record Ranged (s : Sizes) (p : Pool) : Type 0 where
  pub history : Each (EntryInRange s) p.history
  pub values : (l : LinkNumber) → (value_at p l).0 ≤ s.n
  pub logs : Each (EntryInRange s) (all_logs p)

-- a link stands among the logs and the uncleared history as often as its mark says, and at most once in the history
pub record Right (p : Pool) (l : LinkNumber) : Type 0 where
  pub mark : times l (all_logs p) + times l (uncleared p) ≡ bit (changed_at p l)
  pub once : times l p.history ≤ 1

-- each count is the tally of its record
abbrev pub Counted : Sizes → Pool → Type 0
Counted s p = (a : RecordNumber) → 1 ≤ a.0 → a.0 ≤ s.n → count_at p a ≡ tally (counts_for p) (links s) a

module _ (s : Sizes) (t : Tables) (c : Collector) (sizes : in_range s ≡ true) (exact : Exact s t) where
  abbrev p : Pool
  p = pool_of s t c

  abbrev to : ℕ
  to = counted_to c

  abbrev from : ℕ
  from = uncleared_from c (get_or t.lengths s.w 0)

  abbrev noted_all : Noted
  noted_all = noted_links s t c

  abbrev tallies : List ℕ
  tallies = tallied noted_all.last (links s) (replicate 8320 0)

  low : links s ≤ 8208
  low = links_most s sizes

  module _ (lengths : Each (λ n. n ≤ links s) t.lengths) (fits : FitsPhase s p.history c.phase c.position) where
    parts : Parted c.phase c.position p.history to from
    parts =
        subst (λ (n : ℕ). Parted c.phase c.position p.history to (uncleared_from c n)) (history_length s t c) (parted s p.history c fits)

    uncleared_part : uncleared p ≡ drop from p.history
    unfolding uncleared pool_of
    uncleared_part = parts.uncleared

    uncounted_part : uncounted p ≡ drop to p.history
    unfolding uncounted pool_of
    uncounted_part = parts.uncounted

    pub ranged_tells : Tells noted_all.ok (Ranged s p)
    unfolding noted_links pool_of all_logs
    ranged_tells =
        Iff.trans (noted_tells s p.history to from (all_logs p) t.values parts.order parts.end) (
          λ (history, values, logs). record { history = history; values = (values_are s t c).0 values; logs = logs },
          λ x. (x.history, (values_are s t c).1 x.values, x.logs),
        )

    module _ (range : Ranged s p) where
      seen_is : (l : LinkNumber) → l.0 < links s → get_or noted_all.seen l.0 0 ≡ times l (all_logs p) + times l (uncleared p) + times l p.history * 131072
      unfolding noted_links pool_of all_logs
      seen_is l k =
          omega (
            arith,
            noted_seen s p.history to from (all_logs p) t.values parts.order parts.end low exact.values (range.history, range.logs) l k,
            ap (times l) uncleared_part,
          )

      -- the two numbers that are seen of a link stay apart
      few : (l : LinkNumber) → times l (all_logs p) + times l (uncleared p) < 131072
      unfolding pool_of all_logs
      few l =
          omega (
            arith,
            times-length l (all_logs p),
            all_joined_most s t.logs t.lengths exact.lengths lengths,
            mul-le-mul_right (links s) (bounds s sizes).w_most,
            low,
            ap (times l) uncleared_part,
            times_from l p.history from,
            times-length l p.history,
            history_length s t c,
            Each-at (λ n. n ≤ links s) t.lengths s.w 0 (omega (arith, exact.lengths)) lengths,
          )

      pub right_tells : Tells (marks_match (links s) t.changed noted_all.seen) ((l : LinkNumber) → l.0 < links s → Right p l)
      unfolding marks_match
      right_tells =
          Iff.trans (below_tells (links s) (λ i k. at_link (link_number_of i) k)) (λ h l k. h l.0 k, λ h i k. h (link_number_of i) k)
        where
          at_link : (l : LinkNumber) → l.0 < links s
              → Tells (eqb (get_or noted_all.seen l.0 0 % 131072) (bit (mark_at t.changed l.0)) && ltb (get_or noted_all.seen l.0 0) 262144) (Right p l)
          at_link l k =
              let seen = seen_is l k in
              let apart = few l in
              let mark = ap bit (changed_stands s t c l k) in
              Iff.trans (equal_tells (get_or noted_all.seen l.0 0 % 131072) (bit (mark_at t.changed l.0)) and less_tells (get_or noted_all.seen l.0 0) 262144)
              (λ (same, once). record { mark = omega (arith, bit_most (mark_at t.changed l.0)); once = omega (arith, bit_most (mark_at t.changed l.0)) }, λ x. (omega (arith, x.mark), omega (arith, x.once)))

      module _ (right : (l : LinkNumber) → l.0 < links s → Right p l) where
        -- a link that no uncounted entry is for counts for its view value
        view_is : (l : LinkNumber) → l.0 < links s → times l (uncounted p) ≡ 0 → old_in l (all_logs p) (value_at p l) ≡ view_value p l
        unfolding all_logs look_up
        view_is l k z = by_mark (changed_at p l) refl
          where
            logged : times l (all_logs p) ≡ bit (changed_at p l)
            logged =
                omega (
                  arith,
                  (right l k).mark,
                  ap (times l) uncleared_part,
                  ap (times l) uncounted_part,
                  times_later l p.history to from parts.order,
                )

            by_mark : (b : Bool) → changed_at p l ≡ b → old_in l (all_logs p) (value_at p l) ≡ view_value p l
            by_mark true on = old_in_present l (all_logs p) (value_at p l) none (omega (arith, logged, ap bit on)) ∙ sym (view_marked p l on)
            by_mark false off = old_in_absent l (all_logs p) (value_at p l) (logged ∙ ap bit off) ∙ sym (view_unmarked p l off)

        -- the last that is noted of a link is what it counts for
        last_is : (l : LinkNumber) → l.0 < links s → record_number (get_or noted_all.last l.0 0) ≡ counts_for p l
        unfolding noted_links pool_of all_logs counts_for
        last_is l k =
            noted_last s p.history to from (all_logs p) t.values parts.order parts.end low exact.values (range.history, range.logs) l k
            (omega (arith, times_from l p.history to, (right l k).once)) (omega (arith, (right l k).mark, bit_most (changed_at p l)))
            ∙ ap (λ xs. old_in l xs (old_in l (all_logs p) (record_number (get_or t.values l.0 0)))) (sym uncounted_part)
            ∙ old_in_else l (uncounted p) (λ z. ap (old_in l (all_logs p)) (sym (value-stands s t c l)) ∙ view_is l k z)

        counts-low : (l : LinkNumber) → (counts_for p l).0 ≤ s.n
        unfolding counts_for
        counts-low l =
            old_in_keeps (λ a. a.0 ≤ s.n) l (uncounted p) (view_value p l)
            (Each-map (uncounted p) (λ e r. r.old) (subst (Each (EntryInRange s)) (sym uncounted_part) later))
            (view_keeps (λ a. a.0 ≤ s.n) p l (Each-map (all_logs p) (λ e r. r.old) range.logs) zero-le (range.values l))
          where
            later : Each (EntryInRange s) (drop to p.history)
            later =
                Each-right (EntryInRange s) (take to p.history) (drop to p.history)
                (subst (Each (EntryInRange s)) (sym (take-append-drop to p.history)) range.history)

        tally_is : (a : ℕ) → a ≤ s.n → tally_of tallies a ≡ tally (counts_for p) (links s) (record_number a)
        tally_is a h =
            let most = (bounds s sizes).n_most in
            tallied_is noted_all.last a (omega arith) (links s)
            (λ l k. omega (arith, ap (λ (x : RecordNumber). x.0) (last_is (link_number_of l) k), counts-low (link_number_of l)))
            ∙ tally_same (λ l. record_number (get_or noted_all.last l.0 0)) (counts_for p) (links s) (record_number a) last_is

        pub counted_tells : Tells (counts_match t.counts tallies) (Counted s p)
        unfolding counts_match pool_of
        counted_tells =
            Iff.trans
            (below_tells (length t.counts) (λ i _. equal_tells (tally_of tallies (suc i)) (get_or t.counts i 0))) (
              λ h.
                  every_record (λ a. count_at p a ≡ tally (counts_for p) (links s) a) s.n
                  (λ i k. sym (h i (omega (arith, exact.counts))) ∙ tally_is (suc i) k),
              λ h i k. let inside : i < s.n = omega (arith, exact.counts) in tally_is (suc i) inside ∙ sym (h (record_number (suc i)) (omega arith) inside),
            )
