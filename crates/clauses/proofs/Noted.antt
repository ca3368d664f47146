-- What is noted of each link after the whole history, the values and the logs.
--     noted           what is noted: the history in three parts, and the values and the logs between them
--     noted_tells     every entry and every value is in range
--     noted_seen      what was seen of a link: how often it stands among the logs and the uncleared history, and in the history
--     noted_last      the last that is noted of a link with at most one log entry and at most one uncounted entry
-- Assumes nothing.
use Prim.Native.Nat.{ℕ, ◌+◌, ◌*◌, ◌≤◌, ◌<◌}
use mathlib.Core.Path.{◌≡◌, refl, sym, ap, ◌∙◌, subst}
use mathlib.Core.Logic.Iff
use mathlib.Core.Bool.{true}
use mathlib.Core.List.{List, ◌++◌}
use native.Mathlib.Omega.{arith}
use lib.ListN.{length, get_or, take, drop, replicate, length-replicate, get_or-replicate, length-take, take-append-drop}
use lib.Seq.{drop-append-le}
use Rattle.rules.specs.declared.Sizes.{Sizes}
use Rattle.rules.specs.declared.LinkNumber.{LinkNumber}
use Rattle.rules.specs.Size.{links}
use Rattle.rules.specs.Pool.{Entry}
use Rattle.rules.specs.View.{times, old_in}
use Rattle.rules.specs.Sound.{Each, EntryInRange}
use Rattle.tables.specs.Lie.{record_number}
use Rattle.laws.proofs.Lists.{Each-append, Each-left, Each-right}
use Rattle.laws.proofs.Entries.{times_append, old_in_append}
use Rattle.clauses.specs.Entered.{Noted, once, outstanding, entered_all}
use Rattle.clauses.specs.Inspected.{valued}
use Rattle.clauses.proofs.Tests.{Tells}
use Rattle.clauses.proofs.Entries.{old_in_swapped}
use Rattle.clauses.proofs.Entered.{Sized, sized-entered, entered_tells, seen_entered, last_entered, valued_tells, sized-valued, last_valued}

module _ (s : Sizes) (history : List Entry) (to from : ℕ) (logs : List Entry) (values : List ℕ) where
  abbrev counted : List Entry
  counted = take to history

  abbrev middle : List Entry
  middle = drop to (take from history)

  abbrev uncleared : List Entry
  uncleared = drop from history

  abbrev start : Noted
  start = record { ok = true; seen = replicate 8208 0; last = replicate 8208 0 }

  abbrev after-counted : Noted
  after-counted = entered_all (links s) s.n once counted start

  abbrev after_values : Noted
  after_values = valued s.n values after-counted

  abbrev after_logs : Noted
  after_logs = entered_all (links s) s.n 1 logs after_values

  abbrev after_middle : Noted
  after_middle = entered_all (links s) s.n once middle after_logs

  abbrev pub noted : Noted
  noted = entered_all (links s) s.n outstanding uncleared after_middle

  -- ---- the parts follow each other

  module _ (order : to ≤ from) (end : from ≤ length history) where
    rejoined : middle ++ uncleared ≡ drop to history
    rejoined =
        sym (drop-append-le to (take from history) uncleared (omega (arith, length-take from history)))
        ∙ ap (drop to) (take-append-drop from history)

    whole : counted ++ (middle ++ uncleared) ≡ history
    whole = ap (λ rest. counted ++ rest) rejoined ∙ take-append-drop to history

    -- what holds of each entry of the history holds of each entry of a part
    module _ (P : Entry → Type 0) where
      apart : Each P history → Each P counted × Each P middle × Each P uncleared
      apart all =
          let parts = subst (Each P) (sym whole) all in
          let rest = Each-right P counted (middle ++ uncleared) parts in (
            Each-left P counted (middle ++ uncleared) parts,
            Each-left P middle uncleared rest,
            Each-right P middle uncleared rest,
          )

      together : Each P counted × Each P middle × Each P uncleared → Each P history
      together (first, second, third) = subst (Each P) whole (Each-append P counted (middle ++ uncleared) first (Each-append P middle uncleared second third))

    pub noted_tells : Tells noted.ok (Each (EntryInRange s) history × Each (λ n. n ≤ s.n) values × Each (EntryInRange s) logs)
    noted_tells =
        Iff.trans
        (entered_tells s outstanding uncleared after_middle
        (entered_tells s once middle after_logs
        (entered_tells s 1 logs after_values
        (valued_tells s.n values after-counted
        (entered_tells s once counted start {A = Unit {0}} (λ _. tt, λ _. refl)))))) (
          λ (((((_, first), low), entries), second), third). (together (EntryInRange s) (first, second, third), low, entries),
          λ (all, low, entries). let parts = apart (EntryInRange s) all in (((((tt, parts.0), low), entries), parts.1), parts.2),
        )

    -- ---- entries in range

    module _ (low : links s ≤ 8208) (exact : length values ≡ links s) (range : Each (EntryInRange s) history × Each (EntryInRange s) logs) (l : LinkNumber) (k : l.0 < links s) where
      parts : Each (EntryInRange s) counted × Each (EntryInRange s) middle × Each (EntryInRange s) uncleared
      parts = apart (EntryInRange s) range.0

      sized-start : Sized start
      sized-start = record { seen = length-replicate {A = ℕ} 8208 0; last = length-replicate {A = ℕ} 8208 0 }

      sized_values : Sized after_values
      sized_values = sized-valued s.n values after-counted (omega arith) (sized-entered s once counted start sized-start)

      sized_logs : Sized after_logs
      sized_logs = sized-entered s 1 logs after_values sized_values

      sized_middle : Sized after_middle
      sized_middle = sized-entered s once middle after_logs sized_logs

      pub noted_seen : get_or noted.seen l.0 0 ≡ times l logs + times l uncleared + times l history * 131072
      unfolding valued
      noted_seen =
          omega (
            arith,
            seen_entered s outstanding low l uncleared after_middle sized_middle parts.2,
            seen_entered s once low l middle after_logs sized_logs parts.1,
            seen_entered s 1 low l logs after_values sized_values range.1,
            seen_entered s once low l counted start sized-start parts.0,
            get_or-replicate {A = ℕ} 8208 l.0 0 0 (omega arith),
            times_append l counted (middle ++ uncleared),
            times_append l middle uncleared,
            ap (times l) whole,
          )

      pub noted_last : times l (drop to history) ≤ 1 → times l logs ≤ 1
          → record_number (get_or noted.last l.0 0) ≡ old_in l (drop to history) (old_in l logs (record_number (get_or values l.0 0)))
      noted_last once-uncounted once-logs =
          let both : times l middle + times l uncleared ≤ 1 = omega (arith, times_append l middle uncleared, ap (times l) rejoined) in
          last_entered s outstanding low l uncleared after_middle sized_middle parts.2 (omega arith)
          ∙ ap (old_in l uncleared) (last_entered s once low l middle after_logs sized_logs parts.1 (omega arith)
          ∙ ap (old_in l middle) (last_entered s 1 low l logs after_values sized_values range.1 once-logs
          ∙ ap (λ (n : ℕ). old_in l logs (record_number n)) (last_valued s.n values after-counted l.0 (omega arith))))
          ∙ old_in_swapped l middle uncleared _ both
          ∙ sym (old_in_append l middle uncleared _)
          ∙ ap (λ xs. old_in l xs (old_in l logs (record_number (get_or values l.0 0)))) rejoined
