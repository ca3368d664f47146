-- What is known where the call answers a length.
--     JoinedWhole, joined_whole     the parts are whole, have the same sizes, their numbers are 1 to n, and their joined trace was written
--     whole_joined                  and back
-- Assumes nothing.
use Prim.Native.Nat.{ℕ, ◌≤◌}
use mathlib.Core.Path.{◌≡◌, refl}
use mathlib.Core.Bool.{Bool, true, false, cond, not}
use mathlib.Core.List.{List}
use native.Mathlib.Omega.{arith}
use borrow.Author.Tests.{ltb-false, le-ltb}
use lib.Dec.{ltb}
use lib.ListN.{length}
use Rattle.std.specs.Prelude.{Ok, Err}
use Rattle.rules.specs.declared.Refusal.TheVariants.{WrongSize, WrongStep, SizesDiffer, OutputShort}
use Rattle.join.specs.Part.{Part, Told, parts_told}
use Rattle.join.specs.Joined.{end_to_end, same_sizes, all_events, stand_to, joined_trace, JoinedOn, refused_on, written_on, whole_on, joined_on}

pub record JoinedWhole (parts lengths out : List ℕ) (told : List Part) : Type 0 where
  pub lent : end_to_end parts lengths ≡ true
  pub reads : parts_told parts 0 lengths ≡ Ok told
  pub sized : same_sizes told ≡ true
  pub numbers : stand_to (length (all_events told)) (all_events told) ≡ true
  pub room : length (joined_trace told) ≤ length out

-- the answer, by what the parts tell
abbrev answers_to : List ℕ → Told (List Part) → JoinedOn
answers_to out told = elim told [ Err r ↦ refused_on r.why r.place out | Ok ps ↦ whole_on ps out ]

module _ (parts lengths out : List ℕ) where
  pub joined_whole : (n : ℕ) → (joined_on parts lengths out).joined ≡ Ok n → (told : List Part) × JoinedWhole parts lengths out told
  unfolding joined_on whole_on
  joined_whole n is = by_lent (end_to_end parts lengths) refl is
    where
      by_room : (told : List Part) → end_to_end parts lengths ≡ true → parts_told parts 0 lengths ≡ Ok told → same_sizes told ≡ true
          → stand_to (length (all_events told)) (all_events told) ≡ true
          → (b : Bool) → ltb (length out) (length (joined_trace told)) ≡ b
          → (cond b (refused_on OutputShort 0 out) (written_on (joined_trace told) out)).joined ≡ Ok n → (told : List Part) × JoinedWhole parts lengths out told
      by_room told lent reads sized numbers true test h = absurd (let z : ◌≡◌ {A = ℕ} 0 1 = cc in omega arith)
      by_room told lent reads sized numbers false test h =
          (told, record { lent = lent; reads = reads; sized = sized; numbers = numbers; room = ltb-false (length out) (length (joined_trace told)) test })

      by_numbers : (told : List Part) → end_to_end parts lengths ≡ true → parts_told parts 0 lengths ≡ Ok told → same_sizes told ≡ true
          → (b : Bool) → stand_to (length (all_events told)) (all_events told) ≡ b
          → (cond (not b) (refused_on WrongStep 0 out) (cond (ltb (length out) (length (joined_trace told))) (refused_on OutputShort 0 out) (written_on (joined_trace told) out))).joined ≡ Ok n
          → (told : List Part) × JoinedWhole parts lengths out told
      by_numbers told lent reads sized true test h = by_room told lent reads sized test (ltb (length out) (length (joined_trace told))) refl h
      by_numbers told lent reads sized false test h = absurd (let z : ◌≡◌ {A = ℕ} 0 1 = cc in omega arith)

      by_sizes : (told : List Part) → end_to_end parts lengths ≡ true → parts_told parts 0 lengths ≡ Ok told → (b : Bool) → same_sizes told ≡ b
          → (cond (not b) (refused_on SizesDiffer 0 out)
          (cond (not (stand_to (length (all_events told)) (all_events told))) (refused_on WrongStep 0 out)
          (cond (ltb (length out) (length (joined_trace told))) (refused_on OutputShort 0 out) (written_on (joined_trace told) out)))).joined ≡ Ok n
          → (told : List Part) × JoinedWhole parts lengths out told
      by_sizes told lent reads true test h = by_numbers told lent reads test (stand_to (length (all_events told)) (all_events told)) refl h
      by_sizes told lent reads false test h = absurd (let z : ◌≡◌ {A = ℕ} 0 1 = cc in omega arith)

      by_told : (told : Told (List Part)) → end_to_end parts lengths ≡ true → parts_told parts 0 lengths ≡ told
          → (answers_to out told).joined ≡ Ok n
          → (told : List Part) × JoinedWhole parts lengths out told
      by_told (Err r) lent reads h = absurd (let z : ◌≡◌ {A = ℕ} 0 1 = cc in omega arith)
      by_told (Ok told) lent reads h = by_sizes told lent reads (same_sizes told) refl h

      by_lent : (b : Bool) → end_to_end parts lengths ≡ b
          → (cond b (answers_to out (parts_told parts 0 lengths)) (refused_on WrongSize 0 out)).joined ≡ Ok n → (told : List Part) × JoinedWhole parts lengths out told
      by_lent true lent h = by_told (parts_told parts 0 lengths) lent refl h
      by_lent false lent h = absurd (let z : ◌≡◌ {A = ℕ} 0 1 = cc in omega arith)

  pub whole_joined : {told : List Part} → JoinedWhole parts lengths out told → joined_on parts lengths out ≡ written_on (joined_trace told) out
  unfolding joined_on whole_on
  whole_joined {told} w = rw (w.lent, w.reads, w.sized, w.numbers, le-ltb (length out) (length (joined_trace told)) w.room)
