-- Reading a part first and the rest later changes nothing, however the bytes arrive.
--     played_is_replayed     the parts, one after another, are the replay of the trace
-- Assumes nothing.
use Prim.Native.Nat.{ℕ, ◌+◌, ◌≤◌}
use mathlib.Core.Path.{◌≡◌, refl, sym, ap, ◌∙◌}
use mathlib.Core.Bool.{Bool, true, false}
use mathlib.Core.List.{List, [], ◌∷◌, ◌++◌, append-nil, append_assoc, flatten}
use native.Mathlib.Omega.{arith}
use lib.ListN.{length, drop, length-append}
use lib.Seq.{drop-append-le}
use Rattle.std.specs.Prelude.{Option, Some, None}
use Rattle.rules.specs.declared.Sizes.{Sizes}
use Rattle.rules.specs.declared.Refusal.TheVariants.{StopsShort}
use Rattle.fields.specs.declared.Reader.{Reader}
use Rattle.fields.specs.Field.{refused_at}
use Rattle.trace.specs.declared.Stood.{Stood}
use Rattle.trace.specs.Replay.{Left, Ending, untouched, Replayed, with_lines, at_start, replayed}
use Rattle.trace.specs.Stand.{waits}
use Rattle.trace.proofs.Along.{goes_on}
use Rattle.parts.specs.Part.{Taken, part_taken, moved_ending, over, played}
use Rattle.parts.proofs.Behind.{moved_replay, unmoved_replay, moved_again, goes-behind}
use Rattle.parts.proofs.Between.{Between, before_sizes, WaitsAt, part_waits}
use Rattle.parts.proofs.Goes.{goes_from, part_goes}

-- behind the last byte nothing is waited for
last_waits : {bytes : List ℕ} {x : Stood} {left : Left} → WaitsAt true bytes x left → ⊥
unfolding waits
last_waits w = let h = w.waits in let z : ◌≡◌ {A = ℕ} 0 1 = cc in omega arith

module _ (takes : Sizes → Bool) where
  -- the replay from where a part stands so
  abbrev goes_on_so : List ℕ → Taken → Option Ending → Replayed
  goes_on_so bytes x st = with_lines x.lines (goes_from (goes_on takes bytes) x.left (record { stand = st; next = x.stood.next; reader = x.stood.reader }))

  -- the replay of what is left of a part and of what comes behind it
  abbrev Plays : List (List ℕ) → Type 0
  Plays pieces =
      (base : ℕ) (rest : List ℕ) (reader : Reader) (left : Left) → Between reader left
      → played takes pieces base rest reader left ≡ moved_replay base (goes_on takes (rest ++ flatten pieces) 0 reader left)

  -- where a part waits, the next goes on
  later : (part more : List ℕ) (base n : ℕ) (reader : Reader) (left : Left) → n ≤ length part
      → moved_replay (base + n) (goes_on takes (drop n part ++ more) 0 reader left) ≡ moved_replay base (goes_on takes (part ++ more) n reader left)
  later part more base n reader left inside =
      let long : length (part ++ more) ≡ length part + length more = length-append part more in
      sym (moved_again base n (goes_on takes (drop n part ++ more) 0 reader left))
      ∙ ap (moved_replay base)
      (ap (λ (bytes : List ℕ). moved_replay n (goes_on takes bytes 0 reader left)) (sym (drop-append-le n part more inside))
      ∙ sym (goes-behind takes (part ++ more) n (omega arith) reader left))

  plays_last : Plays []
  unfolding played flatten
  plays_last base rest reader left between =
      by_stand x.stood.stand refl
      ∙ ap (moved_replay base) (sym (part_goes takes true rest [] (λ e. refl) reader left between))
    where
      x : Taken
      x = part_taken takes true rest reader left

      by_stand : (st : Option Ending) → x.stood.stand ≡ st
          → elim st [ Some ending ↦ over base x ending | None ↦ over base x (refused_at StopsShort x.stood.next) ]
          ≡ moved_replay base (goes_on_so (rest ++ []) x st)
      by_stand (Some ending) e = λ k. record { lines = sym (append-nil x.lines) k; ending = moved_ending base ending; left = x.left }
      by_stand None e = absurd (last_waits (part_waits true rest takes reader left between e))

  plays_more : (piece : List ℕ) (pieces : List (List ℕ)) → Plays pieces → Plays (piece ∷ pieces)
  unfolding played flatten
  plays_more piece pieces further base rest reader left between =
      by_stand x.stood.stand refl
      ∙ ap (moved_replay base)
      (sym
      (ap (λ (bytes : List ℕ). goes_on takes bytes 0 reader left) (sym (append_assoc rest piece (flatten pieces)))
      ∙ part_goes takes false part (flatten pieces) (λ e. absurd (let z : ◌≡◌ {A = ℕ} 0 1 = cc in omega arith)) reader left between))
    where
      part : List ℕ
      part = rest ++ piece

      x : Taken
      x = part_taken takes false part reader left

      by_stand : (st : Option Ending) → x.stood.stand ≡ st
          → elim st [
            | Some ending ↦ over base x ending
            | None ↦ with_lines x.lines (played takes pieces (base + x.stood.next) (drop x.stood.next part) x.stood.reader x.left)
          ]
          ≡ moved_replay base (goes_on_so (part ++ flatten pieces) x st)
      by_stand (Some ending) e = λ k. record { lines = sym (append-nil x.lines) k; ending = moved_ending base ending; left = x.left }
      by_stand None e =
          let w = part_waits false part takes reader left between e in
          ap (with_lines x.lines)
          (further (base + x.stood.next) (drop x.stood.next part) x.stood.reader x.left w.between
          ∙ later part (flatten pieces) base x.stood.next x.stood.reader x.left w.inside)

  plays : (pieces : List (List ℕ)) → Plays pieces
  plays [] = plays_last
  plays (piece ∷ pieces) = plays_more piece pieces (plays pieces)

  pub played_is_replayed : (pieces : List (List ℕ)) → played takes pieces 0 [] at_start untouched ≡ replayed takes (flatten pieces)
  unfolding replayed
  played_is_replayed pieces = plays pieces 0 [] at_start untouched before_sizes ∙ unmoved_replay (goes_on takes (flatten pieces) 0 at_start untouched)
