-- The events of a list in the order of their numbers.
--     event_with, sorted        the event with a number, and those from 1 to n in order
--     sorted_bytes, sorted-length, sorted_run     their fields, how many they are, and that their numbers follow one another
--     sorted_perm              where each number from 1 to n stands once among n events, they are these events in another order
-- Assumes nothing.
use Prim.Native.Nat.{ℕ, zero, suc, ◌+◌, ◌≤◌, ◌<◌}
use mathlib.Core.Path.{◌≡◌, refl, sym, ap, ◌∙◌, subst}
use mathlib.Core.Bool.{Bool, true, false, cond}
use mathlib.Core.List.{List, [], ◌∷◌, ◌++◌, flatten, append_assoc, append-nil, Perm, perm_append_singleton}
use native.Mathlib.Omega.{arith}
use borrow.Author.Tests.{eqb-true, ne_eqb}
use lib.Dec.{eqb}
use lib.ListN.{length, length-append}
use Rattle.rules.specs.View.{bit}
use Rattle.rules.specs.Sound.{Each}
use Rattle.join.specs.Part.{Numbered}
use Rattle.join.specs.Joined.{field_of, in_order}
use Rattle.join.specs.Promise.{event_bytes}
use Rattle.join.proofs.Numbers.{times, Insert, here, there, times_inserted, hit_other, length_inserted}
use Rattle.join.proofs.Formed.{Formed}
use Rattle.join.proofs.Trace.{Run}

unfoldable pub event_with : ℕ → List Numbered → List Numbered
event_with x [] = []
event_with x (e ∷ events) = cond (eqb e.number x) (e ∷ []) (event_with x events)

unfoldable pub sorted : ℕ → List Numbered → List Numbered
sorted zero events = []
sorted (suc n) events = sorted n events ++ event_with (suc n) events

-- ---- their fields

pub bytes_append : (xs ys : List Numbered) → event_bytes (xs ++ ys) ≡ event_bytes xs ++ event_bytes ys
unfolding event_bytes flatten
bytes_append [] ys = refl
bytes_append (e ∷ xs) ys = ap (λ (l : List ℕ). e.bytes ++ l) (bytes_append xs ys) ∙ sym (append_assoc e.bytes (event_bytes xs) (event_bytes ys))

with_bytes : (x : ℕ) (events : List Numbered) → event_bytes (event_with x events) ≡ field_of x events
unfolding event_bytes flatten event_with field_of
with_bytes x [] = refl
with_bytes x (e ∷ events) = by_test (eqb e.number x) (with_bytes x events)
  where
    by_test : (b : Bool) → event_bytes (event_with x events) ≡ field_of x events
        → event_bytes (cond b (e ∷ []) (event_with x events)) ≡ cond b e.bytes (field_of x events)
    by_test true rest = append-nil e.bytes
    by_test false rest = rest

pub sorted_bytes : (n : ℕ) (events : List Numbered) → event_bytes (sorted n events) ≡ in_order n events
unfolding sorted in_order event_bytes flatten
sorted_bytes zero events = refl
sorted_bytes (suc n) events =
    let before = sorted_bytes n events in
    let last = with_bytes (suc n) events in
    bytes_append (sorted n events) (event_with (suc n) events) ∙ (λ j. before j ++ last j)

-- ---- the event with a number, taken out

pub record TakenOut (x : ℕ) (events : List Numbered) : Type 0 where
  pub event : Numbered
  pub rest : List Numbered
  pub inserts : Insert event rest events
  pub number_is : event.number ≡ x
  pub found : event_with x events ≡ event ∷ []

take_out : (x : ℕ) (events : List Numbered) → 1 ≤ times x events → TakenOut x events
unfolding times event_with
take_out x [] h = absurd (omega arith)
take_out x (e ∷ events) h = by_test (eqb e.number x) refl h (take_out x events)
  where
    by_test : (b : Bool) → eqb e.number x ≡ b → 1 ≤ bit b + times x events → (1 ≤ times x events → TakenOut x events) → TakenOut x (e ∷ events)
    by_test true is k rest = record { event = e; rest = events; inserts = here; number_is = eqb-true e.number x is; found = rw is }
    by_test false is k rest =
        let out = rest (omega arith) in
        record { event = out.event; rest = e ∷ out.rest; inserts = there out.inserts; number_is = out.number_is; found = ap (λ (b : Bool). cond b (e ∷ []) (event_with x events)) is ∙ out.found }

with_other : (x : ℕ) {e : Numbered} {xs ys : List Numbered} → Insert e xs ys → (e.number ≡ x → ⊥) → event_with x ys ≡ event_with x xs
unfolding event_with
with_other x {e} here other = rw (ne_eqb e.number x other)
with_other x (there {a} {xs} {ys} h) other = ap (λ (l : List Numbered). cond (eqb a.number x) (a ∷ []) l) (with_other x h other)

sorted_other : (n : ℕ) {e : Numbered} {xs ys : List Numbered} → Insert e xs ys → n < e.number → sorted n ys ≡ sorted n xs
unfolding sorted
sorted_other zero h above = refl
sorted_other (suc n) h above =
    let before = sorted_other n h (omega arith) in
    let last = with_other (suc n) h (λ e. omega arith) in
    λ j. before j ++ last j

-- ---- their numbers

run_behind : (step : ℕ) (events : List Numbered) (e : Numbered) → Run step events → Formed e → e.number ≡ step + length events + 1 → Run step (events ++ (e ∷ []))
run_behind step [] e run formed is = (formed, omega arith, tt)
run_behind step (x ∷ events) e run formed is = (run.0, run.1, run_behind (step + 1) events e run.2 formed (omega arith))

each_out : (P : Numbered → Type 0) {e : Numbered} {xs ys : List Numbered} → Insert e xs ys → Each P ys → P e
each_out P here h = h.0
each_out P (there i) h = each_out P i h.1

module _ (events : List Numbered) (formed : Each Formed events) where
  pub sorted_run : (n : ℕ) → ((x : ℕ) → 1 ≤ x → x ≤ n → 1 ≤ times x events) → Run 0 (sorted n events) × (length (sorted n events) ≡ n)
  unfolding sorted
  sorted_run zero all = (tt, refl)
  sorted_run (suc n) all =
      let before = sorted_run n (λ x low high. all x low (omega arith)) in
      let out = take_out (suc n) events (all (suc n) (omega arith) (omega arith)) in
      let last = ap (λ (l : List Numbered). sorted n events ++ l) (sym out.found) in (
        subst (Run 0) last (run_behind 0 (sorted n events) out.event before.0 (each_out Formed out.inserts formed) (omega (arith, out.number_is, before.1))),
        ap length (sym last) ∙ length-append (sorted n events) (out.event ∷ []) ∙ (let e : length (sorted n events) + 1 ≡ suc n = omega (arith, before.1) in e),
      )

-- ---- in another order

insert_perm : {e : Numbered} {xs ys : List Numbered} → Insert e xs ys → Perm (e ∷ xs) ys
insert_perm {e} (here {xs}) = mathlib.Core.List.Perm.refl (e ∷ xs)
insert_perm {e} (there {a} {xs} {ys} h) = mathlib.Core.List.Perm.trans (mathlib.Core.List.Perm.swap a e xs) (mathlib.Core.List.Perm.cons a (insert_perm h))

pub sorted_perm : (n : ℕ) (events : List Numbered) → length events ≡ n → ((x : ℕ) → 1 ≤ x → x ≤ n → times x events ≡ 1) → Perm (sorted n events) events
unfolding sorted
sorted_perm zero [] many once = mathlib.Core.List.Perm.refl []
sorted_perm zero (e ∷ events) many once = absurd (omega arith)
sorted_perm (suc n) events many once =
    let out = take_out (suc n) events (omega (arith, once (suc n) (omega arith) (omega arith))) in
    let inserts = out.inserts in
    let rest : Perm (sorted n out.rest) out.rest =
    sorted_perm n out.rest (omega (arith, length_inserted inserts))
    (λ x low high. omega (arith, once x low (omega arith), times_inserted x inserts, hit_other x out.event (λ e. omega (arith, out.number_is)))) in
    let same : sorted n out.rest ++ (out.event ∷ []) ≡ sorted n events ++ event_with (suc n) events =
    (let before = sym (sorted_other n inserts (omega (arith, out.number_is))) in
    let last = sym out.found in
    λ j. before j ++ last j) in
    subst (λ (l : List Numbered). Perm l events) same
    (mathlib.Core.List.Perm.trans (perm_append_singleton out.event (sorted n out.rest)) (mathlib.Core.List.Perm.trans (mathlib.Core.List.Perm.cons out.event rest) (insert_perm inserts)))
