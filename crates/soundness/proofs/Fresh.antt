-- The fresh pool is sound: every list has its length, nothing is logged, and no link counts for a record.
--     get_d_same, of_record_all             what stands at every place of a list of one thing
--     no_logs, unmarked, empty, nothing_held     nothing is in the fresh pool
--     fresh_sound                         the fresh pool is sound
-- Assumes nothing.
use Prim.Native.Nat.{ℕ, zero, suc, ◌+◌, ◌≤◌, zero-le}
use mathlib.Core.Path.{◌≡◌, refl, sym, ap, ◌∙◌, subst}
use mathlib.Core.Bool.{false}
use mathlib.Core.List.{List, [], flatten}
use native.Mathlib.Omega.{arith}
use lib.ListN.{length, get_or, replicate, length-replicate, get_or-replicate}
use Rattle.rules.specs.declared.Sizes.{Sizes}
use Rattle.rules.specs.declared.RecordNumber.{RecordNumber}
use Rattle.rules.specs.declared.LinkNumber.{LinkNumber}
use Rattle.rules.specs.Size.{links}
use Rattle.rules.specs.Pool.{Entry, none, of_record, value_at, changed_at, fresh}
use Rattle.rules.specs.View.{bit, times, old_in, all_logs, view_value}
use Rattle.rules.specs.Sound.{Each, EntryInRange, Sound, positions, uncleared, uncounted}
use Rattle.laws.proofs.LookUp.{view_unmarked}
use Rattle.laws.proofs.Tally.{tally-nothing}
use Rattle.soundness.proofs.Core.{Core, sound}

-- a list of one thing has it at every place, past the end too where it is what stands there
pub get_d_same : {A : Type 0} (n : ℕ) (x : A) (i : ℕ) → get_or (replicate n x) i x ≡ x
get_d_same zero x i = refl
get_d_same (suc n) x zero = refl
get_d_same (suc n) x (suc i) = get_d_same n x i

pub of_record_all : {A : Type 0} (n : ℕ) (x : A) (i : ℕ) → of_record (replicate n x) i x ≡ x
of_record_all n x zero = refl
of_record_all n x (suc i) = get_d_same n x i

no_entries : (n : ℕ) → flatten (replicate n (let none_yet : List Entry = [] in none_yet)) ≡ []
unfolding flatten
no_entries zero = refl
no_entries (suc n) = no_entries n

module _ (s : Sizes) where
  pub no_logs : all_logs (fresh s) ≡ []
  unfolding all_logs fresh
  no_logs = no_entries s.w

  pub unmarked : (l : LinkNumber) → changed_at (fresh s) l ≡ false
  unfolding fresh
  unmarked l = get_d_same (links s) false l.0

  pub empty : (l : LinkNumber) → value_at (fresh s) l ≡ none
  unfolding fresh
  empty l = get_d_same (links s) none l.0

  pub nothing_held : (w r : ℕ) → (get_or (get_or (replicate s.w (replicate s.r none)) w []) r none).0 ≡ 0
  nothing_held w r = low s.w w
    where
      low : (n w : ℕ) → (get_or (get_or (replicate n (replicate s.r none)) w []) r none).0 ≡ 0
      low zero w = refl
      low (suc n) zero = ap (λ (a : RecordNumber). a.0) (get_d_same s.r none r)
      low (suc n) (suc w) = low n w

  fresh_core : Core s (fresh s) [] []
  unfolding fresh times old_in
  fresh_core =
      record {
        shaped =
            record {
              records =
                  record {
                    used = length-replicate s.n false;
                    count = length-replicate s.n 0;
                    held = length-replicate s.n false;
                    candidate = length-replicate s.n false;
                    maker = length-replicate s.n 0;
                  };
              links = record { value = length-replicate (links s) none; changed = length-replicate (links s) false };
              workers =
                  record {
                    registers = length-replicate s.w (replicate s.r none);
                    each = λ w h. ap length (get_or-replicate s.w w (replicate s.r none) [] h) ∙ length-replicate s.r none;
                    snoop = length-replicate s.w false;
                    log = length-replicate s.w [];
                  };
            };
        registers = λ w r. omega (arith, nothing_held w r);
        last = zero-le;
        values = λ l. subst (λ (a : RecordNumber). a.0 ≤ s.n) (sym (empty l)) zero-le;
        logs = subst (λ xs. Each (EntryInRange s) xs) (sym no_logs) tt;
        history = tt;
        makers = λ a. subst (λ (m : ℕ). m ≤ s.w) (sym (of_record_all s.n 0 a.0)) zero-le;
        once = λ l h. omega arith;
        marks = λ l h. ap (λ xs. times l xs + 0) no_logs ∙ sym (ap bit (unmarked l));
        counts =
            λ a h k.
            of_record_all s.n 0 a.0 ∙ sym (tally-nothing (λ l. view_value (fresh s) l) (links s) a (λ l e.
            omega (arith, ap (λ (x : RecordNumber). x.0) (view_unmarked (fresh s) l (unmarked l) ∙ empty l))));
      }

  pub fresh_sound : Sound s (fresh s)
  unfolding fresh uncleared uncounted positions
  fresh_sound = sound fresh_core (omega arith) (omega arith) (λ t. refl) (λ t. absurd t)
