-- Two results of a public call that both satisfy its contract are equal: answer, collector's record and every table entry. The contracts of `sound` and
-- `free_records` are an equation of the result itself.
--     one_result       of a contract of the calls' form
--     event_one_result, fresh_one_result, sound_one_result, free_one_result     of each call
-- Assumes nothing.
use Prim.Native.Nat.{ℕ}
use mathlib.Core.Path.{◌≡◌, sym, ap, ◌∙◌}
use mathlib.Core.Bool.{Bool, ◌&&◌}
use mathlib.Core.List.{List}
use Rattle.rules.specs.declared.Sizes.{Sizes}
use Rattle.rules.specs.declared.Event.{Event}
use Rattle.rules.specs.declared.Collector.{Collector}
use Rattle.rules.specs.declared.Answered.{Answered}
use Rattle.tables.specs.Tables.{Tables}
use Rattle.fresh.specs.Free.{free_in}
use Rattle.tables.specs.Event.{Called}
use Rattle.clauses.specs.IsSound.{is_sound}
use Rattle.fresh.specs.Fits.{fits}
use Rattle.fresh.specs.Fresh.{made_fresh}
use Rattle.pool.specs.Calls.{called}

-- what a call answers, with the tables that it leaves
abbrev leaving : Answered → Tables → Called
leaving x t = record { answer = x.answer; collector = x.collector; tables = t }

abbrev Same : Answered → Answered → Tables → Tables → Type 0
Same x y t u = (x ≡ y) × (t ≡ u)

pub one_result : (given : Called) (x y : Answered) (t u : Tables) → given ≡ leaving x t → given ≡ leaving y u → Same x y t u
one_result given x y t u first second =
    let same : leaving x t ≡ leaving y u = sym first ∙ second in
    (ap (λ (r : Called). record { answer = r.answer; collector = r.collector }) same, ap (λ (r : Called). r.tables) same)

module _ (s : Sizes) (before : Tables) (c : Collector) where
  pub event_one_result : (e : Event) (x y : Answered) (t u : Tables)
      → called s before c e ≡ leaving x t → called s before c e ≡ leaving y u → Same x y t u
  event_one_result e = one_result (called s before c e)

  pub fresh_one_result : (x y : Answered) (t u : Tables) → made_fresh s before c ≡ leaving x t → made_fresh s before c ≡ leaving y u → Same x y t u
  fresh_one_result = one_result (made_fresh s before c)

  pub sound_one_result : (x y : Bool) → x ≡ (fits s before && is_sound s before c) → y ≡ (fits s before && is_sound s before c) → x ≡ y
  sound_one_result x y first second = first ∙ sym second

pub free_one_result : (n : ℕ) (used : List ℕ) (x y : ℕ) → x ≡ free_in n used → y ≡ free_in n used → x ≡ y
free_one_result n used x y first second = first ∙ sym second
