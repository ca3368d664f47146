-- The tests of a call on a pool: what they tell of the tables, and what a call does that asks them.
--     Fitting                        sizes in range and exact lengths
--     fits_tells                     what the first test tells
--     check_is                       the second, as the check goes, is the definition's
--     checked_unfit, checked_by      what the tests answer where the first refuses, and where it does not
--     checked_sound                  and where neither refuses
--     is_ok_checked                  they refuse nothing exactly where the tables are of a sound pool
--     tests_known                    and then a sound pool lies in the tables
--     by_check                       any call that asks them, by what they answer
--     answered, checked_known        what they answer of tables that are read, and what it tells of them
--     refused_called, known_called   one event
-- Assumes nothing.
use mathlib.Core.Path.{◌≡◌, refl, sym, ap, ◌∙◌}
use mathlib.Core.Bool.{Bool, true, false, cond, ◌&&◌}
use Rattle.std.specs.Prelude.{⊤, Result, Ok, Err, is_ok}
use Rattle.rules.specs.declared.Sizes.{Sizes}
use Rattle.rules.specs.declared.Event.{Event}
use Rattle.rules.specs.declared.Refusal.{Refusal}
use Rattle.rules.specs.declared.Refusal.TheVariants.{WrongSize, NotSound}
use Rattle.rules.specs.declared.Collector.{Collector}
use Rattle.rules.specs.Size.{in_range}
use Rattle.laws.proofs.Tests.{and_left, and_right}
use Rattle.tables.specs.Tables.{Tables}
use Rattle.tables.specs.Known.{Exact, Known}
use Rattle.tables.specs.Event.{Called, event_on}
use Rattle.clauses.specs.IsSound.{is_sound}
use Rattle.clauses.specs.Inspected.{inspected}
use Rattle.clauses.proofs.Exactly.{is_sound_exactly, inspected_is}
use Rattle.fresh.specs.Fits.{is_exact, fits, refused_on}
use Rattle.pool.specs.Calls.{checked, called}
use Rattle.fresh.proofs.Exact.{exact_tells}

abbrev pub Fitting : Sizes → Tables → Type 0
Fitting s t = (in_range s ≡ true) × Exact s t

module _ (s : Sizes) (t : Tables) where
  pub fits_tells : fits s t ≡ true → Fitting s t
  fits_tells fit = (and_left (in_range s) (is_exact s t) fit, exact_tells s t (and_right (in_range s) (is_exact s t) fit))

  module _ (c : Collector) where
    -- the check as it goes is the definition's test
    pub check_is : fits s t ≡ true → is_sound s t c ≡ inspected s t c
    check_is fit = let fitting = fits_tells fit in sym (inspected_is s t c fitting.1 fitting.0)

    -- what is answered by the two tests
    abbrev by_tests : Bool → Bool → Result ⊤ Refusal
    by_tests shape sound = cond shape (cond sound (Ok tt) (Err NotSound)) (Err WrongSize)

    pub checked_unfit : fits s t ≡ false → Err WrongSize ≡ checked s t c
    unfolding checked
    checked_unfit unfit = sym (ap (λ shape. by_tests shape (is_sound s t c)) unfit)

    pub checked_by : fits s t ≡ true → {b : Bool} → inspected s t c ≡ b → by_tests true b ≡ checked s t c
    unfolding checked
    checked_by fit sound = sym (ap (λ shape. by_tests shape (is_sound s t c)) fit ∙ ap (by_tests true) (check_is fit ∙ sound))

    pub checked_sound : fits s t ≡ true → is_sound s t c ≡ true → checked s t c ≡ Ok tt
    checked_sound fit sound = sym (checked_by fit (sym (check_is fit) ∙ sound))

    pub is_ok_checked : is_ok (checked s t c) ≡ (fits s t && is_sound s t c)
    unfolding checked
    is_ok_checked = by_each (fits s t) (is_sound s t c)
      where
        by_each : (shape sound : Bool) → is_ok (by_tests shape sound) ≡ (shape && sound)
        by_each true true = refl
        by_each true false = refl
        by_each false sound = refl

    -- what the definition's tests tell of the tables
    pub tests_known : fits s t ≡ true → is_sound s t c ≡ true → Known s t c
    tests_known fit sound = let fitting = fits_tells fit in record { sizes = fitting.0; exact = fitting.1; tables = (is_sound_exactly s t c fitting.1).0 sound }

    -- what a call does that asks them, whatever it answers and leaves
    module _ {A : Type 0} (does : A) (refused : Refusal → A) where
      abbrev pub asks : Result ⊤ Refusal → A
      asks r = elim r [ Ok u ↦ does | Err why ↦ refused why ]

      pub by_check : cond (fits s t) (cond (is_sound s t c) does (refused NotSound)) (refused WrongSize) ≡ asks (checked s t c)
      unfolding checked
      by_check = by_each (fits s t) (is_sound s t c)
        where
          by_each : (shape sound : Bool) → cond shape (cond sound does (refused NotSound)) (refused WrongSize) ≡ asks (by_tests shape sound)
          by_each true true = refl
          by_each true false = refl
          by_each false sound = refl

-- what they answer of tables that are read as they lie
pub answered : (s : Sizes) (c : Collector) {t u : Tables} {r answer : Result ⊤ Refusal} → u ≡ t → r ≡ checked s u c → r ≡ answer → checked s t c ≡ answer
answered s c same is answers = ap (λ t. checked s t c) (sym same) ∙ sym is ∙ answers

module _ (s : Sizes) (t : Tables) (c : Collector) where
  pub checked_known : checked s t c ≡ Ok tt → Known s t c
  unfolding checked
  checked_known passed = by_each (fits s t) refl (is_sound s t c) refl passed
    where
      by_each : (shape : Bool) → fits s t ≡ shape → (sound : Bool) → is_sound s t c ≡ sound → by_tests s t c shape sound ≡ Ok tt → Known s t c
      by_each true f true h passed = tests_known s t c f h
      by_each true f false h passed = absurd cc
      by_each false f sound h passed = absurd cc

  module _ (e : Event) where
    abbrev event_asks : Result ⊤ Refusal → Called
    event_asks = asks s t c (event_on s t c e) (λ why. refused_on why t c)

    is_called : called s t c e ≡ event_asks (checked s t c)
    unfolding called
    is_called = by_check s t c (event_on s t c e) (λ why. refused_on why t c)

    pub refused_called : {why : Refusal} → checked s t c ≡ Err why → called s t c e ≡ refused_on why t c
    refused_called refused = is_called ∙ ap event_asks refused

    pub known_called : checked s t c ≡ Ok tt → called s t c e ≡ event_on s t c e
    known_called passed = is_called ∙ ap event_asks passed
