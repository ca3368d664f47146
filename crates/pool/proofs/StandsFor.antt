-- "Prove that a packed pool with unused bits 0 and the old one it stands for give equal answers and stand for equal tables after any event, once over the kinds of
-- mark" (document 02, request 9): of the public calls, on any tables with unused bits 0, of a sound pool or not.
--     same_test            one kind of mark: its unused bits are 0, as its numbers are 0 or 1
--     free_same            how many records are free
--     same_fits, same_sound     the two tests, and so the call that asks them
--     fresh_same           making everything fresh
--     by_tests, called_same, called_packed     one event, and then unused bits are 0 again
-- Assumes nothing.
use Prim.Native.Nat.{ℕ, ◌+◌, ◌*◌}
use mathlib.Core.Path.{◌≡◌, refl, sym, ap, ◌∙◌}
use mathlib.Core.Bool.{Bool, true, false, cond, ◌&&◌}
use mathlib.Core.List.{List}
use lib.Dec.{eqb}
use lib.ListN.{length}
use Rattle.rules.specs.declared.Sizes.{Sizes}
use Rattle.rules.specs.declared.Event.{Event}
use Rattle.rules.specs.declared.Refusal.TheVariants.{WrongSize, NotSound}
use Rattle.rules.specs.declared.Answer.TheVariants.{Fresh}
use Rattle.rules.specs.declared.Collector.{Collector}
use Rattle.rules.specs.Size.{in_range, links}
use Rattle.rules.specs.Pool.{fresh}
use Rattle.rules.specs.Outcome.{free_marks}
use Rattle.soundness.proofs.Kept.{fresh_is_sound}
use Rattle.tables.specs.Bits.{marks_in}
use Rattle.tables.specs.Tables.{Tables}
use Rattle.tables.specs.Lie.{marks, bits, room}
use Rattle.tables.specs.Known.{Known}
use Rattle.tables.specs.Event.{Called, written, event_on}
use Rattle.tables.proofs.Marks.{marks-bits, bits-low}
use Rattle.clauses.specs.IsSound.{every, is_mark, is_packed, is_marked, is_padded, is_sound_pool, is_sound}
use Rattle.clauses.proofs.IsSound.{marks_tell, packed_tells}
use Rattle.fresh.specs.Fits.{is_exact, fits, refused_on}
use Rattle.fresh.specs.Fresh.{made_fresh}
use Rattle.fresh.specs.Free.{free_in}
use Rattle.fresh.proofs.Free.{free_marks_lem}
use Rattle.events.specs.Old.{old_exact, old_written, stands_for, old_form, PackedIn, PackedWords}
use Rattle.events.proofs.StandsFor.{same_length, same_pool, same_tables, event_same, event_packed}
use Rattle.pool.specs.Calls.{called}
use Rattle.pool.specs.Old.{old_fits, old_sound, old_fresh, old_called}
use Rattle.pool.proofs.Checked.{tests_known}

-- ---- one kind of mark

same_test : {n : ℕ} {words : List ℕ} → PackedIn n words → every is_mark (bits (marks_in n words)) ≡ is_packed n words
same_test {n} {words} h = (marks_tell (bits (marks_in n words))).1 (bits-low (marks_in n words)) ∙ sym ((packed_tells n words).1 h.packed)

-- how many of them are off
pub free_same : {n : ℕ} {words : List ℕ} → PackedIn n words → free_marks (marks (bits (marks_in n words))) ≡ free_in n words
free_same {n} {words} h = ap free_marks (marks-bits (marks_in n words)) ∙ sym (free_marks_lem n words h.exact h.packed)

-- ---- the two tests

module _ {s : Sizes} {t : Tables} (packed : PackedWords s t) (c : Collector) where
  pub same_fits : old_fits s (stands_for s t) ≡ fits s t
  unfolding old_exact stands_for is_exact
  same_fits =
      λ j.
      in_range s
      && (same_length packed.used s.n refl j
      && eqb (length t.counts) s.n
      && same_length packed.held s.n refl j
      && same_length packed.candidates s.n refl j
      && eqb (length t.makers) s.n
      && eqb (length t.values) (links s)
      && same_length packed.changed (links s) refl j
      && eqb (length t.registers) (s.w * s.r + 1)
      && eqb (length t.snoops) s.w
      && eqb (length t.logs) (s.w * room s)
      && eqb (length t.history) (room s)
      && eqb (length t.lengths) (s.w + 1))

  pub same_sound : old_sound s (stands_for s t) c ≡ is_sound s t c
  unfolding old_sound stands_for is_sound is_marked is_padded
  same_sound =
      λ j.
      (same_test packed.used j && same_test packed.held j && same_test packed.candidates j && same_test packed.changed j && every is_mark t.snoops)
      && is_padded s t
      && is_sound_pool s (same_pool s t c j)

  -- ---- the calls

  pub fresh_same : old_fresh s (stands_for s t) c ≡ old_form s (made_fresh s t c)
  unfolding old_fresh old_written made_fresh written
  fresh_same =
      let made : Called = old_written s (record { answer = Fresh; pool = fresh s }) in
      ap (λ (b : Bool). cond b made (refused_on WrongSize (stands_for s t) c)) same_fits ∙ by_fit (fits s t)
    where
      by_fit : (fit : Bool)
          → cond fit (old_written s (record { answer = Fresh; pool = fresh s })) (refused_on WrongSize (stands_for s t) c)
          ≡ old_form s (cond fit (written s (record { answer = Fresh; pool = fresh s })) (refused_on WrongSize t c))
      by_fit true = λ j. record { answer = Fresh; collector = (fresh s).collector; tables = sym (same_tables s (fresh s) (fresh_is_sound s)) j }
      by_fit false = refl

  -- any call that asks them: what is done, or refused with 2 or with 1, on the old tables and, in the old form, on the packed ones
  pub by_tests : {A B : Type 0} (form : A → B) {did2 no2 off2 : B} {did no off : A} → (Known s t c → did2 ≡ form did) → no2 ≡ form no → off2 ≡ form off
      → cond (old_fits s (stands_for s t)) (cond (old_sound s (stands_for s t) c) did2 no2) off2 ≡ form (cond (fits s t) (cond (is_sound s t c) did no) off)
  by_tests form {did2} {no2} {off2} {did} {no} {off} done unsound unfit =
      (λ j. cond (same_fits j) (cond (same_sound j) did2 no2) off2) ∙ by_fit (fits s t) refl (is_sound s t c) refl
    where
      by_fit : (fit : Bool) → fits s t ≡ fit → (sound : Bool) → is_sound s t c ≡ sound → cond fit (cond sound did2 no2) off2 ≡ form (cond fit (cond sound did no) off)
      by_fit false f sound h = unfit
      by_fit true f false h = unsound
      by_fit true f true h = done (tests_known s t c f h)

  -- equal answers, and tables that stand for equal tables, after any event
  pub called_same : (e : Event) → old_called s (stands_for s t) c e ≡ old_form s (called s t c e)
  unfolding called old_called
  called_same e = by_tests (old_form s) (λ lies. event_same lies e) refl refl

  -- so that it may go on from there
  pub called_packed : (e : Event) → PackedWords s (called s t c e).tables
  unfolding called
  called_packed e = by_fit (fits s t) refl (is_sound s t c) refl
    where
      by_fit : (fit : Bool) → fits s t ≡ fit → (sound : Bool) → is_sound s t c ≡ sound
          → PackedWords s (cond fit (cond sound (event_on s t c e) (refused_on NotSound t c)) (refused_on WrongSize t c)).tables
      by_fit false f sound h = packed
      by_fit true f false h = packed
      by_fit true f true h = event_packed (tests_known s t c f h) e
