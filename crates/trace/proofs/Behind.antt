-- How a trace stands behind its events is how its replay ends.
--     look            a look at one field more
--     finished        a replay that prints no more lines
--     goes-stood      where a trace has ended its replay ends so, and leaves the pool as it is
--     never_waits     behind the last byte of a trace nothing is waited for
-- Assumes nothing.
use Prim.Native.Nat.{ℕ, zero, suc, ◌+◌, ◌-◌, ◌≤◌, ◌<◌}
use mathlib.Core.Path.{◌≡◌, refl, sym, ap, ◌∙◌}
use mathlib.Core.Bool.{Bool, true, false, cond, not, ◌&&◌}
use mathlib.Core.List.{List, []}
use mathlib.Core.Logic.{◌⊎◌, inl, inr, ⊎_elim}
use native.Mathlib.Omega.{arith}
use borrow.Author.Tests.{lt-ltb, le-ltb}
use lib.Dec.{ltb}
use lib.ListN.{length}
use Rattle.std.specs.Prelude.{Option, Some, None, Result, Ok, Err}
use Rattle.rules.specs.declared.Sizes.{Sizes}
use Rattle.rules.specs.declared.Refusal.TheVariants.{WrongTag}
use Rattle.rules.specs.Pool.{Pool}
use Rattle.rules.specs.Outcome.{free_records}
use Rattle.laws.proofs.Tests.{below_or_not}
use Rattle.fields.specs.declared.Stage.TheVariants.{Events, Ended}
use Rattle.fields.specs.declared.Reader.{Reader}
use Rattle.fields.specs.declared.Field.{Field}
use Rattle.fields.specs.declared.Field.TheVariants as field
use Rattle.fields.specs.declared.Read.{Read}
use Rattle.fields.specs.declared.RefusedAt.{RefusedAt}
use Rattle.fields.specs.Field.{refused_at, read_at}
use Rattle.fields.specs.Part.{longest}
use Rattle.trace.specs.declared.Stood.{Stood}
use Rattle.trace.specs.Replay.{Ending, ended_whole, stands, Replayed}
use Rattle.trace.specs.Stretch.{behind}
use Rattle.trace.specs.Stand.{waits, ended, stood, stand_behind, ending_of}
use Rattle.fields.proofs.Comes.{reader_at, Comes, a_refusal, an_event, the_end, nothing, read_comes}
use Rattle.trace.proofs.Turns.{turn}
use Rattle.trace.proofs.Along.{is_event, goes_on, goes_on_turn}

-- a look at one field more, which waits or goes on so
abbrev pub look : Bool → (ℕ → Reader → Stood) → ℕ → ℕ → ℕ → Reader → Result Read RefusedAt → Stood
look wait onward free closed place reader r =
    cond wait
    (record { stand = None; next = place; reader = reader })
    (elim r [
      | Err e ↦ ended (Err e) place reader
      | Ok x ↦ elim x.field [
        | field.Sizes s ↦ ended (refused_at WrongTag place) place reader
        | field.Event n e ↦ ended (refused_at WrongTag place) place reader
        | field.End ↦ onward x.next x.reader
        | field.Nothing ↦ ended (ended_whole free closed) place reader
      ]
    ])

-- ---- the test of the bytes that are left

-- fewer than a field may have
pub few_left : (n place : ℕ) (b : Bool) → ((n < longest) × (b ≡ ltb n longest)) ⊎ ((longest ≤ n) × (b ≡ ltb (n - longest) place)) → b ≡ ltb n (place + longest)
few_left n place b (inl h) = h.1 ∙ lt-ltb n longest h.0 ∙ sym (lt-ltb n (place + longest) (omega (arith, h.0)))
few_left n place b (inr h) =
    let long : longest ≤ n = h.0 in
    h.1
    ∙ ⊎_elim
    (λ few. lt-ltb (n - longest) place few ∙ sym (lt-ltb n (place + longest) (omega arith)))
    (λ more. le-ltb (n - longest) place more ∙ sym (le-ltb n (place + longest) (omega arith)))
    (below_or_not (n - longest) place)

pub waits_are : (last : Bool) (bytes : List ℕ) (place : ℕ) {few wait : Bool} → few ≡ ltb (length bytes) (place + longest) → (not last && few) ≡ wait → waits last bytes place ≡ wait
unfolding waits
waits_are last bytes place few test = ap (λ (b : Bool). not last && b) (sym few) ∙ test

-- ---- one look

module _ (fields : ℕ) (last : Bool) (free closed : ℕ) (bytes : List ℕ) (place : ℕ) (reader : Reader) (more : 0 < fields) where
  -- what is said of the next fields, where there are some to look at
  stood-looks : stood fields last free closed bytes place reader
      ≡ look (waits last bytes place) (stood (fields - 1) last free closed bytes) free closed place reader (read_at bytes place reader)
  unfolding stood
  stood-looks = let one : fields ≡ suc (fields - 1) = omega arith in ap (λ (n : ℕ). stood n last free closed bytes place reader) one

  pub look_waits : waits last bytes place ≡ true → record { stand = None; next = place; reader = reader } ≡ stood fields last free closed bytes place reader
  look_waits wait =
      sym (stood-looks ∙ ap (λ (b : Bool). look b (stood (fields - 1) last free closed bytes) free closed place reader (read_at bytes place reader)) wait)

  pub look_finds : {r : Result Read RefusedAt} → waits last bytes place ≡ false → read_at bytes place reader ≡ r
      → look false (stood (fields - 1) last free closed bytes) free closed place reader r ≡ stood fields last free closed bytes place reader
  look_finds {r} go read =
      let onward = stood (fields - 1) last free closed bytes in
      ap (look false onward free closed place reader) (sym read)
      ∙ sym (stood-looks ∙ ap (λ (b : Bool). look b onward free closed place reader (read_at bytes place reader)) go)

  -- such a field
  pub look_field : {x : Read} {f : Field} → waits last bytes place ≡ false → read_at bytes place reader ≡ Ok x → x.field ≡ f
      → look false (stood (fields - 1) last free closed bytes) free closed place reader (Ok (record { field = f; next = x.next; reader = x.reader }))
      ≡ stood fields last free closed bytes place reader
  look_field {x} {f} go read reads =
      let onward = stood (fields - 1) last free closed bytes in
      ap (λ (g : Field). look false onward free closed place reader (Ok (record { field = g; next = x.next; reader = x.reader }))) (sym reads) ∙ look_finds go read

  -- a sizes field or an event
  pub look_other : {x : Read} → waits last bytes place ≡ false → read_at bytes place reader ≡ Ok x → (x.field ≡ field.End → ⊥) → (x.field ≡ field.Nothing → ⊥)
      → ended (refused_at WrongTag place) place reader ≡ stood fields last free closed bytes place reader
  look_other {x} go read end none = by_field x.field end none ∙ look_field go read refl
    where
      by_field : (f : Field) → (f ≡ field.End → ⊥) → (f ≡ field.Nothing → ⊥)
          → ended (refused_at WrongTag place) place reader
          ≡ look false (stood (fields - 1) last free closed bytes) free closed place reader (Ok (record { field = f; next = x.next; reader = x.reader }))
      by_field (field.Sizes s) end none = refl
      by_field (field.Event n e) end none = refl
      by_field field.End end none = absurd (end refl)
      by_field field.Nothing end none = absurd (none refl)

pub stood_out : (last : Bool) (free closed : ℕ) (bytes : List ℕ) (place : ℕ) (reader : Reader)
    → ended (refused_at WrongTag place) place reader ≡ stood 0 last free closed bytes place reader
unfolding stood
stood_out last free closed bytes place reader = refl

abbrev pub finished : Sizes → Pool → Ending → Replayed
finished s q ending = record { lines = []; ending = ending; left = stands s q }

-- a trace that waits has not ended
waiting : {ending : Ending} → None ≡ Some ending → ⊥
waiting h = let z : ◌≡◌ {A = ℕ} 0 1 = cc in omega arith

finishes : (s : Sizes) (q : Pool) (first second : Ending) → Some first ≡ Some second → finished s q first ≡ finished s q second
finishes s q first second h = let same : first ≡ second = cc in ap (finished s q) same

module _ (takes : Sizes → Bool) (bytes : List ℕ) (s : Sizes) (q : Pool) (last : Bool) (ending : Ending) where
  abbrev stood_on : ℕ → ℕ → Reader → Stood
  stood_on fields = stood fields last (free_records q) q.collector.closed bytes

  -- behind the end field
  goes-ended : (fields place step : ℕ) → (stood_on (suc fields) place (reader_at Ended step)).stand ≡ Some ending
      → goes_on takes bytes place (reader_at Ended step) (stands s q) ≡ finished s q ending
  unfolding stood
  goes-ended fields place step h =
      goes_on_turn takes bytes place step Ended (stands s q)
      ∙ by_read (waits last bytes place) (read_at bytes place (reader_at Ended step)) (read_comes bytes place step Ended) h
    where
      by_read : (wait : Bool) (x : Result Read RefusedAt) → Comes bytes place step Ended x
          → (look wait (stood_on fields) (free_records q) q.collector.closed place (reader_at Ended step) x).stand ≡ Some ending
          → turn takes (goes_on takes bytes) place (stands s q) x ≡ finished s q ending
      by_read true x comes h = absurd (waiting h)
      by_read false x (a_refusal why) h = finishes s q _ _ h
      by_read false x nothing h = finishes s q _ _ h

  pub goes-stood : (place step : ℕ) → is_event (read_at bytes place (behind step)) ≡ false
      → (stand_behind last (free_records q) q.collector.closed bytes place (behind step)).stand ≡ Some ending
      → goes_on takes bytes place (behind step) (stands s q) ≡ finished s q ending
  unfolding stood
  goes-stood place step none h =
      goes_on_turn takes bytes place step Events (stands s q)
      ∙ by_read (waits last bytes place) (read_at bytes place (behind step)) (read_comes bytes place step Events) none h
    where
      by_read : (wait : Bool) (x : Result Read RefusedAt) → Comes bytes place step Events x → is_event x ≡ false
          → (look wait (stood_on 1) (free_records q) q.collector.closed place (behind step) x).stand ≡ Some ending
          → turn takes (goes_on takes bytes) place (stands s q) x ≡ finished s q ending
      by_read true x comes none h = absurd (waiting h)
      by_read false x (a_refusal why) none h = finishes s q _ _ h
      by_read false x (an_event e next lies) none h = absurd (let z : ◌≡◌ {A = ℕ} 0 1 = cc in omega arith)
      by_read false x (the_end next lies) none h = goes-ended 0 next step h

pub never_waits : (fields free closed : ℕ) (bytes : List ℕ) (place : ℕ) (reader : Reader) → (stood fields true free closed bytes place reader).stand ≡ None → ⊥
unfolding stood waits
never_waits zero free closed bytes place reader h = waiting (sym h)
never_waits (suc fields) free closed bytes place reader h = by_read (read_at bytes place reader) (λ x. never_waits fields free closed bytes x.next x.reader) h
  where
    onward : ℕ → Reader → Stood
    onward = stood fields true free closed bytes

    by_read : (r : Result Read RefusedAt) → ((x : Read) → (onward x.next x.reader).stand ≡ None → ⊥) → (look false onward free closed place reader r).stand ≡ None → ⊥
    by_read (Err e) more h = waiting (sym h)
    by_read (Ok x) more h = by_field x.field (more x) h
      where
        by_field : (f : Field) → ((onward x.next x.reader).stand ≡ None → ⊥)
            → (look false onward free closed place reader (Ok (record { field = f; next = x.next; reader = x.reader }))).stand ≡ None → ⊥
        by_field (field.Sizes s) more h = waiting (sym h)
        by_field (field.Event n e) more h = waiting (sym h)
        by_field field.End more h = more h
        by_field field.Nothing more h = waiting (sym h)

-- behind the last byte of a trace
module _ (takes : Sizes → Bool) (bytes : List ℕ) (s : Sizes) (q : Pool) (place step : ℕ) (none : is_event (read_at bytes place (behind step)) ≡ false) where
  pub goes_last : goes_on takes bytes place (behind step) (stands s q)
      ≡ finished s q (ending_of (stand_behind true (free_records q) q.collector.closed bytes place (behind step)).stand place)
  goes_last = by_stand (stand_behind true (free_records q) q.collector.closed bytes place (behind step)).stand refl
    where
      by_stand : (x : Option Ending) → (stand_behind true (free_records q) q.collector.closed bytes place (behind step)).stand ≡ x
          → goes_on takes bytes place (behind step) (stands s q) ≡ finished s q (ending_of x place)
      by_stand None e = absurd (never_waits 2 (free_records q) q.collector.closed bytes place (behind step) e)
      by_stand (Some ending) e = goes-stood takes bytes s q true ending place step none e
