-- The report of a trace, by what stands at its start.
--     cycles_first, cycles_none     the closed cycles of a trace, by its first field: sizes, or a refusal
--     told_closes     what is told of a trace is the numbers of its closed cycles
--     told_reports, same_name     they are its report's, in the slice that was lent
-- Assumes nothing.
use Prim.Native.Nat.{ℕ, ◌+◌}
use mathlib.Core.Path.{◌≡◌, refl, sym, ap, ◌∙◌}
use mathlib.Core.Bool.{Bool, true, false, cond}
use mathlib.Core.List.{List, []}
use native.Mathlib.Omega.{arith}
use lib.IntN.{ℤ}
use lib.ListN.{length}
use Rattle.std.specs.Prelude.{Result, Ok, Err}
use Rattle.rules.specs.declared.Sizes.{Sizes}
use Rattle.rules.specs.declared.Event.{Event}
use Rattle.rules.specs.declared.Refusal.TheVariants.{WrongSize}
use Rattle.rules.specs.declared.Collector.{Collector}
use Rattle.rules.specs.Pool.{fresh}
use Rattle.rules.specs.Outcome.{after}
use Rattle.tables.specs.Tables.{Tables}
use Rattle.fresh.specs.Fits.{is_exact}
use Rattle.fields.specs.declared.Field.{Field}
use Rattle.fields.specs.declared.Field.TheVariants as field
use Rattle.fields.specs.declared.Read.{Read}
use Rattle.fields.specs.declared.RefusedAt.{RefusedAt}
use Rattle.fields.specs.Field.{read_at}
use Rattle.cycles.specs.declared.Cycle.{Cycle}
use Rattle.cycles.specs.declared.Tally.{Tally}
use Rattle.cycles.specs.Cycles.{cycles_of}
use Rattle.cycles.specs.Tally.{tally_after}
use Rattle.cycles.specs.Slice.{put_from}
use Rattle.cycles.proofs.KeptUp.{tallies_are}
use Rattle.trace.specs.declared.Replay.{Replay}
use Rattle.trace.specs.Replay.{Left, untouched, stands, Replayed, stops, with_lines, at_start, replayed}
use Rattle.trace.specs.Stretch.{behind, stretch, lines_behind}
use Rattle.trace.specs.Traced.{Traced, traced}
use Rattle.trace.specs.Told.{told_by, told_sized, told_traced}
use Rattle.trace.specs.Promise.{events_of}
use Rattle.trace.proofs.Turns.{turn}
use Rattle.trace.proofs.Along.{goes_on, stretch-ends, goes-stretch}
use Rattle.trace.proofs.Behind.{goes_last}
use Rattle.trace.proofs.FirstField.{replay_starts, first_only, first_sizes, refused_told, sizes_told}
use Rattle.tally.specs.declared.Cycles.{Cycles}
use Rattle.tally.specs.Report.{cycles_in, reported}
use Rattle.tally.specs.Told.{keeps, cycles_told}
use Rattle.tally.specs.Traced.{report_by, report_traced}
use Rattle.tally.proofs.Told.{told_none, run_is_told}

-- ---- the closed cycles of a trace

module _ (takes : Sizes → Bool) (bytes : List ℕ) where
  starts : {r : Result Read RefusedAt} → read_at bytes 0 at_start ≡ r → replayed takes bytes ≡ turn takes (goes_on takes bytes) 0 untouched r
  starts read = replay_starts takes bytes ∙ ap (turn takes (goes_on takes bytes) 0 untouched) read

  -- a pool that is made stays
  left-stands : (s : Sizes) (place : ℕ) → (goes_on takes bytes place (behind 0) (stands s (fresh s))).left ≡ stands s (after s (fresh s) (stretch bytes place 0).events)
  left-stands s place =
      let y = stretch bytes place 0 in
      ap (λ (z : Replayed). z.left)
      (goes-stretch takes bytes s (fresh s) place 0
      ∙ ap (with_lines (lines_behind 0 _)) (goes_last takes bytes s (after s (fresh s) y.events) y.next y.step (stretch-ends bytes place 0)))

  pub cycles_first : {x : Read} {s : Sizes} → read_at bytes 0 at_start ≡ Ok x → x.field ≡ field.Sizes s
      → (reported takes bytes).cycles ≡ cond (takes s) (cycles_of s (fresh s) (stretch bytes x.next 0).events) []
  unfolding reported events_of
  cycles_first {x} {s} read reads =
      ap (λ (z : Replayed). cycles_in z.left bytes) (starts (read ∙ ap Ok (first_sizes bytes read reads).0)) ∙ by_takes (takes s)
    where
      events : events_of bytes ≡ (stretch bytes x.next 0).events
      events = ap (λ (r : Result Read RefusedAt). (stretch bytes (elim r [ Ok y ↦ y.next | Err e ↦ e.place ]) 0).events) read

      by_takes : (b : Bool) → cycles_in (cond b (goes_on takes bytes x.next (behind 0) (stands s (fresh s))) (stops WrongSize 0 untouched)).left bytes
          ≡ cond b (cycles_of s (fresh s) (stretch bytes x.next 0).events) []
      by_takes true = ap (λ (left : Left). cycles_in left bytes) (left-stands s x.next) ∙ ap (cycles_of s (fresh s)) events
      by_takes false = refl

  pub cycles_none : {e : RefusedAt} → read_at bytes 0 at_start ≡ Err e → (reported takes bytes).cycles ≡ []
  unfolding reported
  cycles_none read = ap (λ (z : Replayed). cycles_in z.left bytes) (starts read)

-- ---- what is told of them

-- these cycles have closed since
abbrev pub Closes : Cycles → List Cycle → Cycles → Type 0
Closes x closed y = (tally : Tally) × (y ≡ keeps x tally closed)

module _ (t : Tables) (bytes : List ℕ) (x : Cycles) where
  -- no cycle is open in a fresh pool
  sized_closes : (s : Sizes) (place : ℕ) → Closes x (cond (is_exact s t) (cycles_of s (fresh s) (stretch bytes place 0).events) []) (told_sized cycles_told s t bytes place x)
  unfolding told_sized fresh
  sized_closes s place = by_exact (is_exact s t)
    where
      events : List Event
      events = (stretch bytes place 0).events

      by_exact : (b : Bool) → Closes x (cond b (cycles_of s (fresh s) events) []) (cond b (told_by cycles_told s (fresh s) x events) x)
      by_exact true =
          let tally : Tally = tally_after s (fresh s) x.tallied.tally events in
          (tally, run_is_told s (fresh s) x events ∙ ap (keeps x tally) (tallies_are s events (fresh s) x.tallied.tally refl))
      by_exact false = (x.tallied.tally, told_none x)

  pub told_closes : Closes x (reported (λ s. is_exact s t) bytes).cycles (told_traced cycles_told t bytes x)
  told_closes = by_read (read_at bytes 0 at_start) refl
    where
      by_read : (r : Result Read RefusedAt) → read_at bytes 0 at_start ≡ r → Closes x (reported (λ s. is_exact s t) bytes).cycles (told_traced cycles_told t bytes x)
      by_read (Err e) read = (
        x.tallied.tally,
        sym (refused_told cycles_told t bytes x read) ∙ told_none x ∙ ap (keeps x x.tallied.tally) (sym (cycles_none (λ s. is_exact s t) bytes read)),
      )
      by_read (Ok first) read = by_field first.field refl
        where
          other : (f : Field) → first.field ≡ f → ((s : Sizes) → f ≡ field.Sizes s → ⊥) → Closes x (reported (λ s. is_exact s t) bytes).cycles (told_traced cycles_told t bytes x)
          other f is none = absurd (first_only bytes read (λ s reads. none s (sym is ∙ reads)))

          by_field : (f : Field) → first.field ≡ f → Closes x (reported (λ s. is_exact s t) bytes).cycles (told_traced cycles_told t bytes x)
          by_field (field.Sizes s) is =
              let closes = sized_closes s first.next in (
                closes.0,
                sym (sizes_told cycles_told t bytes x read is) ∙ closes.1 ∙ ap (keeps x closes.0) (sym (cycles_first (λ s. is_exact s t) bytes read is)),
              )
          by_field (field.Event n e) is = other (field.Event n e) is (λ s same. let z : ◌≡◌ {A = ℕ} 0 1 = cc in omega arith)
          by_field field.End is = other field.End is (λ s same. let z : ◌≡◌ {A = ℕ} 0 1 = cc in omega arith)
          by_field field.Nothing is = other field.Nothing is (λ s same. let z : ◌≡◌ {A = ℕ} 0 1 = cc in omega arith)

-- ---- in the slice that was lent

module _ (t : Tables) (bytes : List ℕ) (x : Cycles) {y : Cycles} (told : y ≡ told_traced cycles_told t bytes x) where
  pub same_name : y.numbers.ghost_name ≡ x.numbers.ghost_name
  same_name = ap (λ (z : Cycles). z.numbers.ghost_name) (told ∙ (told_closes t bytes x).1)

  pub told_reports : (c : Collector) {replay : Replay} {left : Tables} → x.tallied.cycles ≡ 0 → traced t c bytes [] ≡ record { replay = replay; tables = left; answers = [] }
      → report_traced t c bytes x.numbers.now ≡ record { report = record { replay = replay; cycles = y.tallied.cycles }; tables = left; numbers = y.numbers.now }
  unfolding report_traced put_from
  told_reports c {replay} {left} none done =
      let closed : List Cycle = (reported (λ s. is_exact s t) bytes).cycles in
      let room : List ℤ = x.numbers.now in
      let count : length closed ≡ x.tallied.cycles + length closed = omega (arith, none) in
      ap (λ (z : Traced). report_by z closed room) done
      ∙ (λ j. record { report = record { replay = replay; cycles = count j }; tables = left; numbers = put_from (sym none j) room closed })
      ∙ ap (λ (z : Cycles). record { report = record { replay = replay; cycles = z.tallied.cycles }; tables = left; numbers = z.numbers.now }) (sym (told ∙ (told_closes t bytes x).1))
