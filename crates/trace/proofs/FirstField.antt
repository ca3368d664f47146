-- A whole trace, by its first field.
--     replay_starts     the replay of a trace, by what stands at its start
--     first_only, first_sizes     what is read there is sizes, in range
--     traced-refused, traced-sized     a refusal stands there, or sizes
--     refused_told, sizes_told     what is told then
-- Assumes nothing.
use Prim.Native.Nat.{ℕ}
use mathlib.Core.Path.{◌≡◌, refl, sym, ap, ◌∙◌, subst}
use mathlib.Core.Bool.{Bool, true}
use mathlib.Core.List.{List}
use native.Mathlib.Omega.{arith}
use Rattle.std.specs.Prelude.{Result, Ok, Err}
use Rattle.rules.specs.declared.Sizes.{Sizes}
use Rattle.rules.specs.declared.Collector.{Collector}
use Rattle.rules.specs.Size.{in_range}
use Rattle.tables.specs.Tables.{Tables}
use Rattle.fresh.specs.Fits.{is_exact}
use Rattle.fields.specs.declared.Stage.TheVariants.{First}
use Rattle.fields.specs.declared.Field.TheVariants as field
use Rattle.fields.specs.declared.Read.{Read}
use Rattle.fields.specs.declared.RefusedAt.{RefusedAt}
use Rattle.fields.specs.Field.{read_at}
use Rattle.trace.specs.Replay.{untouched, at_start, replayed}
use Rattle.trace.specs.Stretch.{put}
use Rattle.trace.specs.Traced.{traced_by, traced, sized}
use Rattle.trace.specs.Told.{Telling, told_sized, told_traced}
use Rattle.fields.proofs.Comes.{sizes_read, Comes, a_refusal, the_sizes, read_comes}
use Rattle.trace.proofs.Turns.{turn}
use Rattle.trace.proofs.Along.{goes_on, goes_on_turn}

pub replay_starts : (takes : Sizes → Bool) (bytes : List ℕ) → replayed takes bytes ≡ turn takes (goes_on takes bytes) 0 untouched (read_at bytes 0 at_start)
unfolding replayed
replay_starts takes bytes = goes_on_turn takes bytes 0 0 First untouched

module _ (bytes : List ℕ) {x : Read} (read : read_at bytes 0 at_start ≡ Ok x) where
  comes : Comes bytes 0 0 First (Ok x)
  comes = subst (Comes bytes 0 0 First) read (read_comes bytes 0 0 First)

  -- nothing else is read there
  pub first_only : ((s : Sizes) → x.field ≡ field.Sizes s → ⊥) → ⊥
  first_only other = by_read (Ok x) comes refl
    where
      by_read : (r : Result Read RefusedAt) → Comes bytes 0 0 First r → r ≡ Ok x → ⊥
      by_read r (a_refusal why) is = let z : ◌≡◌ {A = ℕ} 0 1 = cc in omega arith
      by_read r (the_sizes s next range lies) is = let same : sizes_read s next ≡ x = cc in other s (ap (λ (y : Read). y.field) (sym same))

  pub first_sizes : {s : Sizes} → x.field ≡ field.Sizes s → (x ≡ sizes_read s x.next) × (in_range s ≡ true)
  first_sizes {s} reads = by_read (Ok x) comes refl
    where
      by_read : (r : Result Read RefusedAt) → Comes bytes 0 0 First r → r ≡ Ok x → (x ≡ sizes_read s x.next) × (in_range s ≡ true)
      by_read r (a_refusal why) is = absurd (let z : ◌≡◌ {A = ℕ} 0 1 = cc in omega arith)
      by_read r (the_sizes other next range lies) is =
          let same : sizes_read other next ≡ x = cc in
          let sizes : other ≡ s = (let fields : field.Sizes other ≡ field.Sizes s = ap (λ (y : Read). y.field) same ∙ reads in cc) in
          (sym same ∙ (λ j. sizes_read (sizes j) (same j).next), subst (λ (z : Sizes). in_range z ≡ true) sizes range)

-- the sizes that lent tables have the lengths of
abbrev fitting : Tables → Sizes → Bool
fitting t s = is_exact s t

module _ (t : Tables) (c : Collector) (bytes room : List ℕ) where
  starts : {r : Result Read RefusedAt} → read_at bytes 0 at_start ≡ r → traced t c bytes room ≡ traced_by t c room (turn (fitting t) (goes_on (fitting t) bytes) 0 untouched r)
  unfolding traced
  starts read = ap (traced_by t c room) (replay_starts (fitting t) bytes ∙ ap (turn (fitting t) (goes_on (fitting t) bytes) 0 untouched) read)

  pub traced-refused : {e : RefusedAt} → read_at bytes 0 at_start ≡ Err e
      → traced t c bytes room ≡ record { replay = record { ending = Err e; events = 0; collector = c }; tables = t; answers = room }
  unfolding traced_by put
  traced-refused read = starts read

  pub traced-sized : {x : Read} {s : Sizes} → read_at bytes 0 at_start ≡ Ok x → x.field ≡ field.Sizes s → traced t c bytes room ≡ sized s t c bytes x.next room
  unfolding sized
  traced-sized {x} {s} read reads = starts (read ∙ ap Ok (first_sizes bytes read reads).0)

-- what is told of a trace
module _ {X : Type 0} (tell : Telling X) (t : Tables) (bytes : List ℕ) (x : X) where
  after_first : Result Read RefusedAt → X
  after_first r = elim r [
    | Err e ↦ x
    | Ok first ↦ elim first.field [
      | field.Sizes s ↦ told_sized tell s t bytes first.next x
      | field.Event n e ↦ x
      | field.End ↦ x
      | field.Nothing ↦ x
    ]
  ]

  pub refused_told : {e : RefusedAt} → read_at bytes 0 at_start ≡ Err e → x ≡ told_traced tell t bytes x
  unfolding told_traced after_first
  refused_told read = ap after_first (sym read)

  pub sizes_told : {y : Read} {s : Sizes} → read_at bytes 0 at_start ≡ Ok y → y.field ≡ field.Sizes s → told_sized tell s t bytes y.next x ≡ told_traced tell t bytes x
  unfolding told_traced after_first
  sizes_told read reads = ap after_first (ap Ok (sym (first_sizes bytes read reads).0) ∙ sym read)
