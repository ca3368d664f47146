-- A stretch done event by event, each told: what is told of the events still to be done, behind what has been told, stays the same.
--     had_is, has_is     the length of the history, before an event and after it, in its table
--     Met, meets         few counts, and a history that grows in phase 2
--     told_is            what is told of an event, by the tables
--     Following          the events of a stretch are being done and told
--     following_starts, following_goes, following_ends     before the first, by the event field that stands at the place, and where none does
-- Assumes nothing.
use Prim.Native.Nat.{ℕ, ◌+◌, ◌≤◌}
use mathlib.Core.Path.{◌≡◌, refl, sym, ap, ◌∙◌, subst}
use mathlib.Core.List.{List, [], ◌∷◌}
use native.Mathlib.Omega.{arith}
use lib.ListN.{length, get_or}
use Rattle.std.specs.Prelude.{Some, None, Ok}
use Rattle.rules.specs.declared.Sizes.{Sizes}
use Rattle.rules.specs.declared.Event.{Event}
use Rattle.rules.specs.declared.Collector.{Collector}
use Rattle.rules.specs.Pool.{Pool}
use Rattle.rules.specs.Outcome.{outcome}
use Rattle.laws.proofs.Number.{bounds}
use Rattle.tables.specs.Tables.{Tables}
use Rattle.tables.specs.Lie.{pool_of, tables_of}
use Rattle.tables.specs.Known.{Known}
use Rattle.tables.specs.Event.{Called, written, event_on}
use Rattle.tables.proofs.Entered.{length-entries}
use Rattle.fields.proofs.Comes.{event_read}
use Rattle.fields.specs.Field.{byte_at, event_at, read_at, EventSized}
use Rattle.cycles.proofs.Leaves.{history_grows}
use Rattle.trace.specs.Replay.{line_of}
use Rattle.trace.specs.Stretch.{Stretch, behind, stretch, RanOn, ran_on}
use Rattle.trace.specs.Told.{Telling, told_of, told_by, told_on}
use Rattle.trace.proofs.Put.{put_past}
use Rattle.trace.proofs.Along.{no_event_is, stretch_event, stretch-none}
use Rattle.trace.proofs.Rest.{pool_again, known_again, Going, going_starts, goes_on_lem, going_ends}

-- ---- an event on lent tables

module _ {s : Sizes} {t : Tables} {c : Collector} (known : Known s t c) (e : Event) where
  abbrev before : Pool
  before = pool_of s t c

  -- the pool after it, by what it left of the tables
  pub pool_after : {y : Called} → event_on s t c e ≡ y → pool_of s y.tables y.collector ≡ (outcome s before e).pool
  pool_after did = ap (λ (z : Called). pool_of s z.tables z.collector) (sym did) ∙ pool_again known [] 0 0 e

  had_is : length before.history ≡ get_or t.lengths s.w 0
  unfolding pool_of
  had_is = length-entries (get_or t.lengths s.w 0) t.history

  has_is : {y : Called} → event_on s t c e ≡ y → length (outcome s before e).pool.history ≡ get_or y.tables.lengths s.w 0
  unfolding pool_of
  has_is {y} did =
      ap (λ (p : Pool). length p.history) (sym (pool_after did)) ∙ length-entries (get_or y.tables.lengths s.w 0) y.tables.history

  pub record Met (y : Called) : Type 0 where
    pub counts : length y.tables.counts ≤ 1024
    pub grows : c.phase ≡ 2 → get_or t.lengths s.w 0 ≤ get_or y.tables.lengths s.w 0
    pub lengths : length y.tables.lengths ≡ s.w + 1

  pub meets : {y : Called} → event_on s t c e ≡ y → Met y
  unfolding pool_of
  meets {y} did =
      let after : Known s y.tables y.collector = subst (λ (z : Called). Known s z.tables z.collector) did (known_again known [] 0 0 e) in
      record {
        counts = omega (arith, after.exact.counts, (bounds s known.sizes).n_most);
        grows = λ two. omega (arith, had_is, has_is did, history_grows s before e two);
        lengths = after.exact.lengths;
      }

  -- what is told of it, by the tables
  module _ {X : Type 0} (tell : Telling X) (x : X) where
    abbrev told_from : Called → X
    told_from y = tell x y.tables.counts c.phase y.collector.phase (get_or t.lengths s.w 0) (get_or y.tables.lengths s.w 0) y.answer

    pub told_is : {y : Called} → event_on s t c e ≡ y → told_from y ≡ told_of tell s before x e
    unfolding pool_of event_on written tables_of
    told_is did = subst (λ (y : Called). told_from y ≡ told_of tell s before x e) did same
      where
        same : told_from (event_on s t c e) ≡ told_of tell s before x e
        same =
            let o = outcome s before e in
            λ j. tell x o.pool.records.count c.phase o.pool.collector.phase (sym had_is j) (sym (has_is refl) j) o.answer

-- ---- a stretch

pub record Following {X : Type 0} (tell : Telling X) (fits : X → ℕ → Type 0) (s : Sizes) (whole : RanOn) (told : X) (bytes : List ℕ) (t : Tables) (c : Collector) (place step done : ℕ) (x : X) : Type 0 where
  pub going : Going s whole bytes 0 [] t c place step done []
  pub same : told ≡ told_on tell s t c bytes place step x
  pub room : fits x step

module _ {X : Type 0} (tell : Telling X) (fits : X → ℕ → Type 0) where
  pub following_starts : {s : Sizes} {t : Tables} {c : Collector} → Known s t c → (bytes : List ℕ) (place step : ℕ) (x : X) → fits x step
      → Following tell fits s (ran_on s t c bytes place step []) (told_on tell s t c bytes place step x) bytes t c place step 0 x
  following_starts known bytes place step x room = record { going = going_starts known bytes place step []; same = refl; room = room }

  module _ (bytes : List ℕ) (place step : ℕ) {s : Sizes} {whole : RanOn} {told : X} {t : Tables} {c : Collector} {done : ℕ} {x : X}
      (following : Following tell fits s whole told bytes t c place step done x) where
    pub following_goes : {size : ℕ} → EventSized bytes place step (Some size) → {e : Event} {y : Called} {z : X} → e ≡ event_at (byte_at bytes place) bytes (place + 7) → event_on s t c e ≡ y
        → z ≡ tell x y.tables.counts c.phase y.collector.phase (get_or t.lengths s.w 0) (get_or y.tables.lengths s.w 0) y.answer
        → fits z (step + 1)
        → Following tell fits s whole told bytes y.tables y.collector (place + size) (step + 1) (done + 1) z
    unfolding told_by
    following_goes {size} sized {e} {y} {z} event did tells room =
        let known = following.going.known in
        let p : Pool = pool_of s t c in
        let later : List Event = (stretch bytes (place + size) (step + 1)).events in
        let events : (stretch bytes place step).events ≡ e ∷ later =
        ap (λ (r : Stretch). r.events)
        (stretch_event bytes place step (step + 1) e (place + size) (sized.reads ∙ ap (λ (d : Event). Ok (event_read (step + 1) d (place + size))) (sym event))) in
        record {
          going = goes_on_lem bytes place step following.going sized event did (put_past done (line_of (step + 1) y.answer) (omega arith) refl);
          same =
              following.same
              ∙ ap (told_by tell s p x) events
              ∙ (λ j. told_by tell s (sym (pool_after known e did) j) (sym (tells ∙ told_is known e tell x did) j) later);
          room = room;
        }

    pub following_ends : EventSized bytes place step None
        → (whole ≡ record { ran = record { next = place; step = step; events = done; collector = c }; tables = t; answers = [] }) × (told ≡ x)
    unfolding told_by
    following_ends sized = (
      going_ends bytes place step following.going sized,
      following.same
          ∙ ap (λ (r : Stretch). told_by tell s (pool_of s t c) x r.events) (stretch-none bytes place step (no_event_is (read_at bytes place (behind step)) sized.none)),
    )
