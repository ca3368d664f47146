-- How a part begins, on the arrays, by whether the sizes field has been read.
--     takes_same                 the same of another part
--     first_waits_lem                fewer bytes than a field may have, and more may come
--     first_refused, first_large, first_only_sizes     what comes first is refused
--     first_goes                 the sizes come first: a fresh pool lies in the arrays, and the rest is a part behind the sizes field
--     later_small, later_events, later_ended     the sizes field has been read before, and the end field has not, or has
--     whole_lines, whole_sound   the lines of a part are those of its events, and these are done on a sound pool
--     goes-taken                 the events are done, and how the trace stands behind them is asked: that is the part
--     goes_work, goes-told, stays-told     the events of a part, and what is told of them; of a part with no event nothing is
-- Assumes nothing.
use Prim.Native.Nat.{ℕ, ◌+◌}
use mathlib.Core.Path.{◌≡◌, refl, sym, ap, ◌∙◌, subst}
use mathlib.Core.Bool.{Bool, true, false, cond}
use mathlib.Core.List.{List, []}
use native.Mathlib.Omega.{arith}
use native.Mathlib.Nat.{add-zero}
use lib.ListN.{length, take}
use Rattle.std.specs.Prelude.{Option, Some, None, Result, Ok, Err}
use Rattle.rules.specs.declared.Sizes.{Sizes}
use Rattle.rules.specs.declared.Event.{Event}
use Rattle.rules.specs.declared.Refusal.TheVariants.{WrongSize}
use Rattle.rules.specs.Size.{in_range}
use Rattle.rules.specs.Pool.{Pool, fresh}
use Rattle.tables.specs.Bits.{word_count}
use Rattle.tables.specs.Tables.{Tables}
use Rattle.tables.specs.Lie.{pool_of}
use Rattle.tables.specs.Known.{Known}
use Rattle.fresh.specs.Free.{free_in}
use Rattle.fields.specs.declared.Stage.{Stage}
use Rattle.fields.specs.declared.Stage.TheVariants.{First, Events, Ended}
use Rattle.fields.specs.declared.Reader.{Reader}
use Rattle.fields.specs.declared.Field.TheVariants as field
use Rattle.fields.specs.declared.Read.{Read}
use Rattle.fields.specs.declared.RefusedAt.{RefusedAt}
use Rattle.fields.specs.Field.{read_at}
use Rattle.fields.proofs.Comes.{reader_at, sizes_read}
use Rattle.trace.specs.declared.Ran.{Ran}
use Rattle.trace.specs.Replay.{Left, Ending, untouched, stands, at_start}
use Rattle.trace.specs.Stretch.{behind, stretch, lines_behind, put, ran_on}
use Rattle.trace.specs.Stand.{waits, stand_behind}
use Rattle.trace.specs.Told.{Telling, told_by, told_on}
use Rattle.trace.proofs.FirstField.{first_only, first_sizes}
use Rattle.parts.specs.declared.Progress.{Progress}
use Rattle.parts.specs.declared.Part.{Part}
use Rattle.parts.specs.Part.{Taken, rest_taken, stops_at, first_taken, part_taken}
use Rattle.parts.specs.Arrays as arrays
use Rattle.parts.specs.Arrays.{is_small, front, left_in, Holds, Later, HoldsAt, Set, part_of, Takes}
use Rattle.parts.specs.Work.{Work, no_work, rest_work, first_work, part_work, work_told}
use Rattle.parts.specs.Begun.{whole_part, whole_work, GoesOn, StaysSo}
use Rattle.parts.proofs.Aside.{at_rest, aside_known, aside_pool}
use Rattle.parts.proofs.Between.{first_of, work_of}
use Rattle.parts.proofs.Rest.{left_later, events_taken_lem, ended-taken}
use Rattle.parts.proofs.Works.{work_lines, rest_lines, first_lines, SoundWork, first_sound}

-- ---- the same of another part

pub takes_same : {taken other : Taken} {x y : Progress} {room filled : List ℕ} {part : Part} {t : Tables}
    → other ≡ taken → y.reader.step ≡ x.reader.step → Takes taken x room part t filled → Takes other y room part t filled
takes_same {room = room} {part = part} same steps takes =
    record {
      stood = ap (λ (z : Taken). z.stood) same ∙ takes.stood;
      events = takes.events ∙ ap (λ (z : Taken). length z.lines) (sym same);
      numbered = (
        takes.numbered.0,
        ap (λ (z : Taken). z.lines) same ∙ takes.numbered.1 ∙ ap (λ (n : ℕ). lines_behind n takes.numbered.0) (sym steps),
      );
      answers = takes.answers ∙ ap (λ (z : Taken). put room z.lines) (sym same);
      left = takes.left ∙ ap (λ (z : Taken). z.left) (sym same);
      set = takes.set;
      step = takes.step ∙ ap (λ (n : ℕ). n + part.events) (sym steps);
    }

module _ {x : Progress} {t : Tables} (set : Set x t) (last : Bool) (bytes : List ℕ) where
  abbrev whole : Taken
  whole = whole_part x t last bytes

  -- ---- before the first field

  module _ (first : x.reader.stage ≡ First) where
    at_first_lem : HoldsAt First x t
    at_first_lem = subst (λ (stage : Stage). HoldsAt stage x t) first set.holds

    at_begin : x.reader ≡ at_start
    at_begin = λ j. record { stage = first j; step = at_first_lem.1 j }

    first_left : left_in x t ≡ untouched
    unfolding left_in
    first_left =
        let pool : Left = stands x.sizes (pool_of x.sizes (front x.sizes t) x.collector) in
        ap (λ (stage : Stage). elim stage [ First ↦ untouched | Events ↦ pool | Ended ↦ pool ]) first

    first_whole : whole ≡ first_taken is_small last bytes x.reader
    unfolding part_taken
    first_whole = ap (part_taken is_small last bytes x.reader) first_left

    first_whole_work : whole_work x t last bytes ≡ first_work is_small last bytes x.reader
    unfolding part_work
    first_whole_work = ap (part_work is_small last bytes x.reader) first_left

    -- nothing is done
    abbrev undone : Option Ending → Taken
    undone how = record { lines = []; stood = record { stand = how; next = 0; reader = x.reader }; left = untouched }

    takes_none : (room : List ℕ) {how : Option Ending} → whole ≡ undone how → Takes whole x room (record { stand = how; next = 0; events = 0; progress = x }) t room
    unfolding put lines_behind
    takes_none room none =
        record {
          stood = ap (λ (z : Taken). z.stood) none;
          events = ap (λ (z : Taken). length z.lines) (sym none);
          numbered = ([], ap (λ (z : Taken). z.lines) none);
          answers = ap (λ (z : Taken). put room z.lines) (sym none);
          left = first_left ∙ ap (λ (z : Taken). z.left) (sym none);
          set = set;
          step = sym (add-zero x.reader.step);
        }

    -- by the field that was read
    abbrev looked : Bool → Result Read RefusedAt → Taken
    looked wait r = cond wait (undone None) (first_of last bytes is_small x.reader r)

    first_looked : whole ≡ looked (waits last bytes 0) (read_at bytes 0 x.reader)
    unfolding first_taken
    first_looked = first_whole

    -- and its events
    abbrev work_looked : Bool → Result Read RefusedAt → Work
    work_looked wait r = cond wait no_work (work_of bytes is_small r)

    first_work_lem : whole_work x t last bytes ≡ work_looked (waits last bytes 0) (read_at bytes 0 x.reader)
    unfolding first_work
    first_work_lem = first_whole_work

    pub first_waits_lem : waits last bytes 0 ≡ true → StaysSo x t last bytes (record { stand = None; next = 0; events = 0; progress = x })
    first_waits_lem wait =
        record {
          none = refl;
          idle = ap (λ (z : Work). z.events) (first_work_lem ∙ ap (λ (b : Bool). work_looked b (read_at bytes 0 x.reader)) wait);
          takes = λ room. takes_none room (first_looked ∙ ap (λ (b : Bool). looked b (read_at bytes 0 x.reader)) wait);
        }

    module _ (go : waits last bytes 0 ≡ false) where
      first_chosen : {r : Result Read RefusedAt} → read_at bytes 0 x.reader ≡ r → whole ≡ first_of last bytes is_small x.reader r
      first_chosen read = first_looked ∙ ap (λ (b : Bool). looked b (read_at bytes 0 x.reader)) go ∙ ap (first_of last bytes is_small x.reader) read

      chosen_work : {r : Result Read RefusedAt} → read_at bytes 0 x.reader ≡ r → whole_work x t last bytes ≡ work_of bytes is_small r
      chosen_work read = first_work_lem ∙ ap (λ (b : Bool). work_looked b (read_at bytes 0 x.reader)) go ∙ ap (work_of bytes is_small) read

      stops_first : (e : RefusedAt) → whole ≡ stops_at e.why e.place x.reader → whole_work x t last bytes ≡ no_work
          → StaysSo x t last bytes (record { stand = Some (Err e); next = 0; events = 0; progress = x })
      stops_first e none work = record { none = refl; idle = ap (λ (z : Work). z.events) work; takes = λ room. takes_none room none }

      pub first_refused : {e : RefusedAt} → read_at bytes 0 x.reader ≡ Err e → StaysSo x t last bytes (record { stand = Some (Err e); next = 0; events = 0; progress = x })
      first_refused {e} read = stops_first e (first_chosen read) (chosen_work read)

      module _ {y : Read} (read : read_at bytes 0 x.reader ≡ Ok y) where
        read_first : read_at bytes 0 at_start ≡ Ok y
        read_first = ap (read_at bytes 0) (sym at_begin) ∙ read

        pub first_only_sizes : ((s : Sizes) → y.field ≡ field.Sizes s → ⊥) → ⊥
        first_only_sizes other = first_only bytes read_first other

        -- the sizes come first
        module _ {s : Sizes} (reads : y.field ≡ field.Sizes s) where
          sized : (y ≡ sizes_read s y.next) × (in_range s ≡ true)
          sized = first_sizes bytes read_first reads

          there : read_at bytes 0 x.reader ≡ Ok (sizes_read s y.next)
          there = read ∙ ap Ok sized.0

          pub first_large : is_small s ≡ false → StaysSo x t last bytes (record { stand = Some (Err (record { why = WrongSize; place = 0 })); next = 0; events = 0; progress = x })
          first_large large =
              stops_first _
              (first_chosen there ∙ ap (λ (b : Bool). cond b (rest_taken last bytes y.next (reader_at Events 0) s (fresh s)) (stops_at WrongSize 0 x.reader)) large)
              (chosen_work there ∙ ap (λ (b : Bool). cond b (rest_work bytes y.next (reader_at Events 0) s (fresh s)) no_work) large)

          module _ (small : is_small s ≡ true) where
            fresh_lies : fresh s ≡ pool_of s (front s t) at_rest
            fresh_lies = sym (ap (λ (z : Tables). pool_of s (front s z) at_rest) at_first_lem.0 ∙ aside_pool s small)

            pub first_goes : GoesOn x t last bytes (record { reader = y.reader; sizes = s; collector = at_rest }) y.next
            first_goes =
                record {
                  holds = record { small = small; known = subst (λ (z : Tables). Known s (front s z) at_rest) (sym at_first_lem.0) (aside_known s small sized.1) };
                  events = ap (λ (z : Read). z.reader.stage) sized.0;
                  step = ap (λ (z : Read). z.reader.step) sized.0 ∙ sym at_first_lem.1;
                  same =
                      first_chosen there
                      ∙ ap (λ (b : Bool). cond b (rest_taken last bytes y.next (reader_at Events 0) s (fresh s)) (stops_at WrongSize 0 x.reader)) small
                      ∙ (λ j. rest_taken last bytes y.next (sym sized.0 j).reader s (fresh_lies j));
                  work =
                      chosen_work there
                      ∙ ap (λ (b : Bool). cond b (rest_work bytes y.next (reader_at Events 0) s (fresh s)) no_work) small
                      ∙ (λ j. rest_work bytes y.next (sym sized.0 j).reader s (fresh_lies j));
                }

  -- ---- behind the sizes field

  abbrev pool : Pool
  pool = pool_of x.sizes (front x.sizes t) x.collector

  -- a pool lies in the arrays
  module _ (stage : Stage) (later : Later stage) (is : x.reader.stage ≡ stage) where
    later_holds : Holds x t
    later_holds = by_stage stage later (subst (λ (z : Stage). HoldsAt z x t) is set.holds)
      where
        by_stage : (stage : Stage) → Later stage → HoldsAt stage x t → Holds x t
        by_stage First later holds = absurd later
        by_stage Events later holds = holds
        by_stage Ended later holds = holds

    whole_later : whole ≡ rest_taken last bytes 0 x.reader x.sizes pool
    unfolding left_in part_taken
    whole_later = ap (part_taken is_small last bytes x.reader) (left_later x.reader.stage (stands x.sizes pool) (subst Later (sym is) later))

    work_later : whole_work x t last bytes ≡ rest_work bytes 0 x.reader x.sizes pool
    unfolding left_in part_work
    work_later = ap (part_work is_small last bytes x.reader) (left_later x.reader.stage (stands x.sizes pool) (subst Later (sym is) later))

    later_lines : whole.lines ≡ work_lines x.reader.step (whole_work x t last bytes)
    later_lines =
        ap (λ (z : Taken). z.lines) whole_later
        ∙ rest_lines last bytes 0 x.reader x.sizes pool
        ∙ ap (work_lines x.reader.step) (sym work_later)

    later_sound : SoundWork (whole_work x t last bytes)
    unfolding rest_work
    later_sound = subst SoundWork (sym work_later) (later_holds.known.sizes, later_holds.known.tables.sound)

  pub later_small : x.reader.stage ≡ Ended → is_small x.sizes ≡ true
  later_small is = (later_holds Ended tt is).small

  pub later_events : x.reader.stage ≡ Events → GoesOn x t last bytes x 0
  later_events is = record { holds = later_holds Events tt is; events = is; step = refl; same = whole_later Events tt is; work = work_later Events tt is }

  pub later_ended : x.reader.stage ≡ Ended → {part : Part}
      → part ≡ part_of x (stand_behind last (free_in x.sizes.n (take (word_count x.sizes.n) t.used)) x.collector.closed bytes 0 x.reader) 0
      → StaysSo x t last bytes part
  unfolding front rest_work
  later_ended is answered =
      let events : List Event = (stretch bytes 0 x.reader.step).events in
      subst (StaysSo x t last bytes) (sym answered)
      (record {
        none = refl;
        idle = ap (λ (z : Work). z.events) (work_later Ended tt is) ∙ ap (λ (stage : Stage). elim stage [ First ↦ events | Events ↦ events | Ended ↦ [] ]) is;
        takes = λ room. takes_same (whole_later Ended tt is) refl (ended-taken set.long (later_holds Ended tt is) last bytes 0 room is refl);
      })

  -- ---- the lines

  pub whole_lines : whole.lines ≡ work_lines x.reader.step (whole_work x t last bytes)
  whole_lines = by_stage x.reader.stage refl
    where
      by_stage : (stage : Stage) → x.reader.stage ≡ stage → whole.lines ≡ work_lines x.reader.step (whole_work x t last bytes)
      by_stage First is =
          ap (λ (z : Taken). z.lines) (first_whole is)
          ∙ subst (λ (r : Reader). (first_taken is_small last bytes r).lines ≡ work_lines r.step (first_work is_small last bytes r)) (sym (at_begin is)) (first_lines is_small last bytes)
          ∙ ap (work_lines x.reader.step) (sym (first_whole_work is))
      by_stage Events is = later_lines Events tt is
      by_stage Ended is = later_lines Ended tt is

  pub whole_sound : SoundWork (whole_work x t last bytes)
  whole_sound = by_stage x.reader.stage refl
    where
      by_stage : (stage : Stage) → x.reader.stage ≡ stage → SoundWork (whole_work x t last bytes)
      by_stage First is = subst SoundWork (ap (first_work is_small last bytes) (sym (at_begin is)) ∙ sym (first_whole_work is)) (first_sound is_small last bytes)
      by_stage Events is = later_sound Events tt is
      by_stage Ended is = later_sound Ended tt is

-- ---- the events of a part

module _ {x : Progress} {t : Tables} (last : Bool) (bytes : List ℕ) {y : Progress} {place : ℕ} (goes : GoesOn x t last bytes y place) where
  pub goes-taken : Set x t → (room : List ℕ) {ran : Ran} {left : Tables} {filled : List ℕ} {part : Part}
      → arrays.Runs y.sizes (ran_on y.sizes (front y.sizes t) y.collector bytes place x.reader.step room) ran left filled
      → part
      ≡ part_of (record { reader = behind ran.step; sizes = y.sizes; collector = ran.collector })
      (stand_behind last (free_in y.sizes.n (take (word_count y.sizes.n) left.used)) ran.collector.closed bytes ran.next (behind ran.step))
      ran.events
      → Takes (whole_part x t last bytes) x room part left filled
  unfolding front
  goes-taken set room {ran} {left} {filled} runs answered =
      let from : arrays.Runs y.sizes (ran_on y.sizes (front y.sizes t) y.collector bytes place y.reader.step room) ran left filled =
      subst (λ (n : ℕ). arrays.Runs y.sizes (ran_on y.sizes (front y.sizes t) y.collector bytes place n room) ran left filled) (sym goes.step) runs in
      subst (λ (z : Part). Takes (whole_part x t last bytes) x room z left filled) (sym answered)
      (takes_same goes.same (sym goes.step)
      (events_taken_lem set.long goes.holds last bytes place room (subst Later (sym goes.events) tt) (λ closed. not-ended (sym goes.events ∙ closed)) from refl))
    where
      not-ended : Events ≡ Ended → ⊥
      not-ended h = let z : ◌≡◌ {A = ℕ} 0 1 = cc in omega arith

  pub goes_work : whole_work x t last bytes
      ≡ record { pool = stands y.sizes (pool_of y.sizes (front y.sizes t) y.collector); events = (stretch bytes place x.reader.step).events }
  unfolding rest_work
  goes_work =
      goes.work
      ∙ (λ j.
      record {
        pool = stands y.sizes (pool_of y.sizes (front y.sizes t) y.collector);
        events =
            elim (goes.events j) [
              | First ↦ (stretch bytes place (goes.step j)).events
              | Events ↦ (stretch bytes place (goes.step j)).events
              | Ended ↦ []
            ];
      })

  pub goes-told : {X : Type 0} (tell : Telling X) (z : X)
      → told_on tell y.sizes (front y.sizes t) y.collector bytes place x.reader.step z ≡ work_told tell (whole_work x t last bytes) z
  unfolding work_told
  goes-told tell z = ap (λ (w : Work). work_told tell w z) (sym goes_work)

pub stays-told : {x : Progress} {t : Tables} {last : Bool} {bytes : List ℕ} {part : Part} → StaysSo x t last bytes part
    → {X : Type 0} (tell : Telling X) (z : X) → z ≡ work_told tell (whole_work x t last bytes) z
unfolding work_told told_by
stays-told {x} {t} {last} {bytes} stays tell z =
    by_pool (whole_work x t last bytes).pool
    ∙ ap (λ (events : List Event). work_told tell (record { pool = (whole_work x t last bytes).pool; events = events }) z) (sym stays.idle)
  where
    by_pool : (left : Left) → z ≡ work_told tell (record { pool = left; events = [] }) z
    by_pool untouched = refl
    by_pool (stands s p) = refl
