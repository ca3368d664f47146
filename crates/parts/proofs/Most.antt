-- How many events a part has: each has 7 bytes at least.
--     lines_most     the lines of a part, by its bytes
--     events_most    and its events
-- Assumes nothing.
use Prim.Native.Nat.{ℕ, ◌+◌, ◌*◌, ◌≤◌}
use mathlib.Core.Path.{◌≡◌, refl, ap}
use mathlib.Core.Bool.{Bool}
use mathlib.Core.List.{List, []}
use native.Mathlib.Omega.{arith}
use lib.ListN.{length}
use Rattle.std.specs.Prelude.{Result, Ok, Err}
use Rattle.rules.specs.declared.Sizes.{Sizes}
use Rattle.rules.specs.Pool.{Pool, fresh}
use Rattle.rules.specs.Outcome.{answers, after}
use Rattle.fields.specs.declared.Stage.{Stage}
use Rattle.fields.specs.declared.Stage.TheVariants.{First, Events, Ended}
use Rattle.fields.specs.declared.Reader.{Reader}
use Rattle.fields.specs.declared.Field.{Field}
use Rattle.fields.specs.declared.Field.TheVariants as field
use Rattle.fields.specs.declared.Read.{Read}
use Rattle.fields.specs.declared.RefusedAt.{RefusedAt}
use Rattle.fields.specs.Field.{read_at}
use Rattle.fields.specs.Part.{is_taken}
use Rattle.fields.proofs.Tags.{either}
use Rattle.fields.proofs.Taken.{taken_at_lem}
use Rattle.trace.specs.Replay.{Left, untouched, stands}
use Rattle.trace.specs.Stretch.{Stretch, behind, stretch, lines_behind}
use Rattle.trace.specs.Stand.{waits}
use Rattle.trace.proofs.Sized.{length_lines}
use Rattle.tables.specs.Tables.{Tables}
use Rattle.parts.specs.declared.Progress.{Progress}
use Rattle.parts.specs.declared.Part.{Part}
use Rattle.parts.specs.Arrays.{is_small, left_in, Takes}
use Rattle.parts.specs.Begun.{whole_part}
use Rattle.parts.specs.Part.{Taken, stand_on, rest_taken, first_taken, part_taken}
use Rattle.parts.proofs.Between.{stretched, first_of}

module _ (last : Bool) (bytes : List ℕ) where
  -- the lines lie behind a place
  abbrev Most : ℕ → Taken → Type 0
  Most place x = place + length x.lines * 7 ≤ length bytes

  rest_most : (s : Sizes) (p : Pool) (place : ℕ) (reader : Reader) → place ≤ length bytes → Most place (rest_taken last bytes place reader s p)
  unfolding rest_taken
  rest_most s p place reader inside = by_stage reader.stage
    where
      x : Stretch
      x = stretch bytes place reader.step

      q : Pool
      q = after s p x.events

      events : Taken
      events =
          record {
            lines = lines_behind reader.step (answers s p x.events);
            stood = stand_on last bytes x.next (behind x.step) q;
            left = stands s q;
          }

      few : Most place events
      few = let lies = stretched bytes place reader.step inside in omega (arith, lies.least, lies.inside, length_lines s p reader.step x.events)

      by_stage : (stage : Stage)
          → Most place (elim stage [ First ↦ events | Events ↦ events | Ended ↦ record { lines = []; stood = stand_on last bytes place reader p; left = stands s p } ])
      by_stage First = few
      by_stage Events = few
      by_stage Ended = omega arith

  module _ (takes : Sizes → Bool) (reader : Reader) where
    first_most : Most 0 (first_taken takes last bytes reader)
    unfolding first_taken
    first_most = either (Most 0) (waits last bytes 0) (omega arith) (by_read (read_at bytes 0 reader) refl)
      where
        by_read : (r : Result Read RefusedAt) → read_at bytes 0 reader ≡ r → Most 0 (first_of last bytes takes reader r)
        by_read (Err e) read = omega arith
        by_read (Ok x) read = by_field x.field refl
          where
            by_field : (f : Field) → x.field ≡ f → Most 0 (first_of last bytes takes reader (Ok (record { field = f; next = x.next; reader = x.reader })))
            by_field (field.Sizes s) e =
                let inside = (taken_at_lem bytes 0 reader read (ap is_taken e)).inside in
                either (Most 0) (takes s) (omega (arith, rest_most s (fresh s) x.next x.reader inside)) (omega arith)
            by_field (field.Event n e) h = omega arith
            by_field field.End h = omega arith
            by_field field.Nothing h = omega arith

    pub lines_most : (left : Left) → length (part_taken takes last bytes reader left).lines * 7 ≤ length bytes
    unfolding part_taken
    lines_most untouched = omega (arith, first_most)
    lines_most (stands s p) = omega (arith, rest_most s p 0 reader (omega arith))

-- and its events
pub events_most : (x : Progress) (t : Tables) (last : Bool) (bytes : List ℕ) {part : Part} {after : Tables}
    → Takes (whole_part x t last bytes) x [] part after [] → part.events * 7 ≤ length bytes
events_most x t last bytes takes = omega (arith, takes.events, lines_most last bytes is_small x.reader (left_in x t))
