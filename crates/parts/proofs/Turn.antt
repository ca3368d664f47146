-- A turn of a program, which takes a part.
--     aside_long, aside_set     the arrays before the first field
--     part_waiting              where a part waits, fewer than 13 bytes are left
--     part_fits                 where it ends, the place in the trace has 64 bits
-- Assumes nothing.
use Prim.Native.Nat.{ℕ, ◌+◌, ◌≤◌, ◌<◌}
use mathlib.Core.Path.{◌≡◌, refl, ap, ◌∙◌, subst}
use mathlib.Core.Bool.{Bool}
use mathlib.Core.List.{List}
use native.Mathlib.Omega.{arith}
use lib.ListN.{length, length-replicate}
use Rattle.std.specs.Prelude.{Option, Some, None, Ok, Err, IfSome, IfNone}
use Rattle.rules.specs.declared.Sizes.{Sizes}
use Rattle.rules.specs.declared.Collector.{Collector}
use Rattle.tables.specs.Tables.{Tables}
use Rattle.trace.specs.declared.Stood.{Stood}
use Rattle.trace.specs.Replay.{Ending, at_start}
use Rattle.parts.specs.declared.Progress.{Progress}
use Rattle.parts.specs.declared.Part.{Part}
use Rattle.parts.specs.Arrays.{is_small, left_in, Long, aside, Set}
use Rattle.parts.specs.Begun.{whole_part}
use Rattle.parts.specs.Buffer.{PlaceFits}
use Rattle.parts.proofs.Between.{arrays_between, few_left, part_waits}
use Rattle.parts.proofs.Ends.{EndsBy, part_ends}

-- the arrays before the first field are as long as they are to be
pub aside_long : Long aside
unfolding aside
aside_long =
    record {
      used = length-replicate {A = ℕ} 1 0;
      counts = length-replicate {A = ℕ} 64 0;
      held = length-replicate {A = ℕ} 1 0;
      candidates = length-replicate {A = ℕ} 1 0;
      makers = length-replicate {A = ℕ} 64 0;
      values = length-replicate {A = ℕ} 264 0;
      changed = length-replicate {A = ℕ} 5 0;
      registers = length-replicate {A = ℕ} 33 0;
      snoops = length-replicate {A = ℕ} 4 0;
      logs = length-replicate {A = ℕ} 2112 0;
      history = length-replicate {A = ℕ} 528 0;
      lengths = length-replicate {A = ℕ} 5 0;
    }

pub aside_set : (s : Sizes) (c : Collector) → Set (record { reader = at_start; sizes = s; collector = c }) aside
aside_set s c = record { long = aside_long; holds = (refl, refl) }

ends_fit : (n : ℕ) (stand : Option Ending) → n ≤ 16384 → EndsBy n stand → IfSome stand (PlaceFits 18014398509481984)
ends_fit n None few inside = tt
ends_fit n (Some (Ok w)) few inside = tt
ends_fit n (Some (Err e)) few inside = omega arith

module _ (x : Progress) (t : Tables) (last : Bool) (bytes : List ℕ) (part : Part)
    (stood : (whole_part x t last bytes).stood ≡ record { stand = part.stand; next = part.next; reader = part.progress.reader }) where
  pub part_waiting : IfNone part.stand ((part.next ≤ length bytes) × (length bytes < part.next + 13))
  part_waiting = by_stand part.stand refl
    where
      by_stand : (stand : Option Ending) → part.stand ≡ stand → IfNone stand ((part.next ≤ length bytes) × (length bytes < part.next + 13))
      by_stand (Some ending) ends = tt
      by_stand None waits =
          let w = part_waits last bytes is_small x.reader (left_in x t) (arrays_between x t) (ap (λ (z : Stood). z.stand) stood ∙ waits) in (
            subst (λ (z : Stood). z.next ≤ length bytes) stood w.inside,
            subst (λ (z : Stood). length bytes < z.next + 13) stood (few_left w),
          )

  pub part_fits : length bytes ≤ 16384 → IfSome part.stand (PlaceFits 18014398509481984)
  part_fits few =
      ends_fit (length bytes) part.stand few
      (subst (EndsBy (length bytes)) (ap (λ (z : Stood). z.stand) stood) (part_ends last bytes is_small x.reader (left_in x t) (arrays_between x t)))
