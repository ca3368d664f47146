-- The joined trace and what the call answers: "The joined trace has the first part's sizes field, then every event of every part once, byte for byte, then its end
-- field" (request 3 of document 02).
--     sum, end_to_end                        the parts lie end to end in the slice
--     equal_sizes, all_sized, same_sizes     the sizes of the parts
--     all_events                             every event of every part
--     stands, stand_to, field_of             the event with a number
--     in_order, end_field, joined_trace      the joined trace
--     JoinedOn, joined_on                    what the call answers and leaves
-- Assumes nothing.
use Rattle.std.specs.Prelude.{ℕ, zero, suc, ◌+◌, ◌/◌, ◌%◌, Bool, true, false, cond, not, ◌&&◌, ◌||◌, eqb, ltb, leb, length, drop, Result, Ok, Err}
use mathlib.Core.List.{List, [], ◌∷◌, ◌++◌, flatten, map}
use Rattle.rules.specs.declared.Sizes.{Sizes}
use Rattle.rules.specs.declared.Refusal.{Refusal}
use Rattle.rules.specs.declared.Refusal.TheVariants.{WrongSize, WrongStep, SizesDiffer, OutputShort}
use Rattle.fields.specs.declared.RefusedAt.{RefusedAt}
use Rattle.fields.specs.Field.{end_tag, refused_at}
use Rattle.join.specs.Part.{Numbered, Part, parts_told}

-- ---- the slice and the table of lengths

unfoldable pub sum : List ℕ → ℕ
sum [] = 0
sum (n ∷ lengths) = n + sum lengths

-- "One to nine parts are lent end to end in one slice, with a table of their lengths"
unfoldable pub end_to_end : List ℕ → List ℕ → Bool
end_to_end parts lengths = leb 1 (length lengths) && leb (length lengths) 9 && eqb (sum lengths) (length parts)

-- ---- the sizes

-- all five by value: "length 8 means B = 0" (document 02, request 5), so that such a field and one of length 10 with B = 0 have equal sizes
unfoldable pub equal_sizes : Sizes → Sizes → Bool
equal_sizes s t = eqb s.n t.n && eqb s.k t.k && eqb s.w t.w && eqb s.r t.r && eqb s.b t.b

unfoldable pub all_sized : Sizes → List Part → Bool
all_sized s [] = true
all_sized s (p ∷ parts) = equal_sizes s p.sizes && all_sized s parts

-- no "two parts differ in sizes"
unfoldable pub same_sizes : List Part → Bool
same_sizes [] = true
same_sizes (p ∷ parts) = all_sized p.sizes (p ∷ parts)

-- ---- the events, in the order of their numbers

-- "every event of every part"
unfoldable pub all_events : List Part → List Numbered
all_events parts = flatten (map (λ (p : Part). p.events) parts)

unfoldable pub stands : ℕ → List Numbered → Bool
stands number [] = false
stands number (e ∷ all) = eqb e.number number || stands number all

-- each number from 1 to n stands there. Where there are n events, "the joined numbers are 1 to n": each stands once
unfoldable pub stand_to : ℕ → List Numbered → Bool
stand_to zero all = true
stand_to (suc n) all = stand_to n all && stands (suc n) all

-- the field of the event with a number
unfoldable pub field_of : ℕ → List Numbered → List ℕ
field_of number [] = []
field_of number (e ∷ all) = cond (eqb e.number number) e.bytes (field_of number all)

-- "ordered by step number as a number": the fields of the events 1 to n
unfoldable pub in_order : ℕ → List Numbered → List ℕ
in_order zero all = []
in_order (suc n) all = in_order n all ++ field_of (suc n) all

-- ---- the joined trace

-- "7F: number of events, four bytes (4)", the most significant first
unfoldable pub end_field : ℕ → List ℕ
end_field n = end_tag ∷ 0 ∷ 4 ∷ n / 16777216 ∷ n / 65536 % 256 ∷ n / 256 % 256 ∷ n % 256 ∷ []

-- "the first part's sizes field", of length 8 or 10 as it stands there
unfoldable pub first_field : List Part → List ℕ
first_field [] = []
first_field (p ∷ parts) = p.field

unfoldable pub joined_trace : List Part → List ℕ
joined_trace parts =
    let all : List Numbered = all_events parts in
    first_field parts ++ (in_order (length all) all ++ end_field (length all))

-- ---- what the call answers and leaves

pub record JoinedOn : Type 0 where
  -- the length of the joined trace, or why it is refused and where
  pub joined : Result ℕ RefusedAt
  pub out : List ℕ

-- "On a refusal nothing is written."
abbrev pub refused_on : Refusal → ℕ → List ℕ → JoinedOn
refused_on why place out = record { joined = refused_at why place; out = out }

-- "its length is answered and bytes beyond it stay"
abbrev pub written_on : List ℕ → List ℕ → JoinedOn
written_on trace out = record { joined = Ok (length trace); out = trace ++ drop (length trace) out }

-- "15 if two parts differ in sizes; 10 if the joined numbers aren't 1 to n; 16 if the slice written to is too short. Those of no field have place 0."
unfoldable pub whole_on : List Part → List ℕ → JoinedOn
whole_on parts out =
    let all : List Numbered = all_events parts in
    cond (not (same_sizes parts)) (refused_on SizesDiffer 0 out)
    (cond (not (stand_to (length all) all)) (refused_on WrongStep 0 out)
    (cond (ltb (length out) (length (joined_trace parts))) (refused_on OutputShort 0 out)
    (written_on (joined_trace parts) out)))

-- "Refusals, in this order: 1 if the parts aren't one to nine or their lengths don't add up to the slice; then part by part 01's field refusals in 01's order"
unfoldable pub joined_on : List ℕ → List ℕ → List ℕ → JoinedOn
joined_on parts lengths out =
    cond (end_to_end parts lengths)
    (elim (parts_told parts 0 lengths) [ Err r ↦ refused_on r.why r.place out | Ok told ↦ whole_on told out ])
    (refused_on WrongSize 0 out)
