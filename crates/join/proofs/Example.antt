-- The definitions computed on small parts: what the joined trace is, and each refusal.
--     sizes, other_sizes, board_sizes, make, collect, end     fields
--     computes                                  all that a row computes through
-- Assumes nothing.
use Prim.Native.Nat.{ℕ}
use mathlib.Core.Path.{◌≡◌, refl}
use mathlib.Core.List.{List, [], ◌∷◌, ◌++◌, flatten}
use lib.ListN.{replicate}
use Rattle.std.specs.Prelude.{Ok}
use Rattle.rules.specs.declared.Refusal.TheVariants.{WrongSize, StopsShort, WrongStep, WrongCount, SizesDiffer, OutputShort, ExtraByte}
use Rattle.rules.specs.Size.{in_range}
use Rattle.fields.specs.Field.{payload_of, payload_for, event_at, refusals, decide, taken, behind_end, field_at, read_at}
use Rattle.join.specs.Part.{number_at, expected, events_told, opening, part_told, parts_told}
use Rattle.join.specs.Joined.{sum, end_to_end, equal_sizes, all_sized, same_sizes, all_events, stands, stand_to, field_of, in_order, end_field, first_field, joined_trace, JoinedOn, refused_on, whole_on, joined_on}

sizes : List ℕ
sizes = 1 ∷ 0 ∷ 8 ∷ 0 ∷ 2 ∷ 0 ∷ 1 ∷ 0 ∷ 1 ∷ 0 ∷ 1 ∷ []

collect : ℕ → List ℕ
collect n = 0x20 ∷ 0 ∷ 4 ∷ 0 ∷ 0 ∷ 0 ∷ n ∷ []

make : ℕ → List ℕ
make n = 0x10 ∷ 0 ∷ 6 ∷ 0 ∷ 0 ∷ 0 ∷ n ∷ 0 ∷ 0 ∷ []

other_sizes : List ℕ
other_sizes = 1 ∷ 0 ∷ 8 ∷ 0 ∷ 3 ∷ 0 ∷ 1 ∷ 0 ∷ 1 ∷ 0 ∷ 1 ∷ []

-- the same with a board: "The sizes field with length 10 carries B at its end" (document 02, request 5)
board_sizes : ℕ → List ℕ
board_sizes b = 1 ∷ 0 ∷ 10 ∷ 0 ∷ 2 ∷ 0 ∷ 1 ∷ 0 ∷ 1 ∷ 0 ∷ 1 ∷ 0 ∷ b ∷ []

end : ℕ → List ℕ
end n = 0x7F ∷ 0 ∷ 4 ∷ 0 ∷ 0 ∷ 0 ∷ n ∷ []

computes : JoinedOn → JoinedOn
unfolding flatten sizes other_sizes board_sizes collect make end payload_of payload_for event_at refusals decide taken behind_end field_at read_at in_range number_at expected events_told opening part_told parts_told sum end_to_end equal_sizes all_sized same_sizes all_events stands stand_to field_of in_order end_field first_field joined_trace whole_on joined_on
computes x = x

-- steps 1 and 3 in one part, 2 in another; the bytes beyond stay
joins_two : joined_on ((sizes ++ make 1 ++ make 3 ++ end 2) ++ (sizes ++ collect 2 ++ end 1)) (36 ∷ 25 ∷ []) (replicate 50 7)
    ≡ record { joined = Ok 43; out = sizes ++ make 1 ++ collect 2 ++ make 3 ++ end 3 ++ replicate 7 7 }
unfolding computes
joins_two = refl

-- 9 comes before 10, in whichever part each is
nine_before_ten : joined_on
    ((sizes ++ collect 1 ++ collect 10 ++ end 2) ++ (sizes ++ collect 2 ++ collect 3 ++ collect 4 ++ collect 5 ++ collect 6 ++ collect 7 ++ collect 8 ++ collect 9 ++ end 8))
    (32 ∷ 74 ∷ [])
    (replicate 88 7)
    ≡ record {
      joined = Ok 88;
      out = sizes ++ collect 1 ++ collect 2 ++ collect 3 ++ collect 4 ++ collect 5 ++ collect 6 ++ collect 7 ++ collect 8 ++ collect 9 ++ collect 10 ++ end 10;
    }
unfolding computes
nine_before_ten = refl

-- "length 8 means B = 0" (document 02, request 5): a part of that length joins one of length 10 with B = 0, and the joined trace has the first one's field
eight_before_ten : joined_on ((sizes ++ make 1 ++ end 1) ++ (board_sizes 0 ++ collect 2 ++ end 1)) (27 ∷ 27 ∷ []) (replicate 34 7)
    ≡ record { joined = Ok 34; out = sizes ++ make 1 ++ collect 2 ++ end 2 }
unfolding computes
eight_before_ten = refl

ten_before_eight : joined_on ((board_sizes 0 ++ collect 2 ++ end 1) ++ (sizes ++ make 1 ++ end 1)) (27 ∷ 27 ∷ []) (replicate 36 7)
    ≡ record { joined = Ok 36; out = board_sizes 0 ++ make 1 ++ collect 2 ++ end 2 }
unfolding computes
ten_before_eight = refl

-- no part, and lengths that do not add up
no_part : joined_on [] [] [] ≡ refused_on WrongSize 0 []
unfolding computes
no_part = refl

-- a part of length 0 stops short at its place
empty_part : joined_on (sizes ++ end 0) (18 ∷ 0 ∷ []) [] ≡ refused_on StopsShort 18 []
unfolding computes
empty_part = refl

falling_step : joined_on (sizes ++ end 0 ++ sizes ++ make 2 ++ collect 2 ++ end 2) (18 ∷ 34 ∷ []) [] ≡ refused_on WrongStep 38 []
unfolding computes
falling_step = refl

wrong_count : joined_on (sizes ++ end 0 ++ sizes ++ make 2 ++ collect 3 ++ end 3) (18 ∷ 34 ∷ []) [] ≡ refused_on WrongCount 45 []
unfolding computes
wrong_count = refl

extra_byte : joined_on (sizes ++ end 0 ++ (0 ∷ []) ++ sizes ++ end 0) (19 ∷ 18 ∷ []) [] ≡ refused_on ExtraByte 18 []
unfolding computes
extra_byte = refl

other_sizes_lem : joined_on (sizes ++ end 0 ++ other_sizes ++ make 2 ++ end 1) (18 ∷ 27 ∷ []) [] ≡ refused_on SizesDiffer 0 []
unfolding computes
other_sizes_lem = refl

-- a board and none
other_board : joined_on (sizes ++ end 0 ++ board_sizes 1 ++ end 0) (18 ∷ 20 ∷ []) [] ≡ refused_on SizesDiffer 0 []
unfolding computes
other_board = refl

step_missing : joined_on (sizes ++ end 0 ++ sizes ++ make 2 ++ end 1) (18 ∷ 27 ∷ []) [] ≡ refused_on WrongStep 0 []
unfolding computes
step_missing = refl

step_twice : joined_on (sizes ++ make 1 ++ end 1 ++ sizes ++ make 1 ++ end 1) (27 ∷ 27 ∷ []) [] ≡ refused_on WrongStep 0 []
unfolding computes
step_twice = refl

too_short : joined_on (sizes ++ end 0 ++ sizes ++ make 1 ++ end 1) (18 ∷ 27 ∷ []) (replicate 26 7) ≡ refused_on OutputShort 0 (replicate 26 7)
unfolding computes
too_short = refl
