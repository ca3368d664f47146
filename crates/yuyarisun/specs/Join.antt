-- What the exported call that joins parts answers and leaves, in numbers.
--     joined_number, joined_length, joined_place     what joining comes to
--     JoinNumbers, join_numbers                      the call
-- Assumes nothing.
use Rattle.std.specs.Prelude.{ℕ, List, Result, Ok, Err}
use Rattle.rules.specs.Reply.{refusal_number}
use Rattle.fields.specs.declared.RefusedAt.{RefusedAt}
use Rattle.join.specs.Joined.{JoinedOn}

abbrev pub joined_number : Result ℕ RefusedAt → ℕ
joined_number (Ok n) = 0
joined_number (Err e) = refusal_number e.why

abbrev pub joined_length : Result ℕ RefusedAt → ℕ
joined_length (Ok n) = n
joined_length (Err e) = 0

abbrev pub joined_place : Result ℕ RefusedAt → ℕ
joined_place (Ok n) = 0
joined_place (Err e) = e.place

pub record JoinNumbers : Type 0 where
  pub number : ℕ
  pub length : ℕ
  pub place : ℕ
  pub out : List ℕ

unfoldable pub join_numbers : JoinedOn → JoinNumbers
join_numbers x =
    record {
      number = joined_number x.joined;
      length = joined_length x.joined;
      place = joined_place x.joined;
      out = x.out;
    }
