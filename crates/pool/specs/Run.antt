-- Events given to the call one after another, each on the tables and the collector's record that the one before left.
--     call_answers, after_calls   what the calls answer, and what they leave
-- Assumes nothing.
use Rattle.std.specs.Prelude.{List, [], ◌∷◌}
use Rattle.rules.specs.declared.Sizes.{Sizes}
use Rattle.rules.specs.declared.Event.{Event}
use Rattle.rules.specs.declared.Answer.{Answer}
use Rattle.tables.specs.Event.{Called, LentPool}
use Rattle.pool.specs.Calls.{called}

-- what a call leaves
abbrev pub left : Called → LentPool
left x = record { tables = x.tables; collector = x.collector }

unfoldable pub call_answers : Sizes → LentPool → List Event → List Answer
call_answers s x [] = []
call_answers s x (e ∷ events) = let y = called s x.tables x.collector e in y.answer ∷ call_answers s (left y) events

unfoldable pub after_calls : Sizes → LentPool → List Event → LentPool
after_calls s x [] = x
after_calls s x (e ∷ events) = after_calls s (left (called s x.tables x.collector e)) events
