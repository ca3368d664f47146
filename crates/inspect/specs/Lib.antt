-- What the contracts of the check speak of beside the tests of `clauses`.
--     Parts     what the parts of the check note, test and ask
pub mod Parts
