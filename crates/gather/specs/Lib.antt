-- What the contracts of phases 0 to 4 speak of beside the rules and the tables.
--     Lent     the tables that a step is lent, put among the others
--     Raw      what the parts of a step do to the tables that they are lent
pub mod Lent
pub mod Raw
