-- What the contracts of the worker events speak of beside the rules and the tables.
--     Lent     the tables that an event is lent, put among the others
--     Raw      whether the numbers of an event are there; what a make's search reads
pub mod Lent
pub mod Raw
