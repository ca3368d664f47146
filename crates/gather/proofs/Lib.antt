-- The laws that the proofs here cite.
--     Part      a part of a table
--     Held      the held marks of the records in some registers
--     Made      the makers, where a worker is
--     Here      what known tables have at the collector's position
--     Moves     the steps of phases 0, 1, 3 and 4 on known tables
--     Taken     the step of phase 2 on known tables
pub mod Part
pub mod Held
pub mod Made
pub mod Here
pub mod Moves
pub mod Taken
