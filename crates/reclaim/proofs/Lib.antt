-- The laws that the proofs here cite.
--     Idle        words in which no used, unheld candidate is left
--     Ranges      what `all` and `any` over the numbers below n answer
--     Found       what the search finds, from what its tests say of each record
--     Emptied     the links of a record, emptied in tables
--     Step        the three outcomes of phase 6, on known tables
pub mod Idle
pub mod Ranges
pub mod Found
pub mod Emptied
pub mod Step
