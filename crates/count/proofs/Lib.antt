-- The laws that the proofs here cite.
--     Search     the search for the one entry of a link, through a log and through all logs
--     Logs       the logs that have the entry, and the view value on tables
--     Written    what phase 5 changes of a pool, and the tables after it
--     Entry      what the code of phase 5 rests on
--     Step       the step of phase 5 on known tables
pub mod Search
pub mod Logs
pub mod Written
pub mod Entry
pub mod Step
