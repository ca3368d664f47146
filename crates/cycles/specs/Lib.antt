-- The cycles of a run, and the numbers of each: document 02, request 7.
--     Cycles     which events are a cycle's, and its three numbers over them
--     Steps      what each event did to the counts
--     Tally      the same numbers, kept up event by event
--     Slice      the numbers of the cycles in a caller's slice
pub mod Cycles
pub mod Steps
pub mod Tally
pub mod Slice
