-- "A sound pool" of tables, as tests.
--     IsSound       the test, clause by clause
--     Entered       what the check notes of each link: how often it stands in the logs and in the history, and what it counts for
--     Tallied       how many links count for each record, as the check adds it up
--     Inspected     the check as it goes: true exactly where `is_sound` is, by proofs/
pub mod IsSound
pub mod Entered
pub mod Tallied
pub mod Inspected
