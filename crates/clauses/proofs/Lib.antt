-- The two tests, `is_sound` and the check as it goes, are true exactly of the tables of a sound pool. A reader begins at Exactly, which states it; the rest
-- leads up to it.
--     Tests         what a test tells
--     Places        laws on lists
--     Entries       laws on entries
--     IsSound       what `is_sound` tells, clause by clause
--     Phase         the collector's record, and where it parts the history
--     Numbers       the clauses on the numbers of one table
--     Entered       what is noted of each link after a list of entries
--     Noted         what is noted after the history, the values and the logs
--     Tallied       the four tallies count the links for each record
--     Links         the clauses on links, from what is noted
--     Inspected     what the check as it goes tells
--     Exactly       the theorems
pub mod Tests
pub mod Places
pub mod Entries
pub mod IsSound
pub mod Phase
pub mod Numbers
pub mod Entered
pub mod Noted
pub mod Tallied
pub mod Links
pub mod Inspected
pub mod Exactly
