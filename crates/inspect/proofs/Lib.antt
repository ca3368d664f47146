-- The laws that the proofs here cite.
--     Tested     a test of each number of a table, as a loop adds it up
--     Chunks     a list cut into chunks
--     Most       numbers of a table that are at most another
--     Tallies    the tallies after some links, link by link
--     Noting     entries that are noted one after another
--     Logs       the logs in their table, noted one after another
--     Unused     the unused bits of words
--     Seen       what was seen of 64 links, as a word
--     Links      the check of the links, put together from its parts
pub mod Tested
pub mod Chunks
pub mod Most
pub mod Tallies
pub mod Noting
pub mod Logs
pub mod Unused
pub mod Seen
pub mod Links
