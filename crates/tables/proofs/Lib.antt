-- The laws of the tables: what callers use in place of a definition's text.
--     Digits, Words, Packed       marks in words: one word, some words, the marks of a kind
--     Searched, Standing, Row     by whole words: the first that is off and how many are on, where a number stands, some one after another
--     Blocks        a table in blocks of one size
--     Chunks        a list cut into chunks of one size
--     Entered       a list of entries in its room
--     Rooms         the entries of a room, and of a part of it
--     Places        how many registers there are
--     Logs          the logs in their table
--     Marks         marks and flags as numbers
--     There         a record number as an option
--     RoundTrip     on tables of the right shape, the tables of a pool and the pool of tables undo each other
--     Stand         what stands at a place of a table, in the pool
--     Written       one thing of a pool changed, and the tables after it
--     Counted       a record's number and mark, by its place
--     Done          an event on known tables, from what it does to the pool
--     StillLent     the same tables are lent before a call and after it
pub mod StillLent
pub mod Digits
pub mod Words
pub mod Packed
pub mod Searched
pub mod Standing
pub mod Row
pub mod Blocks
pub mod Chunks
pub mod Entered
pub mod Rooms
pub mod Places
pub mod Logs
pub mod Marks
pub mod There
pub mod RoundTrip
pub mod Stand
pub mod Written
pub mod Counted
pub mod Done
