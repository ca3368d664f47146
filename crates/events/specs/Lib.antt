-- An event on the tables of before document 02's request 9.
--     Old     tables with a number for each mark, and which of them packed tables stand for
pub mod Old
