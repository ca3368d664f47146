-- The cycles of a trace, with their numbers: document 02, request 7.
--     Report       the report of a trace: its closed cycles, and how it ends
--     Told         the same numbers, as they are told event by event
--     Traced       the report of a whole trace on lent tables
--     Old          the same on tables with a number for each mark
pub mod Report
pub mod Told
pub mod Traced
pub mod Old
