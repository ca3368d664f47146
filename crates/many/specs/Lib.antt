-- Many events at once.
--     Many     what the call answers and leaves
--     Old      the same on tables with a number for each mark
pub mod Many
pub mod Old
