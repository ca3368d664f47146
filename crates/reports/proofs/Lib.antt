-- What is proved of a report that is made part by part.
--     Lines       the lines of a part's cycles
--     Played      the parts of a report are the report of the trace
--     Told        what `Cycles` keeps of the events of a part
pub mod Lines
pub mod Told
pub mod Played
