-- Whole traces.
--     Replay      a whole replay: from the bytes of a trace to its lines, its last line, and the pool at its end
--     Stretch     events that stand one after another in a trace, done on lent tables
--     Stand       how a trace stands behind them, of which a part has been read
--     Traced      a whole trace on lent tables
--     Told        what somebody has been told of the events of a trace
--     Promise     the words of what is promised of a whole trace
--     Old         a whole trace on tables with a number for each mark
pub mod Replay
pub mod Stretch
pub mod Stand
pub mod Traced
pub mod Told
pub mod Promise
pub mod Old
