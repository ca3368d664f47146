-- What is proved of traces.
--     Turns         a replay and a stretch, turn by turn
--     Along         a replay along a stretch of events
--     Behind        how a trace stands behind its events is how its replay ends
--     Put           the answers that were put into a caller's slice
--     Rest          a stretch done event by event on lent tables
--     Sized         a trace behind its sizes field
--     FirstField    a whole trace, by its first field
--     AnswersTold   what the teller of answers is told is what the call puts
--     WholeCase     document 01's whole case, computed by the definitions
--     Lines         the lines of a run
--     Promised      what is promised of a whole trace
--     OneResult     two results of the call that both satisfy its contract are equal
--     StandsFor     packed tables and the old ones that they stand for are left alike by a whole trace
pub mod Turns
pub mod Along
pub mod Behind
pub mod Put
pub mod Told
pub mod Rest
pub mod Sized
pub mod FirstField
pub mod AnswersTold
pub mod WholeCase
pub mod Lines
pub mod Promised
pub mod OneResult
pub mod StandsFor
