-- The library for other languages.
--     Exported     what each exported call answers and leaves
--     Lent         the collector's record, in the three numbers that C lends
--     Several      many events at once, and a whole trace
--     Join         parts of a trace, joined
pub mod Exported
pub mod Lent
pub mod Several
pub mod Join
