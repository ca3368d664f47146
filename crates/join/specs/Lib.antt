-- "One file for each worker", request 3 of document 02: parts of a trace, joined.
--     Part       one part: what it tells, or why it is refused
--     Joined     the joined trace, and what the call answers
--     Merge      what the call's inner functions answer
--     Promise    what the theorems speak of
pub mod Part
pub mod Joined
pub mod Merge
pub mod Promise
