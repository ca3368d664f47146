-- The words of what is promised.
--     Reach     what a worker reaches
--     Cycle     the opening and the close of a cycle, and what is freed in it
--     Lost      what is lost, and what of it a closed loop keeps
--     Seen      the value of a link that the collector last saw
pub mod Reach
pub mod Cycle
pub mod Lost
pub mod Seen
