-- The proofs of what is promised. A reader begins at Promises, which states it; the rest leads up to it.
--     Invariant     the invariant of a run from fresh: what is named, held and kept
--     Grow          what only grows keeps it
--     Register, Relink     what the worker events change: a register, a link
--     Phases        the steps of phases 0 to 5
--     Freeing       phase 6: what it takes is named nowhere and kept by nothing
--     Run, Work     every collector step and every worker event keeps the invariant
--     Hold          it holds at each place of a run
--     Reached       what a worker can reach is never freed
--     Earlier       what is reached after an event was reached before
--     LastSeen      the counts are those of the values last seen
--     Ready         two more facts of every pool of a run
--     Remain, Opening     what was lost at the opening of a cycle, through the cycle and at the opening
--     Pigeon, Chain     records that lead back to one another for ever come round
--     LostFreed     what was lost is freed
--     Promises      the statements
--     Example       they speak of something: the document's listing, and a record that two workers share
pub mod Invariant
pub mod Grow
pub mod Register
pub mod Relink
pub mod Phases
pub mod Freeing
pub mod Run
pub mod Work
pub mod Hold
pub mod Reached
pub mod Earlier
pub mod LastSeen
pub mod Ready
pub mod Remain
pub mod Pigeon
pub mod Chain
pub mod Opening
pub mod LostFreed
pub mod Promises
pub mod Example
