-- Every event on a sound pool leaves a sound pool. A reader begins at Kept, which states it, and Known, what the code rests on; the rest leads up to them.
--     Core       the sound pool taken apart: what does not look at the collector's record, and what does
--     Parts      changes that touch no link, log or count
--     Store      a store
--     Take, Clear, Count, Reclaim     what phases 2, 3, 5 and 6 do
--     Steps      the collector's steps
--     Events     the worker events
--     Fresh      the fresh pool
--     Kept       the theorems
--     Known      facts of every sound pool
--     NoFullLog  a worker's log has room when a store must log
--     Used       the used records, by the answers of a run
pub mod Core
pub mod Parts
pub mod Store
pub mod Take
pub mod Clear
pub mod Count
pub mod Reclaim
pub mod Steps
pub mod Events
pub mod Fresh
pub mod Kept
pub mod Known
pub mod NoFullLog
pub mod Used
