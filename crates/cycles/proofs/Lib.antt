-- What is proved of the cycles of a run.
--     WholeCase     document 01's whole case, computed by the definitions
--     Stepped       the numbers of the open cycle after an event
--     Placed        cycles put into a slice
--     Small         how far from nought the net of a cycle can be
--     KeptUp        the numbers that are kept up event by event are those of the cycles' events
--     Promised      the closed cycles are the cycles that the promises speak of
--     Leaves        what an event leaves of what the report looks at
--     Net           the net is what the collector's steps did to the counts
pub mod WholeCase
pub mod Stepped
pub mod Placed
pub mod Small
pub mod KeptUp
pub mod Promised
pub mod Leaves
pub mod Net
