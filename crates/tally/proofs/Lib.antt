-- What is proved of the numbers of a trace's cycles.
--     Told         what is told of the events of a run is the numbers of its cycles
--     Whole        the report of a trace, by what stands at its start
--     StandsFor    packed tables and the old ones that they stand for have the same report
pub mod Told
pub mod Whole
pub mod StandsFor
