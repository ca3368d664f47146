-- What the contracts here cite.
--     Moved     the collector's record after a step
pub mod Moved
