-- The laws that the proofs here and those of the collector's steps cite.
--     After     the phase after a phase, by how many entries the history has
--     Moved     the record after a step, by the phase that it left
--     Lent      the record in memory
pub mod After
pub mod Moved
pub mod Lent
