-- What the proofs of the public calls cite.
--     Checked     the call's own tests: what they tell, and what each refuses
--     Given       no event on a sound pool is answered with 1 or 2
--     Called      the call on the tables of a sound pool, and calls from a fresh pool
--     OneResult   two results that satisfy a contract are equal
--     StandsFor   packed tables and the old ones that they stand for give equal answers
--     Promised    what is promised of the public calls
pub mod Checked
pub mod Given
pub mod Called
pub mod OneResult
pub mod StandsFor
pub mod Promised
