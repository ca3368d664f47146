-- What the proofs here cite.
--     Free        how many records are free, from the number of ones
--     Exact       the test of the lengths, and what it says
--     Zero        the tables of a fresh pool are 0 throughout
pub mod Free
pub mod Exact
pub mod Zero
