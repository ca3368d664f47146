-- What is proved of many events at once.
--     Checked     the call by its tests of the pool
--     Told        what the teller of answers is told is what the call puts
--     Calls       many events at once are the calls for each of them; two results are equal
--     StandsFor   packed tables and the old ones that they stand for are left alike
pub mod Checked
pub mod Told
pub mod Calls
pub mod StandsFor
