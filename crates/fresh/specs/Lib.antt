-- Lent tables made a fresh pool.
--     Fits      which sizes and lengths are taken
--     Fresh     what `fresh` answers and leaves, for every input
--     Free      how many records are free
pub mod Fits
pub mod Fresh
pub mod Free
