-- What the functions say.
--     Input     the bytes that have been read
pub mod Input
