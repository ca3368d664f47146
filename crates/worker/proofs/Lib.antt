-- What each worker event does to known tables: the argument of each proof, away from its code.
--     Refused     the events that are refused
--     Free        the search for a free record
--     Events      make, move, drop, load and look
--     Store       store and post
pub mod Refused
pub mod Free
pub mod Events
pub mod Store
