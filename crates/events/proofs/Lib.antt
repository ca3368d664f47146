-- What is proved of an event on lent tables, beside the functions.
--     StandsFor     packed tables and the old ones that they stand for: one pool lies in both, and an event on it is the same
pub mod StandsFor
