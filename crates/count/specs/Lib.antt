-- What the contracts of phase 5 speak of beside the rules and the tables.
--     Lent       the tables that phase 5 is lent, put among the others
--     Looked     the look-up in the logs, on their tables
pub mod Lent
pub mod Looked
