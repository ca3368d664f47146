-- Laws of the definitions of `rules`. Each definition that a later request may change is used through the laws of one file here.
--     Tests      laws on tests and marks
--     Lists      laws on lists
--     Number     record numbers and link numbers; S
--     Entries    the entries for a link
--     LookUp     the look-up in the logs, and the view value
--     Tally      how many links count for a record
--     Room       the room that entries take
--     Chosen     what a make picks
--     Search     what phase 6 takes next
--     Marks      what the collector's steps do to makers, candidate marks and held marks
--     Change     what a store and the emptying of links leave as it was
--     Refusals   what is known of an event that is not refused
--     Phases     the list of phases, and how a step moves on
--     Runs       what every event keeps
pub mod Tests
pub mod Lists
pub mod Number
pub mod Entries
pub mod LookUp
pub mod Tally
pub mod Room
pub mod Chosen
pub mod Search
pub mod Marks
pub mod Change
pub mod Refusals
pub mod Phases
pub mod Runs
