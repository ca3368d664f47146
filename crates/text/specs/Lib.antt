-- What `replay` and `report` print, as text.
--     Text      a number in decimal digits, a line for an event, and the two last lines
--     Cycle     a line for a cycle
--     Writer    a buffer that is written from its start on
pub mod Text
pub mod Cycle
pub mod Writer
