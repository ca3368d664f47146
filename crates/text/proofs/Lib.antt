-- Laws of what is put into a buffer.
--     Digits      a number in decimal digits
--     Below       a number that may be below nought
--     Chunks      a list, some elements at a time
--     Lines       the lines that are printed
--     Cycles      the lines of cycles
--     Puts        texts that are written one behind the other
--     Written     a text at a place of a buffer
pub mod Digits
pub mod Below
pub mod Lines
pub mod Chunks
pub mod Cycles
pub mod Puts
pub mod Written
