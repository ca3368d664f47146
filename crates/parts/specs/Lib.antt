-- A trace that arrives in parts.
--     Part       what a part of a trace answers and leaves, and parts one after another
--     Work       the events of a part, and what is told of them
--     Arrays     the arrays in which a program has its pool
--     Begun      how a part begins
--     Printed    what is printed, part by part
--     Buffer     its text in a program's buffers
pub mod Part
pub mod Work
pub mod Arrays
pub mod Begun
pub mod Printed
pub mod Buffer
