-- A trace that arrives in parts, reported: document 02, request 7.
--     Told       what the events of a part tell, and parts one after another
--     Printed    what is printed, part by part
--     Buffer     its text in a program's buffers
pub mod Told
pub mod Printed
pub mod Buffer
