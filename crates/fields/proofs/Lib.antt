-- Laws of the field reader.
--     Tags        the tags and their payloads
--     Payload     a field whose payload is whole, by its tag
--     Order       what stands at a place, by the order of its tests
--     Taken       where a field lies that is taken, and the step number of an event
--     Event       an event field, by what its bytes say
--     Comes       what comes at a place of a trace, by what may come there
--     Part        a trace that is read part by part
pub mod Tags
pub mod Payload
pub mod Order
pub mod Taken
pub mod Event
pub mod Comes
pub mod Part
