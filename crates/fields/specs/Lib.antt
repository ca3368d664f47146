-- "The trace file" of document 01 and its field rules.
--     Field     what stands at a place of a trace
--     Part      a trace that is read part by part
pub mod Field
pub mod Part
