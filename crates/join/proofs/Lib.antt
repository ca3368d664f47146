-- Laws of the joined trace.
--     Example     the definitions computed on small parts
--     Lengths     the table of lengths
--     Numbers     the numbers of events in a list
--     Reading     reading part by part
--     Told        what a part tells, event by event
--     Split       what was taken of each part, and what is left
--     Merging     how far a merge has come
--     Whole       parts that are whole
--     Finish      where a merge ends
--     Going       a turn of the merge and its end, as the code sees them
--     Laid        the parts are laid out
--     Writing     the merge that writes
--     Answer      what the call answers
--     Formed      fields by their own bytes
--     Trace       a trace that is put together of fields
--     Sorted      the events of a list in the order of their numbers
--     Inverse     what is known where the call answers a length
--     Apart       a whole trace, taken apart
--     Dealing     a trace whose events are dealt out to parts
--     Promised    the promises
pub mod Example
pub mod Lengths
pub mod Numbers
pub mod Reading
pub mod Told
pub mod Split
pub mod Merging
pub mod Whole
pub mod Finish
pub mod Going
pub mod Laid
pub mod Writing
pub mod Answer
pub mod Formed
pub mod Trace
pub mod Sorted
pub mod Inverse
pub mod Apart
pub mod Dealing
pub mod Promised
