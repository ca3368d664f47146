-- What is proved of a trace that arrives in parts.
--     Front       the pool at the arrays' beginnings
--     Aside       the arrays before the first field
--     Between     what is known of the reader and the pool between two parts, and where a part waits
--     Rest        what a part behind the sizes field answers and leaves
--     First       what a part answers and leaves, by whether the sizes field has been read
--     Most        how many events a part has
--     Ends        where a part ends
--     Turn        a turn of a program, which takes a part
--     Lines       the lines of a part as text
--     Field       a field of a part is a field of the trace
--     Behind      a replay from a place on is the replay of what stands there, with the places moved
--     Goes        a part is taken as the replay of the trace goes
--     Works       the events of the parts are those of the trace
--     Played      reading a part first and the rest later changes nothing
--     Printed     nor does it change what is printed
pub mod Front
pub mod Aside
pub mod Between
pub mod Rest
pub mod First
pub mod Most
pub mod Ends
pub mod Turn
pub mod Lines
pub mod Field
pub mod Behind
pub mod Goes
pub mod Works
pub mod Played
pub mod Printed
