-- Document 01 as definitions, one sentence one definition. In the order in which they are read:
--     Size       the sizes, the number of links, the link-number formula
--     Pool       the pool: what it has for each record, link and worker; what stands in it and how one thing of it is changed; the fresh pool
--     View       the entries that stand for a link, and the view value
--     Reply      an answer's number and value
--     Worker     the worker events
--     Collect    the collector steps
--     Outcome    the refusals in their order, the one function from a pool and an event to an answer and a pool, and a run
--     Sound      the sound pool, clause by clause
--     Starred    the starred sample runs, one table
pub mod Size
pub mod Pool
pub mod View
pub mod Reply
pub mod Worker
pub mod Collect
pub mod Outcome
pub mod Sound
pub mod Starred
