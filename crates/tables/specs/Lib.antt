-- The lent tables, and the pool that lies in them. In the order in which they are read:
--     Tables     the twelve tables, and tables with one of them changed
--     Lent       tables that are lent together
--     Lie        how a pool lies in tables, and which pool any tables mean
--     There      a record number as an option
--     Known      the exact lengths, the two clauses of "A sound pool" that only tables can break, and tables of a sound pool
--     Event      an event on lent tables
--     Counted    a count that falls or rises, in its table
pub mod Bits
pub mod Tables
pub mod Lent
pub mod Lie
pub mod There
pub mod Known
pub mod Event
pub mod Counted
