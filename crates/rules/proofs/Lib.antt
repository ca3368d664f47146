-- Laws of the definitions in specs/.
--     Starred    every starred run of document 01 is as the document says
pub mod Starred
