-- The public calls on lent tables.
--     Calls     what each call answers and leaves, for every input
--     Run       events given to the call one after another
--     Old       the same on tables with a number for each mark, which packed ones stand for
pub mod Calls
pub mod Run
pub mod Old
