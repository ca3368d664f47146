-- What the proofs of the exported calls cite, and that their contracts have one solution.
--     InNumbers     what a call answers and leaves, in numbers
--     OneResult     two results of an exported call are equal
pub mod InNumbers
pub mod OneResult
