-- Laws for the crates above.

-- the answers of the admission, and what an accepted run says
pub mod Admitted
-- how many samples a step writes
pub mod Outputs
-- what a run answers and leaves, by its admission
pub mod Answers
-- lengths that a run keeps, and the nodes after it, which depend on no sample
pub mod States
-- what a run leaves as it was
pub mod Kept
-- the samples left of a ramp after any calls
pub mod Ramps
-- a plan that was accepted stays accepted, and refused calls change nothing
pub mod Ready
-- nodes that no step uses stay as they were
pub mod Unused
-- the safe of a node after any settings and runs
pub mod Safe
