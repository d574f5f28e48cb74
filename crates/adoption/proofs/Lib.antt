-- Laws that belong to no one function.

-- what an accepted adoption says, and what the call leaves by its answer
pub mod Answers
-- the node that a pair makes
pub mod Adopted
-- one pair, and a list that holds none
pub mod Pairs
-- what the pairs keep
pub mod Kept
-- the loop over the pairs
pub mod Turns
-- the nodes that pairs name
pub mod Named
-- what an adoption leaves, accepted or refused
pub mod Adoption
-- safe nodes, and what is the Rust's
pub mod Safe
-- adoptions by computation
pub mod Examples
-- runs after an adoption
pub mod Runs
