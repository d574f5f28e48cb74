-- Laws for the crates above.

-- the inputs behind a slot of a plan, and the list of them
pub mod Behind
-- the areas of all lists
pub mod Lists
-- what the answers say
pub mod Answers
-- document 01's case 8, a plan with a fault of its own, and what a Patch and a Clear do to a set
pub mod Examples
