-- Laws that belong to no one function, for the crates above too.

-- the step words: what stands at a place, and the list of steps turn by turn
pub mod Words
-- where in the words a step lies
pub mod Places
-- what `any` answers over a list
pub mod Searches
-- the tests of a plan as a whole in plain terms
pub mod Plans
-- the tests of a step in plain terms
pub mod Steps
-- the buffers that a span names
pub mod Spans
-- the input, the node, the slot and the channels of a step that is inside its tables
pub mod Named
-- what the tests of the check make of its answer
pub mod Answers
-- the channels that the steps append to the output, counted step by step
pub mod Counting
-- steps that are read in two parts
pub mod Parts
-- the steps one by one and as a list
pub mod Passes
-- the check accepts the sound plans and no other, and refuses by the first test that holds
pub mod Exact
-- what holds of an accepted plan
pub mod Accepted
-- the check reads no more of the areas than the plan counts
pub mod Front
-- the steps of a plan whose tables have grown
pub mod Grown
-- words after the last step are ignored
pub mod After
-- document 01's case 11
pub mod Examples
