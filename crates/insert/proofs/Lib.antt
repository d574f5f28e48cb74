-- Laws of the insert and of lists of calls with inserts, for the crates above too.

-- one law for each way out of its tests
pub mod Answers
-- what an insert adds, and that it is accepted where each of its calls is
pub mod Wired
-- lists of calls, inserts among them
pub mod Laid
-- the identity fold is `width_matrix` of a format into itself
pub mod Identity
-- the steps of an insert, and what the plan check says of each
pub mod Steps
-- what the plan check says after an insert
pub mod Checked
-- the inputs that decisions on the plan check rest on
pub mod Examples
