-- Laws of the parts of an insert, for the functions here.

-- calls and then more calls; values alike, Patches and the identity fold, turn by turn
pub mod Parts
-- the calls that the functions make are the insert's
pub mod Wired
-- what the call hands back and leaves, by its answer
pub mod Outcomes
