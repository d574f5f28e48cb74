-- Laws that belong to no one function, for the crates above too.

-- numbers in order
pub mod Numbers
-- the tests 5 and 2 of each call, without the counts that it does not use
pub mod Uses
-- the tests of the limits, in front of a call's others
pub mod Limits
-- what an accepted call says of the counts and the areas
pub mod Fits
-- what a call hands back and leaves, by its answer
pub mod Outcomes
-- the promises of a call, as one state
pub mod States
-- a refused call changes nothing
pub mod Refusals
-- an accepted call changes only what it says
pub mod Kept
-- a list of calls in two parts, and what each of its calls keeps
pub mod Lists
-- what accepted calls leave, read back, is what was given
pub mod ReadBack
-- a sum of two growths, and its tests
pub mod Sums
-- what a list of calls adds, and when all of it is accepted
pub mod Accepted
-- what a list of calls adds to a draft
pub mod Given
-- what the plan check asks of a plan before it goes to the steps
pub mod Tables
-- the draft that an accepted plan holds
pub mod Held
-- what the plan check says after accepted calls
pub mod Added
