-- The two-list theorem: `two_lists` in TwoLists, and what follows for the recorder, `changes_listed` in Recorder. The others are its parts, in
-- the order in which each uses those before it, and, beside it, Answers and the examples.

-- two areas of buffers, sample beside sample
pub mod Agree
-- one step of two runs
pub mod Steps
-- one block of two runs
pub mod Block
-- the nodes of a plan after settings and runs
pub mod Nodes
-- each sample of a journal
pub mod Moments
-- alike settings
pub mod Settings
-- the accepted runs of a list
pub mod Runs
-- two plans with the same steps: one sample of both, and whole lists where no node ramps
pub mod Pairs
-- two lists for blocks as long, run by run
pub mod Lockstep
-- what the clean answer says
pub mod CleanPlans
-- two lists of two plans that hold one draft
pub mod OneDraft
-- two states of the builder that hold one draft
pub mod Drafts
-- what the check, the clean answer and the trace say of both
pub mod Answers
-- builds, one way to a draft
pub mod Builds
-- demand 3
pub mod TwoLists
-- the recorder's corollary
pub mod Recorder
-- ---- examples of the statement, by computation

-- what they share
pub mod ExampleParts
-- two lists that meet every premise
pub mod ExampleLists
-- the same with an insert
pub mod ExampleInsert
-- premises that are not idle
pub mod ExamplePremises
pub mod ExampleCalls
