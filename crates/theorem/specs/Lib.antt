-- The statement of the two-list theorem: builds, lists of calls and their journals, what the trace and the clean answer say, and demand 3 clause by
-- clause; and what follows for the recorder.
pub mod Builds
pub mod Journal
pub mod Traced
pub mod Statement
pub mod Recorder
