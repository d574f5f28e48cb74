-- What the contract of `process` cites: a run, and its areas as the code holds them. `Loops` has what the functions of `run_process` below it go by,
-- `Calls` lists of settings and runs.
pub mod Run
pub mod Lent
pub mod Loops
pub mod Calls
