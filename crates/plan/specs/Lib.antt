-- What the contracts of the plan check and of the calls above cite: the plan's record, the limits, the step words, the lent areas, and the plan check. `Sound` says what a plan is that the check accepts;
-- `Resolved` is a step with the buffers and weights that it names; `Loops` has what the check's loops go by.
pub mod PlanRecord
pub mod Limits
pub mod Words
pub mod Records
pub mod Areas
pub mod Check
pub mod Sound
pub mod Resolved
pub mod Loops
