-- What the table of cases speaks of: its numbers, and its plans with their runs.
pub mod Numbers
pub mod Plans
