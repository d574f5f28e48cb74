-- Laws of lists: `Stores` of a run of stores and of parts, `Filled` of lists made place by place, `Tables` of tests that are computed
-- over a whole table, `Scans` of tests of one entry after another, `Entries` of what the entries are; `Bools` of what a test is made of.
pub mod Stores
pub mod Filled
pub mod Tables
pub mod Bools
pub mod Scans
pub mod Entries
