-- document 01's table of cases
pub mod Table
