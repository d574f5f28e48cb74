-- turns of a list of ids
pub mod Ids
