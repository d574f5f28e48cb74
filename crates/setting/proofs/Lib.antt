-- Laws that belong to no one function, for the crates above too: what a setting's answer says, and what the call leaves.
pub mod Setting
