-- Laws that belong to no one function, for the crates above too.

-- the channel lookup and the directory
pub mod Input
-- an entry appended to the directory
pub mod Appended
-- the place behind the last entry of each input
pub mod Ends
