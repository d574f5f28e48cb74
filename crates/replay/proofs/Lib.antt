-- The laws of the lent areas.
pub mod Rooms
