-- The area of the source sets, also for the crates above; and for this crate alone the walk.
pub mod Stored
mod Walking
