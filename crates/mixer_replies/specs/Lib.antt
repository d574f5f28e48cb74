-- The reply for each answer.
pub mod Replies
