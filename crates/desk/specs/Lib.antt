-- What the contracts speak of: drafts and gains.
pub mod Draft
pub mod Gains
