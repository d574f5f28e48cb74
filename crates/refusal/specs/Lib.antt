-- What the crate's contracts cite: the numbers of document 01, and which of several tests answers.
pub mod Numbers
pub mod Tests
