-- `Answers`, which test of a call answers; `Examples`, worked examples of the definitions.
pub mod Answers
pub mod Examples
