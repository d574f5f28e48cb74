-- What the builder's first call answers, and the state of a builder with its areas.
pub mod New
pub mod Lent
