-- What the contracts of the insert cite: the builder calls that it is made of, and its tests, its answer and what it leaves. `Layout` has lists of calls of
-- which each is a single builder call or an insert.
pub mod Wiring
pub mod Insert
pub mod Layout
pub mod Found
