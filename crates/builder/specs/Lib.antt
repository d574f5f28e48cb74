-- What the contracts of the builder calls cite: how much a call adds, the calls, and what lists of them leave. `Sums` has what lists of calls add and test as one.
pub mod Growth
pub mod Calls
pub mod Built
pub mod Sums
