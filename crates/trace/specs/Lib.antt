-- What the contracts of the trace's calls cite: the source sets, the clean plan, and the calls.
pub mod Sources
pub mod Clean
pub mod Calls
