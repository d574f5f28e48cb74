-- The laws of the comparisons and of floats with their bits.
pub mod Alike
pub mod Bits
