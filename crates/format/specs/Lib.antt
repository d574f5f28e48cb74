-- What the contracts cite, here and in the crates above: the labels, the formats, and some numbers as floats.
pub mod Labels
pub mod Formats
pub mod Floats
