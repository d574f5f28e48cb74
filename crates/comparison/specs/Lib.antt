-- What the comparisons speak of.
pub mod Lists
