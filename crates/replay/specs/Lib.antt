-- What the contracts of the lent areas speak of.
pub mod Lists
