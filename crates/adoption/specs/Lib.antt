-- What the crate's contracts cite: an adoption, and what its private functions require.
pub mod Adoption
pub mod Fits
