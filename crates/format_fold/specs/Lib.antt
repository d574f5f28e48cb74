-- What the crate's contracts cite: the fold of each label, the matrix with its refusals, and the table of ITU-R BS.775.
pub mod Folds
pub mod Width
pub mod Bs775
