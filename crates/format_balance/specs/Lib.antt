-- What the crate's contracts cite: the balance and the width.
pub mod Balance
