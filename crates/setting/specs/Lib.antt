-- What the crate's contracts cite: a setting.
pub mod Setting
