-- laws of the signals
pub mod Laws
