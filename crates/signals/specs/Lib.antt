-- What the contracts speak of: the digest and the signals.
pub mod Digest
pub mod Signals
