-- Laws: `Sift` of the numbers that pass a test, `Laws` of sets, and, for this crate's own proofs, `Bits` of the bits of a word and `Words` of
-- the words of a set.
pub mod Sift
pub mod Laws
mod Bits
mod Words
