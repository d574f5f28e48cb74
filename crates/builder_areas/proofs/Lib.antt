-- a part of an area that is written whole
pub mod Slices
