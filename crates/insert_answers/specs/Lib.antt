-- the areas of an insert's tests
pub mod Lent
