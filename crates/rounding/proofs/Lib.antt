-- `Closest`: a quotient rounded to a whole number. `Pattern`: the definition by cases, and its bounds. `Units`: the bits of what `round` gives.
-- `Fields`: the definition by bits equals the one by fractions. `Signs` and `Rounded`: laws of the one by fractions.
-- For other crates, of floats in either format: `Own`, what a format holds, 1 × x and +0 + x; `Errors`, how far a rounding goes from the value; `Values`, sums,
-- products, quotients and the order by fractions. Of the definition: `Laws`, and `Examples` of both.
mod Closest
mod Pattern
pub mod Own
mod Units
pub mod Errors
mod Fields
mod Signs
mod Rounded
pub mod Values
pub mod Laws
pub mod Examples
