-- What belongs to no one function: `Covered`, the 24 pairs; `Tables`, the entries and their gains one by one; `Faults`, the pairs seen and what is
-- wrong with them; `Answers`, which test answers; `Exact`, when a table is accepted; `Sizes`, how many entries and gains it then has; `With`, what a
-- fold with a table answers and leaves; `Examples`, worked examples.
pub mod Covered
pub mod Tables
pub mod Faults
pub mod Answers
pub mod Exact
pub mod Sizes
pub mod With
pub mod Examples
