-- What the contracts of the sample loops cite: buffers sample by sample, what Patch, Gain, Matrix, Send, Clear and Output do to them, and what one piece
-- of a buffer is after a loop.
pub mod Samples
pub mod Mix
pub mod Loops
