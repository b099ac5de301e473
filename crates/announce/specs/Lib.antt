pub mod Stops
pub mod Description
pub mod Announcing
-- Definitions for the inner functions.
pub mod Rows
pub mod Reach
pub mod Writing
