-- The lines, the print of a record, how a line is placed in a buffer, and the numbers of the stops.
pub mod Lines
pub mod Print
pub mod Placing
pub mod Stops
-- What a line under construction holds, and how much.
pub mod Written
pub mod Limits
