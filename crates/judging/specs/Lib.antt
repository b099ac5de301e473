-- Which quadlets begin an announcement.
pub mod Beginnings
-- Where an announcement stands after some quadlets, and the tests that can turn the next one away.
pub mod Standing
pub mod Tests
pub mod Stops
-- When an announcement can still be completed.
pub mod Completion
-- The cablings read back from their packets.
pub mod Rebuilding
