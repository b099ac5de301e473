-- Lists of marks, and packets as words.
pub mod Rows
pub mod Words
pub mod Readings
-- A machine that takes the packets of an announcement one after another, and when it can go on to the end.
pub mod Machine
pub mod Back
pub mod Forth
pub mod Runs
-- What it runs over to the end are the announcements.
pub mod Stacks
pub mod Sending
pub mod Announcing
pub mod Parsing
-- Where an announcement stands, and its quadlets.
pub mod Standings
pub mod Quadlets
pub mod Acceptance
pub mod Passing
pub mod Enough
-- The cablings read back from their packets.
pub mod RebuiltWords
pub mod RebuiltNodes
pub mod Rebuilt
-- Which quadlets begin an announcement.
pub mod Recognition
