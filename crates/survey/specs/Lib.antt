-- What a cabling shows: its nodes by number, with fields, marks and far ends.
pub mod Nodes
-- What gatherings and records stand for, and what each call answers and leaves.
pub mod Views
pub mod Offering
pub mod Filling
pub mod Settling
pub mod Questions
-- Inside: cablings that wait for their parent, and how a node joins them.
pub mod Waiting
pub mod Joining
pub mod Marks
-- Inside: how the tree under way judges and hears a packet, how it tallies with the packets taken, and what the parts of a call answer to each other.
pub mod Judging
pub mod Hearing
pub mod Tallies
pub mod Inside
