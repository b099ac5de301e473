-- The subject: marks, speeds, packet words, nodes, cablings and what they announce.
pub mod Codes
pub mod Marks
pub mod Speeds
pub mod Packets
pub mod Nodes
pub mod Cabling
pub mod Announcement
-- Words read as packets, and the numbers of the stops.
pub mod Reading
pub mod Stops
