-- A node joins the loose ends that it takes: the far ends are set, port by port, and the rows are those of the cabling that then waits.
pub mod Leads
pub mod Hanging
pub mod Ending
-- Marks are counted, and a packet's parts are judged as the tests say.
pub mod Marking
pub mod Judges
pub mod Verdicts
-- The tree under way tallies with the packets taken, packet by packet: while its node goes on, and when it ends.
pub mod Telling
pub mod Tallying
pub mod Growing
pub mod Closing
pub mod Taking
-- What holds of a gathering, and its verdict, its record, its answers and its fills.
pub mod Judgement
pub mod Gatherings
pub mod Settling
pub mod Asking
pub mod Fills
