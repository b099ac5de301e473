pub mod Codes
pub mod Same
pub mod Digits
pub mod Trips
pub mod Apart
pub mod Tells
