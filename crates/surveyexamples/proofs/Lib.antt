pub mod Computed
pub mod Shown
