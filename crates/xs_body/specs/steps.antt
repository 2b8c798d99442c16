pub mod Lists
pub mod Jobs
pub mod Passed
pub mod Sharing
pub mod Making
pub mod Frames
pub mod Numbers
pub mod Attempts
